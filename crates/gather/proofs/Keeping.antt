-- Those of a kind among the clauses that were gathered go to the front, one after another.
use mathlib.Core.Path.{◌≡◌, refl, ap, sym, ◌∙◌}
use mathlib.Core.Logic.{◌≢◌}
use Prim.Native.Nat.{ℕ, ◌+◌, ◌≤◌, ◌<◌}
use native.Mathlib.Decide.{ℕ_discrete as dec_eq}
use native.Mathlib.Omega.{arith}
use lib.ListN.{get_or, length}
use Rattle.notes.specs.Notes.{with_gathered, max_gathered}
use Rattle.gather.specs.Gathering.{KeptFrom}
use Rattle.gather.proofs.Collects.{put_other, put_there, put_beside, beside_refl}
use Rattle.notes.specs.declared.Notes.{Notes}

abbrev gathered_in : Notes → ℕ → ℕ
gathered_in wk i = get_or wk.gathered i 0

-- where none was looked at, all are kept
pub kept_all : {Of : ℕ → Type 0} {wk : Notes} {start stop : ℕ} → start ≤ stop → KeptFrom Of wk start stop wk stop
kept_all h = record { grew = h; fewer = omega arith; beside = beside_refl; beyond = λ i b. refl; only = λ i a b. (i, a, b, refl); all = λ g d k. k }

-- fewer are asked for
pub kept_fewer : {Of To : ℕ → Type 0} {wk : Notes} {start stop : ℕ} {wk' : Notes} {end : ℕ} → ((g : ℕ) → To g → Of g) →
    KeptFrom Of wk start stop wk' end → KeptFrom To wk start stop wk' end
kept_fewer f k = record { grew = k.grew; fewer = k.fewer; beside = k.beside; beyond = k.beyond; only = k.only; all = λ g d. k.all g (f g d) }

-- the next clause, at place i, is put at `end`, and the end moves past it (r is 1) or stays (r is 0)
module _ {Of : ℕ → Type 0} {wk : Notes} {start i : ℕ} {wk' : Notes} {end : ℕ} (k : KeptFrom Of wk start i wk' end) (g : ℕ) (is : g ≡ gathered_in wk' i) where
  pub kept_next : g ≡ gathered_in wk i
  kept_next = is ∙ k.beyond i (omega arith)

  module _ (room : end < max_gathered) {wk'' : Notes} (put : wk'' ≡ with_gathered end g wk') (long : length wk'.gathered ≡ max_gathered) {r : ℕ} (low : r ≤ 1) (one : Of g → r ≡ 1) where
    here : gathered_in wk'' end ≡ g
    here = put_there wk' wk'' end g put long room

    other : (j : ℕ) → j ≢ end → gathered_in wk'' j ≡ gathered_in wk' j
    other = put_other wk' wk'' end g put

    pub kept_goes : {stop end' : ℕ} → stop ≡ i + 1 → end' ≡ end + r → KeptFrom Of wk start stop wk'' end'
    kept_goes s e = record {
      grew = omega (arith, k.grew);
      fewer = omega (arith, k.fewer);
      beside = put_beside wk' wk'' end g put k.beside;
      beyond = λ j b. other j (λ q. omega (arith, k.fewer)) ∙ k.beyond j (omega arith);
      only = λ j a b. elim (dec_eq j end) [
        | yes q ↦ rw (q, here, kept_next) (i, omega (arith, k.grew, k.fewer), omega arith, refl)
        | no q ↦ let w = k.only j a (omega arith) in (w.0, w.1, omega (arith, w.2), w.3 ∙ sym (other j q))
      ];
      all = λ h d (j, a, b, q). elim (dec_eq j i) [
        | yes z ↦ let v : g ≡ h = kept_next ∙ ap (gathered_in wk) (sym z) ∙ q in (end, k.grew, omega (arith, one (rw v d)), here ∙ v)
        | no z ↦ let w = k.all h d (j, a, omega arith, q) in (w.0, w.1, omega (arith, w.2), other w.0 (λ y. omega (arith, w.2)) ∙ w.3)
      ];
    }
