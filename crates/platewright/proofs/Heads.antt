-- Heads stored in two lists of numbers are heads stored in one list of heads.
use mathlib.Core.Path.{◌≡◌, refl, ap, ◌∙◌}
use mathlib.Core.List.{List, [], ◌∷◌, ◌++◌, map, append_assoc, map-append}
use Prim.Native.Nat.{ℕ, zero, suc, ◌+◌, ◌-◌, ◌<◌, ◌≤◌, min}
use native.Mathlib.Nat.{zero-add}
use native.Mathlib.Numerals.{add-one}
use native.Mathlib.Omega.{arith}
use lib.IntN.{ℤ}
use lib.ListN.{length, set, drop, length-map, length-append, length-drop}
use lib.Seq.{sets, sets-eq}
use Rattle.receipt.specs.declared.Head.{Head}
use Rattle.std.specs.Prelude.{Result, Ok, Err}
use Rattle.receipt.specs.declared.Refusal.{Refusal}
use Rattle.receipt.specs.Receipt.{pass, refused_receipt}
use Rattle.receipt.specs.Answers.{indexing_receipt}
use Rattle.theory.specs.Calls.{over, IndexCall, index_call}
use Rattle.index.specs.declared.Next.{Next}
use Rattle.index.specs.Index.{next_head, heads_at, due_of, called}
use Rattle.index.proofs.Heads.{heads_length, Stored, index_stored}
use Rattle.platewright.specs.Answer.{plain}
use Rattle.platewright.specs.Heads.{start_of, entries_of, paired, indexed}

-- the loop: those from k on are still to be stored, of the groups from `at` on
abbrev pub Storing : (Head → ℕ) → ℕ → List ℤ → List ℕ → List ℕ → ℕ → ℕ → Type 0
Storing f count t l₀ l at k = sets l k (map f (heads_at (count - k) t at)) ≡ sets l₀ 0 (map f (heads_at count t 0))

pub storing_begun : (f : Head → ℕ) (count : ℕ) (t : List ℤ) (l₀ : List ℕ) → Storing f count t l₀ l₀ 0 0
storing_begun f count t l₀ = let z : count - 0 ≡ count = omega arith in rw z

module _ (f : Head → ℕ) (count : ℕ) (t : List ℤ) (l₀ l : List ℕ) (at k : ℕ) (s : Storing f count t l₀ l at k) where
  pub storing_turned : (x : Next) → x ≡ next_head t at → k < count → Storing f count t l₀ (set l k (f x.head)) x.next (k + 1)
  unfolding heads_at
  storing_turned x e h = let z : count - k ≡ suc (count - (k + 1)) = omega arith in rw (e, add-one) (rw (z, add-one) at s)

  pub storing_ended : count ≤ k → l ≡ sets l₀ 0 (map f (heads_at count t 0))
  unfolding heads_at
  storing_ended h = let z : count - k ≡ 0 = omega arith in rw z at s

-- what two lists of numbers and the list of heads that they are have in common
pub paired_length : (ss es : List ℕ) → length (paired ss es) ≡ min (length ss) (length es)
unfolding paired
paired_length [] es = omega arith
paired_length (s ∷ ss) [] = omega arith
paired_length (s ∷ ss) (e ∷ es) = omega (arith, paired_length ss es)

-- a list of numbers l is what f reads of the heads hs, and what is past them
pub record Reads (f : Head → ℕ) (hs : List Head) (l : List ℕ) : Type 0 where
  pub short : length hs ≤ length l
  pub rest : (h : ℕ) → h ≤ length hs → map f (drop h hs) ++ drop (length hs) l ≡ drop h l

rest_starts : (ss es : List ℕ) (h : ℕ) → h ≤ length (paired ss es) → map start_of (drop h (paired ss es)) ++ drop (length (paired ss es)) ss ≡ drop h ss
unfolding paired
rest_starts [] es zero i = refl
rest_starts [] es (suc h) i = refl
rest_starts (s ∷ ss) [] zero i = refl
rest_starts (s ∷ ss) [] (suc h) i = absurd (omega arith)
rest_starts (s ∷ ss) (e ∷ es) zero i = ap (λ (l : List ℕ). s ∷ l) (rest_starts ss es 0 (omega arith))
rest_starts (s ∷ ss) (e ∷ es) (suc h) i = rest_starts ss es h (omega arith)

rest_entries : (ss es : List ℕ) (h : ℕ) → h ≤ length (paired ss es) → map entries_of (drop h (paired ss es)) ++ drop (length (paired ss es)) es ≡ drop h es
unfolding paired
rest_entries [] es zero i = refl
rest_entries [] es (suc h) i = absurd (omega arith)
rest_entries (s ∷ ss) [] zero i = refl
rest_entries (s ∷ ss) [] (suc h) i = refl
rest_entries (s ∷ ss) (e ∷ es) zero i = ap (λ (l : List ℕ). e ∷ l) (rest_entries ss es 0 (omega arith))
rest_entries (s ∷ ss) (e ∷ es) (suc h) i = rest_entries ss es h (omega arith)

-- the heads H stored from the first on, as the lists have them
module _ {f : Head → ℕ} {hs : List Head} {l : List ℕ} (r : Reads f hs l) (H : List Head) where
  stored : length H ≤ length hs → sets l 0 (map f H) ≡ (let hs' = over (length H) H hs in over (length hs') (map f hs') l)
  stored i =
      let m : length (map f H) ≡ length H = length-map H f in
      let k : length (over (length H) H hs) ≡ length hs = omega (arith, i, length-append H (drop (length H) hs), length-drop (length H) hs) in
      let a : sets l 0 (map f H) ≡ map f H ++ drop (length H) l = sets-eq (map f H) l 0 (omega (arith, i, m, r.short)) ∙ rw (m, zero-add) in
      a ∙ rw (k, map-append, append_assoc, r.rest (length H) i)

module _ (n : ℕ) (t : List ℤ) (ss es : List ℕ) where
  abbrev hs : List Head
  hs = paired ss es

  starts_read : Reads start_of hs ss
  starts_read = record { short = omega (arith, paired_length ss es); rest = rest_starts ss es }

  entries_read : Reads entries_of hs es
  entries_read = record { short = omega (arith, paired_length ss es); rest = rest_entries ss es }

  -- what is due, by the room of the shorter list
  due : (d : Result ℕ Refusal) → d ≡ due_of n t (min (length ss) (length es)) → Stored n t hs d
  due d e = rw (e, ← paired_length ss es) (index_stored n t hs)

  pub refused_flattened : (r : Refusal) → Err r ≡ due_of n t (min (length ss) (length es)) → (plain (refused_receipt r), (ss, es)) ≡ indexed (index_call n t hs) ss es
  refused_flattened r e = rw (← due (Err r) e, starts_read.rest 0 (omega arith), entries_read.rest 0 (omega arith))

  module _ (d : ℕ) (is : Ok d ≡ due_of n t (min (length ss) (length es))) where
    -- both lists have room for it
    pub room_both : (d ≤ length ss) × (d ≤ length es)
    room_both = let r = (due (Ok d) is).0 in (omega (arith, r, paired_length ss es), omega (arith, r, paired_length ss es))

    abbrev H : List Head
    H = heads_at d t 0

    pub index_flattened : (plain (indexing_receipt pass), (sets ss 0 (map start_of H), sets es 0 (map entries_of H))) ≡ indexed (index_call n t hs) ss es
    index_flattened =
        let s = due (Ok d) is in
        let k : length H ≡ d = heads_length d t 0 in
        let e : called pass (over (length H) H hs) ≡ index_call n t hs = rw k s.1 in
        rw (stored starts_read H (omega (arith, s.0, k)), stored entries_read H (omega (arith, s.0, k))) (ap (λ (c : IndexCall). indexed c ss es) e)
