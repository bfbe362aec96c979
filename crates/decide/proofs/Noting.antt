-- Notes go together, and one occurrence notes what it must.
use mathlib.Core.Path.{◌≡◌, refl, ◌∙◌}
use mathlib.Core.Bool.{Bool, true, false, ◌||◌}
use Prim.Native.Nat.{ℕ, ◌+◌, ◌-◌, ◌/◌, ◌%◌, ◌≤◌, ◌<◌}
use native.Mathlib.Decide.{dec_lt, ℕ_discrete as dec_eq}
use native.Mathlib.Omega.{arith}
use borrow.Author.Tests.{eq-eqb, ne_eqb, lt-ltb}
use lib.Dec.{eqb, ltb}
use lib.ListN.{get_or, set, length}
use lib.Seq.{get_or-set_same, get_or-set_other}
use Rattle.general.specs.Bits.{bit_le}
use Rattle.occurrences.specs.Index.{clause_count}
use Rattle.tally.specs.Tally.{with_value, with_count}
use Rattle.tally.specs.Counts.{one_true}
use Rattle.notes.specs.Notes.{Noted, with_todo, with_todo_end}
use Rattle.decide.specs.Members.{recount_of, noting, Adding, Taken}
use Rattle.occurrences.specs.declared.Index.{Index}
use Rattle.tally.specs.declared.Tally.{Tally}
use Rattle.notes.specs.declared.Notes.{Notes}

pub adding_none : {ix : Index} {t : Tally} {n : Notes} → Adding ix t n t n
adding_none = record {
  grows = omega arith;
  kept = λ i h. refl;
  fresh = λ i a b. absurd (omega arith);
  few = λ g h a b. absurd (omega arith);
  never = λ g h o. o;
  won = λ g h a b. absurd (omega arith);
  links = refl;
  blocks = refl;
  blocks_end = refl;
  gathered = refl;
}

module _ {ix : Index} {t : Tally} {n : Notes} {u : Tally} {m : Notes} {v : Tally} {o : Notes} (a : Adding ix t n u m) (b : Adding ix u m v o) where
  early : (g : ℕ) → Noted m n.todo_end g → Noted o n.todo_end g
  early g i = (i.0, i.1, omega (arith, i.2, b.grows), b.kept i.0 i.2 ∙ i.3)

  late : (g : ℕ) → Noted o m.todo_end g → Noted o n.todo_end g
  late g i = (i.0, omega (arith, i.1, a.grows), i.2, i.3)

  pub adding_trans : Adding ix t n v o
  adding_trans = record {
    grows = omega (arith, a.grows, b.grows);
    kept = λ i h. b.kept i (omega (arith, a.grows)) ∙ a.kept i h;
    fresh = λ i x y. elim (dec_lt i m.todo_end) [
      | yes p ↦ rw (b.kept i p) (a.fresh i x p)
      | no p ↦ b.fresh i (omega arith) y
    ];
    few = λ g h x y. elim (dec_lt (get_or v.counts g 0) (get_or u.counts g 0)) [
      | yes p ↦ late g (b.few g h x p)
      | no p ↦ early g (a.few g h (omega arith) (omega arith))
    ];
    never = λ g h o. b.never g h (a.never g h o);
    won = λ g h x y. elim (dec_lt (get_or u.counts g 0) one_true) [
      | yes p ↦ late g (b.won g h p y)
      | no p ↦ early g (a.won g h x (omega arith))
    ];
    links = b.links ∙ a.links;
    blocks = b.blocks ∙ a.blocks;
    blocks_end = b.blocks_end ∙ a.blocks_end;
    gathered = b.gathered ∙ a.gathered;
  }

-- no matter what the values were
pub adding_valued : {ix : Index} (t : Tally) {n : Notes} (p to : ℕ) {u : Tally} {m : Notes} → Adding ix (with_value p to t) n u m → Adding ix t n u m
adding_valued t p to a = record {
  grows = a.grows;
  kept = a.kept;
  fresh = a.fresh;
  few = a.few;
  never = a.never;
  won = a.won;
  links = a.links;
  blocks = a.blocks;
  blocks_end = a.blocks_end;
  gathered = a.gathered;
}

pub taken_trans : {ix : Index} {t : Tally} {n : Notes} {u : Tally} {m : Notes} {v : Tally} {o : Notes} → Taken ix t n u m → Taken ix u m v o → Taken ix t n v o
taken_trans a b = record { exact = b.exact; adding = adding_trans a.adding b.adding; paid = omega (arith, a.paid, b.paid) }

-- one occurrence: the count of its clause becomes c, and the clause is written past the end of the list, which may grow by it
module _ (ix : Index) (t : Tally) (n : Notes) (o to c : ℕ) (is : c ≡ recount_of (get_or t.counts (o / 2) 0) o to) (inside : o / 2 < clause_count ix)
    (some : 0 < c) (counted : o / 2 < length t.counts) (fits : n.todo_end < length n.todo) where
  abbrev after : Notes
  after = with_todo_end (n.todo_end + noting c o to) (with_todo n.todo_end (o / 2) n)

  noting_le : noting c o to ≤ 1
  noting_le = bit_le (ltb c 3 || eqb (o % 2) to)

  here : noting c o to ≡ 1 → Noted after n.todo_end (o / 2)
  here e = (n.todo_end, omega arith, omega arith, get_or-set_same n.todo n.todo_end (o / 2) 0 fits)

  pub adding_one : Adding ix t n (with_count (o / 2) c t) after
  adding_one = record {
    grows = omega arith;
    kept = λ i h. get_or-set_other n.todo n.todo_end i (o / 2) 0 (λ q. omega arith);
    fresh = λ i a b. let e : i ≡ n.todo_end = omega (arith, noting_le) in rw (e, get_or-set_same n.todo n.todo_end (o / 2) 0 fits) inside;
    few = λ g h.
        elim (dec_eq g (o / 2)) as (λ _. get_or (set t.counts (o / 2) c) g 0 < 3 → get_or (set t.counts (o / 2) c) g 0 < get_or t.counts g 0 → Noted after n.todo_end g) [
          | yes e ↦ rw (e, get_or-set_same t.counts (o / 2) c 0 counted) (λ x y. here (rw (lt-ltb c 3 x)))
          | no e ↦ rw (get_or-set_other t.counts (o / 2) g c 0 e) (λ x y. absurd (omega arith))
        ];
    never = λ g h.
        elim (dec_eq g (o / 2)) as (λ _. 0 < get_or t.counts g 0 → 0 < get_or (set t.counts (o / 2) c) g 0) [
          | yes e ↦ rw (e, get_or-set_same t.counts (o / 2) c 0 counted) (λ x. some)
          | no e ↦ rw (get_or-set_other t.counts (o / 2) g c 0 e) (λ x. x)
        ];
    won = λ g h.
        elim (dec_eq g (o / 2)) as (λ _. get_or t.counts g 0 < one_true → one_true ≤ get_or (set t.counts (o / 2) c) g 0 → Noted after n.todo_end g) [
          | yes e ↦ rw (e, get_or-set_same t.counts (o / 2) c 0 counted) (λ x y. here (gained x y))
          | no e ↦ rw (get_or-set_other t.counts (o / 2) g c 0 e) (λ x y. absurd (omega arith))
        ];
    links = refl;
    blocks = refl;
    blocks_end = refl;
    gathered = refl;
  }
    where
      or_right : (b : Bool) → (b || true) ≡ true
      or_right true = refl
      or_right false = refl

      gained : get_or t.counts (o / 2) 0 < one_true → one_true ≤ c → noting c o to ≡ 1
      gained x y = elim (dec_eq (o % 2) to) [
        | yes e ↦ rw (eq-eqb (o % 2) to e, or_right (ltb c 3))
        | no e ↦
            let z : eqb (o % 2) to ≡ false = ne_eqb (o % 2) to e in
            let h : c ≡ get_or t.counts (o / 2) 0 + 0 - 1 = rw z at is in
            absurd (omega arith)
      ]
