-- Seeing the literals of a clause, and of those of a chunk: what holds at the loop's head, after a turn and at the end.
use mathlib.Core.Path.{◌≡◌, ap, sym, subst, ◌∙◌}
use mathlib.Core.List.{List, Memᴰ}
use Prim.Native.Nat.{ℕ, ◌+◌, ◌%◌, ◌≤◌, ◌<◌}
use native.Mathlib.Decide.{ℕ_discrete as dec_eq}
use native.Mathlib.Omega.{arith}
use lib.Bits.{bit_or}
use lib.ListN.{get_or, length, set}
use lib.Seq.{get_or-set_same, get_or-set_other}
use mathlib.Core.Bool.{Bool, false}
use Rattle.general.specs.Sets.{Has, has_or_left, has_or_right}
use Rattle.literal.specs.declared.Literal.{Literal}
use Rattle.literal.specs.Literal.{code_of, literal_at, codes}
use Rattle.theory.specs.State.{value, standing}
use Rattle.theory.proofs.Counts.{Wide}
use Rattle.theory.proofs.Clauses.{standing_mem}
use Rattle.theory.proofs.Asks.{standing_no_false}
use Rattle.occurrences.specs.Index.{clause_of, literals}
use Rattle.occurrences.proofs.Slices.{member_literal}
use Rattle.tally.specs.Tally.{state_in, count_in}
use Rattle.gather.specs.Gathering.{is_wide}
use Rattle.meet.specs.Places.{number_at, clause_at}
use Rattle.pairs.specs.Seen.{chunk_size, Seen, IsSeen, SeenIn, Seeable, SeenBy, SeenAll, Seeing}
use Rattle.meet.proofs.Clauses.{wide_open, code_high}
use Rattle.meet.proofs.Widths.{not_wide}
use Rattle.occurrences.specs.declared.Index.{Index}
use Rattle.tally.specs.declared.Tally.{Tally}
use Rattle.notes.specs.declared.Notes.{Notes}

-- what the literal at place j of a clause stands for, by code
abbrev pub value_at : Tally → List ℕ → ℕ → ℕ
value_at st xs j = code_of (value (state_in st) (literal_at (get_or xs j 0)))

-- what stands in a clause has a place
pub standing_placed : {ix : Index} {st : Tally} {g : ℕ} → Seeable ix st g → {xs : List ℕ} → xs ≡ literals ix g → (y : Literal) → Memᴰ y (standing (state_in st) (clause_of ix g)) →
    (j : ℕ) × (j < length xs) × (value_at st xs j ≡ code_of y)
standing_placed {ix} {st} {g} s {xs} are y m =
    let w = standing_mem (state_in st) (clause_of ix g) y m in
    let j = member_literal ix g xs are w.written w.member in
    (j.0, j.1, ap (λ (l : Literal). code_of (value (state_in st) l)) (sym j.2) ∙ ap code_of w.valued)

-- a clause that is not wide is passed over
pub sees_narrow : {ix : Index} {st : Tally} {seen : List ℕ} {g : ℕ} (set : ℕ) → Seeable ix st g → (x : ℕ) (m : Bool) → x ≡ count_in st g → m ≡ is_wide x → m ≡ false → SeenBy ix st seen g set seen
sees_narrow {ix} {st} {g = g} set k x m counts tested z =
    record { kept = λ k x h. h; all = λ w. absurd (not_wide ix st k.index k.exact g k.inside x m counts tested z w) }

-- one literal more
abbrev pub with_seen : List ℕ → ℕ → ℕ → List ℕ
with_seen seen x w = set seen x (bit_or (get_or seen x 0) w)

module _ (seen : List ℕ) (whole : Seen seen) (x : ℕ) (low : x < codes) (w : ℕ) where
  there : get_or (with_seen seen x w) x 0 ≡ bit_or (get_or seen x 0) w
  there = get_or-set_same seen x (bit_or (get_or seen x 0) w) 0 (omega (arith, whole))

  seen_here : (k : ℕ) → Has w k → IsSeen (with_seen seen x w) k x
  seen_here k h = rw there (has_or_right (get_or seen x 0) w k h)

  seen_kept : (k y : ℕ) → IsSeen seen k y → IsSeen (with_seen seen x w) k y
  seen_kept k y h = elim (dec_eq y x) [
    | yes e ↦ rw (e, there) (has_or_left (get_or seen x 0) w k (rw e at h))
    | no e ↦ rw (get_or-set_other seen x y (bit_or (get_or seen x 0) w) 0 e) h
  ]

-- the literals of a clause before place i are seen
pub record Sees (st : Tally) (xs seen : List ℕ) (w : ℕ) (seen' : List ℕ) (i : ℕ) : Type 0 where
  pub kept : (k x : ℕ) → IsSeen seen k x → IsSeen seen' k x
  pub done : (k : ℕ) → Has w k → (j : ℕ) → j < i → IsSeen seen' k (value_at st xs j)

pub sees_begin : {st : Tally} {xs seen : List ℕ} (w : ℕ) → Sees st xs seen w seen 0
sees_begin w = record { kept = λ k x h. h; done = λ k h j a. absurd (omega arith) }

pub sees_go : {st : Tally} {xs seen : List ℕ} {w : ℕ} {seen' : List ℕ} {i : ℕ} → Sees st xs seen w seen' i → Seen seen' → (x : ℕ) → x < codes →
    x ≡ value_at st xs i → Sees st xs seen w (with_seen seen' x w) (i + 1)
sees_go {st} {xs} {w = w} {seen'} {i} o long x low is = record {
  kept = λ k y h. seen_kept seen' long x low w k y (o.kept k y h);
  done = λ k h j a. elim (dec_eq j i) [
    | yes e ↦ rw (e, ← is) (seen_here seen' long x low w k h)
    | no e ↦ seen_kept seen' long x low w k (value_at st xs j) (o.done k h j (omega arith))
  ];
}

pub sees_end : {ix : Index} {st : Tally} {g : ℕ} → Seeable ix st g → {xs : List ℕ} → xs ≡ literals ix g → {seen : List ℕ} {w : ℕ} {seen' : List ℕ} {i : ℕ} →
    Sees st xs seen w seen' i → length xs ≤ i → SeenBy ix st seen g w seen'
sees_end s are o h = record {
  kept = o.kept;
  all = λ w k b y m. let j = standing_placed s are y m in rw j.2 at (o.done k b j.0 (omega (arith, j.1)));
}

-- those of a chunk can be seen, and at the start none has to be
pub sees_all_ask : {ix : Index} {st : Tally} {wk : Notes} {a b i : ℕ} → Seeing ix st wk a b → a ≤ i → i < b → (g : ℕ) → g ≡ number_at wk i → Seeable ix st g
sees_all_ask {i = i} k f l g is = record { index = k.index; exact = k.exact; classes = k.classes; inside = rw is (k.placed.inside i f l) }

pub sees_all_begin : {ix : Index} {st : Tally} {wk : Notes} {a : ℕ} {seen : List ℕ} → SeenAll ix st wk a a seen
sees_all_begin = record { all = λ j f l. absurd (omega arith) }

-- those of a chunk: the literals of the ones before place i are seen
module _ {ix : Index} {st : Tally} {wk : Notes} {a : ℕ} {seen : List ℕ} {i : ℕ} (o : SeenAll ix st wk a i seen) where
  pub sees_all_go : (g : ℕ) → g ≡ number_at wk i → {w : ℕ} → Has w (i % chunk_size) → {seen' : List ℕ} → SeenBy ix st seen g w seen' →
      SeenAll ix st wk a (i + 1) seen'
  sees_all_go g is one {seen'} s = record {
    all = λ j f h. elim (dec_eq j i) [
      | yes e ↦ subst
          (λ (x : ℕ). Wide (standing (state_in st) (clause_at ix wk x)) → SeenIn st seen' (x % chunk_size) (clause_at ix wk x))
          (sym e)
          (subst (λ (x : ℕ). Wide (standing (state_in st) (clause_of ix x)) → SeenIn st seen' (i % chunk_size) (clause_of ix x)) is (λ w. s.all w (i % chunk_size) one))
      | no e ↦ λ w y m. s.kept (j % chunk_size) (code_of y) (o.all j f (omega arith) w y m)
    ];
  }

  -- the constants are not literals of a wide clause
  pub sees_all_end : (b : ℕ) → b ≤ i → SeenAll ix st wk a b (set (set seen 0 0) 1 0)
  sees_all_end b h = record {
    all = λ j f l w y m.
        let high = code_high y (wide_open (standing_no_false (state_in st) (clause_at ix wk j)) w y m) in
        rw (get_or-set_other (set seen 0 0) 1 (code_of y) 0 0 (λ z. omega arith), get_or-set_other seen 0 (code_of y) 0 0 (λ z. omega arith))
        (o.all j f (omega arith) w y m);
  }
