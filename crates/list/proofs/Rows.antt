-- What a walk has done, from what its parts have done: a dead end, a leaf, and a split from its two sides.
use mathlib.Core.Path.{◌≡◌, refl, ap, sym, ◌∙◌}
use mathlib.Core.List.{List, [], ◌++◌, map, append-nil}
use Prim.Native.Nat.{ℕ, suc, ◌+◌, ◌*◌, ◌-◌, ◌≤◌, ◌<◌}
use native.Mathlib.Nat.{add-zero, suc-mul, mul-le-mul_right}
use native.Mathlib.Omega.{arith}
use lib.ListN.{length, take, drop, length-append, length-map}
use lib.Seq.{take-append-add, take-length}
use Rattle.general.specs.Appending.{Appended, append_nothing, append_both, appended_past}
use Rattle.general.specs.Booleans.{bit}
use Rattle.theory.specs.Formula.{Choice}
use Rattle.theory.specs.Listing.{row_bytes}
use Rattle.theory.specs.Search.{choice_of}
use Rattle.theory.specs.State.{State}
use Rattle.theory.specs.Tree.{branch, Run, run, split, choices_found, visit}
use Rattle.theory.proofs.Leaves.{choice_long}
use Rattle.theory.proofs.Rows.{rows_append}
use Rattle.theory.proofs.Tree.{choices_length, choices_split}
use Rattle.list.specs.declared.Ending.{Ending}
use Rattle.list.specs.declared.Ending.TheVariants.{All, More, Stopped}
use Rattle.list.specs.declared.Level.{Level}
use Rattle.list.specs.declared.Walk.{Walk}
use Rattle.list.specs.Walk.{Rowable, under, counted, room, leaf_run, Wrote, EndsIn, Walked}

-- a row that is left lies within the room
pub row_fits : (row rows n m : ℕ) → row < rows → rows * n ≤ m → row * n + n ≤ m
row_fits row rows n m h k = omega (arith, suc-mul row n, mul-le-mul_right {m = suc row} {n = rows} n (omega arith))

rows_fit : (row rows n m : ℕ) → row ≤ rows → rows * n ≤ m → row * n ≤ m
rows_fit row rows n m h k = omega (arith, mul-le-mul_right {m = row} {n = rows} n h)

-- told by another ending
ends_as : (e f : Ending) → e ≡ f → (l : Level) (r : Run Choice) (old new : List ℕ) (w : Walk) → EndsIn e l r old new w → EndsIn f l r old new w
ends_as e f q l r old new w h = rw (← q) h

same_run : {r r' : Run Choice} → r ≡ r' → (e : Ending) (l : Level) (old new : List ℕ) (w : Walk) → EndsIn e l r' old new w → EndsIn e l r old new w
same_run q e l old new w h = rw q h

pub same_walked : {r r' : Run Choice} → r ≡ r' → (l : Level) (old new : List ℕ) (w : Walk) → Walked l r' old new w → Walked l r old new w
same_walked q l old new w = same_run q w.ending l old new w

-- a walk writes no more rows than are left, and makes no more splits than it may
module _ (l : Level) (r : Run Choice) (old new : List ℕ) (w : Walk) where
  pub walked_rows : Walked l r old new w → w.written ≤ room l
  walked_rows h = go w.ending h
    where
      go : (e : Ending) → EndsIn e l r old new w → w.written ≤ room l
      go All h = omega (arith, h.0, h.1.rows_is)
      go More h = omega (arith, h.1.rows_is)
      go Stopped h = h.few

  pub walked_count : Walked l r old new w → w.count ≤ l.left
  walked_count h = go w.ending h
    where
      go : (e : Ending) → EndsIn e l r old new w → w.count ≤ l.left
      go All h = omega (arith, h.1.enough, h.1.count)
      go More h = omega (arith, h.1.enough, h.1.count)
      go Stopped h = omega (arith, h.count)

-- walks without a split ------------------------------------------------------------------------------------------

module _ {l : Level} {old : List ℕ} (k : Rowable l old) where
  -- nothing is written
  unwritten : Appended old (l.row * l.variables) [] old ((l.row + 0) * l.variables)
  unwritten = let e : l.row + 0 ≡ l.row = add-zero l.row in rw e (append_nothing old (l.row * l.variables) (rows_fit l.row l.wanted l.variables (length old) k.next k.fits))

  -- "Dead end: no layout here."
  pub dead_walked : Walked l (run [] 0) old old (record { ending = All; written = 0; count = 0 })
  unfolding row_bytes
  dead_walked = (omega arith, record { enough = omega arith; count = refl; rows_is = refl; bytes = unwritten })

  module _ (s : State) where
    -- one layout more than there are rows
    pub leaf_more : l.row ≡ l.wanted → Walked l (leaf_run l.variables s) old old (record { ending = More; written = 0; count = 0 })
    unfolding row_bytes
    leaf_more e =
        let none_left : room l ≡ 0 = omega arith in
        (rw none_left, record { enough = omega arith; count = refl; rows_is = sym none_left; bytes = rw none_left unwritten })

    -- a layout in the next row
    pub leaf_row : ¬ (l.row ≡ l.wanted) → (new : List ℕ) →
        new ≡ take (l.row * l.variables) old ++ (map bit (choice_of l.variables s) ++ drop (l.row * l.variables + l.variables) old) →
        Walked l (leaf_run l.variables s) old new (record { ending = All; written = 1; count = 0 })
    unfolding row_bytes
    leaf_row h new e =
        let next : (l.row + 1) * l.variables ≡ l.row * l.variables + l.variables = omega (arith, suc-mul l.row l.variables) in (
          omega (arith, k.next),
          record {
            enough = omega arith;
            count = refl;
            rows_is = refl;
            bytes = rw (next, append-nil (map bit (choice_of l.variables s))) (record {
              ends = omega (arith, length-map (choice_of l.variables s) bit, choice_long l.variables s);
              room = row_fits l.row l.wanted l.variables (length old) (omega (arith, k.next)) k.fits;
              whole = e;
            });
          },
        )

-- a split of its sides -------------------------------------------------------------------------------------------

module _ (l : Level) (p : ℕ) (walk : ℕ → State → Run Choice) (out taken : State) where
  abbrev whole : Run Choice
  whole = visit walk (suc (room l)) (branch p out taken)

  abbrev first : Run Choice
  first = walk (suc (room l)) out

  -- what both sides find
  split_choices : (second : Run Choice) → choices_found (split p first second).found ≡ choices_found first.found ++ choices_found second.found
  split_choices second = choices_split p first.found second.found

  split_length : (second : Run Choice) → length (split p first second).found ≡ length first.found + length second.found
  split_length second = omega (
    arith,
    choices_length (split p first second).found,
    ap length (split_choices second),
    length-append (choices_found first.found) (choices_found second.found),
    choices_length first.found,
    choices_length second.found,
  )

  -- "stopped when a split is needed and the allowance is used up"
  pub none_left : l.left ≡ 0 → (old : List ℕ) → Walked l whole old old (record { ending = Stopped; written = 0; count = 0 })
  none_left e old = record { short = omega arith; count = sym e; few = omega arith; beyond = refl }

  module _ (some_left : ¬ (l.left ≡ 0)) (old mid : List ℕ) (w : Walk) (ew : Walked (under p (l.left - 1) l.row l) first old mid w) where
    -- the left-out side is stopped, or has found all that is wanted
    pub first_side : ¬ (w.ending ≡ All) → Walked l whole old mid (counted 0 1 w)
    first_side other = go w.ending refl ew
      where
        untried : length first.found ≡ suc (room l) → whole ≡ split p first (run [] 0)
        untried e = let none_wanted : suc (room l) - length first.found ≡ 0 = omega arith in rw none_wanted

        go : (e : Ending) → w.ending ≡ e → EndsIn e (under p (l.left - 1) l.row l) first old mid w → EndsIn e l whole old mid (counted 0 1 w)
        go All e h = absurd (other e)
        go More e h = same_run (untried h.0) More l old mid (counted 0 1 w) (
          omega (arith, split_length (run [] 0), h.0),
          record {
            enough = omega (arith, h.1.enough);
            count = omega (arith, h.1.count);
            rows_is = omega (arith, h.1.rows_is);
            bytes = rw (split_choices (run [] 0), append-nil (choices_found first.found)) h.1.bytes;
          },
        )
        go Stopped e h = record { short = omega (arith, h.short); count = omega (arith, h.count); few = omega (arith, h.few); beyond = h.beyond }

    -- it has found all that it has, and rows are left for the taken side
    pub second_side : l.row ≤ l.wanted → w.ending ≡ All → (new : List ℕ) (v : Walk) →
        (let r = l.row + w.written in Walked (under p (l.left - (1 + w.count)) r l) (walk (suc (l.wanted - r)) taken) mid new v) →
        Walked l whole old new (counted w.written (1 + w.count) v)
    second_side some-room all new v ev = go v.ending ev
      where
        a : EndsIn All (under p (l.left - 1) l.row l) first old mid w
        a = ends_as w.ending All all _ _ _ _ _ ew

        next : Level
        next = under p (l.left - (1 + w.count)) (l.row + w.written) l

        second : Run Choice
        second = walk (suc (room next)) taken

        whole_is : whole ≡ split p first second
        whole_is = let wanted : suc (room l) - length first.found ≡ suc (room next) = omega (arith, a.0, a.1.rows_is) in rw wanted

        -- the rows of the left-out side, up to the next row
        written : Appended old (l.row * l.variables) (row_bytes (choices_found first.found)) mid (next.row * l.variables)
        written =
            let all_of : take (length first.found) (choices_found first.found) ≡ choices_found first.found =
            ap (λ (k : ℕ). take k (choices_found first.found)) (sym (choices_length first.found)) ∙ take-length (choices_found first.found) in
            let here : l.row + length first.found ≡ l.row + w.written = omega (arith, a.1.rows_is) in
            rw (all_of, here) at a.1.bytes

        rows : (m : ℕ) → l.row + (length first.found + m) ≡ next.row + m
        rows m = omega (arith, a.1.rows_is)

        chosen : (m : ℕ) → take (length first.found + m) (choices_found (split p first second).found) ≡ choices_found first.found ++ take m (choices_found second.found)
        chosen m =
            ap (take (length first.found + m)) (split_choices second) ∙
            ap (λ (k : ℕ). take (k + m) (choices_found first.found ++ choices_found second.found)) (sym (choices_length first.found)) ∙
            take-append-add (choices_found first.found) (choices_found second.found) m

        both : (m : ℕ) → Wrote next second mid new v m → Wrote l (split p first second) old new (counted w.written (1 + w.count) v) (length first.found + m)
        both m h = record {
          enough = omega (arith, a.1.enough, a.1.count, h.enough);
          count = omega (arith, a.1.count, h.count);
          rows_is = omega (arith, a.1.rows_is, h.rows_is);
          bytes = rw (chosen m, rows_append (choices_found first.found) (take m (choices_found second.found)), rows m) (append_both written h.bytes);
        }

        go : (e : Ending) → EndsIn e next second mid new v → EndsIn e l whole old new (counted w.written (1 + w.count) v)
        go All h =
            let sum : length first.found + length second.found ≡ length (split p first second).found = sym (split_length second) in
            same_run whole_is All l old new (counted w.written (1 + w.count) v)
            (omega (arith, split_length second, a.0, a.1.rows_is, h.0), rw sum at (both (length second.found) h.1))
        go More h =
            let filled : length first.found + room next ≡ room l = omega (arith, a.0, a.1.rows_is) in
            same_run whole_is More l old new (counted w.written (1 + w.count) v)
            (omega (arith, split_length second, h.0, a.0, a.1.rows_is), rw filled at (both (room next) h.1))
        go Stopped h = same_run whole_is Stopped l old new (counted w.written (1 + w.count) v) (record {
          short = omega (arith, h.short, a.1.count);
          count = omega (arith, h.count, a.1.count, a.1.enough);
          few = omega (arith, h.few, a.0, a.1.rows_is);
          beyond = h.beyond ∙ appended_past a.1.bytes (l.wanted * l.variables) (mul-le-mul_right {m = l.row + length first.found} {n = l.wanted} l.variables (omega (arith, a.0, some-room)));
        })
