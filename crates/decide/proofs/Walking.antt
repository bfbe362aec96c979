-- The walk over the occurrences of a variable that became a constant: what holds at the loop's head, at the start, after a turn, at a dead end and at the end.
use mathlib.Core.Path.{◌≡◌, refl, ◌∙◌}
use mathlib.Core.Logic.{inl, inr}
use mathlib.Core.Bool.{Bool}
use mathlib.Core.List.{List, ◌∷◌}
use Prim.Native.Nat.{ℕ, ◌+◌, ◌*◌, ◌/◌, ◌≤◌, ◌<◌}
use native.Mathlib.Decide.{dec_lt}
use native.Mathlib.Omega.{arith}
use mir.Val.{bool_byte}
use lib.ListN.{get_or, set, drop, length, length-set, drop_of_length-le}
use Rattle.std.proofs.lemmas.List.{drop_more}
use Rattle.general.specs.Bits.{bit_le}
use Rattle.general.specs.Booleans.{byte_bit}
use Rattle.literal.specs.Literal.{max_variables, max_table, variables, max_clauses}
use Rattle.state.specs.State.{state_of}
use Rattle.occurrences.specs.Index.{Indexed, clause_count, width, occurrences}
use Rattle.occurrences.proofs.Slices.{occurrences_long, occurrence_known}
use Rattle.tally.specs.Tally.{with_value, with_count}
use Rattle.tally.specs.Counts.{Exact, two_true}
use Rattle.tally.proofs.Loads.{load_set}
use Rattle.notes.specs.Notes.{with_todo, with_todo_end}
use Rattle.moves.specs.Deciding.{DeadIn}
use Rattle.decide.specs.Members.{recount_of, is_noted, Adding, Taken, Membering}
use Rattle.decide.proofs.Lagging.{positive, short, turned, dead_none, dead_two}
use Rattle.decide.proofs.Noting.{adding_none, adding_trans, adding_valued, adding_one}
use Rattle.decide.proofs.Members.{Lags, begun, finished}
use Rattle.occurrences.specs.declared.Index.{Index}
use Rattle.tally.specs.declared.Tally.{Tally}
use Rattle.notes.specs.declared.Notes.{Notes}

-- variable p has become `to` in t; the first j of its occurrences os are taken in
pub record Walking (ix : Index) (t : Tally) (n : Notes) (p to : ℕ) (os : List ℕ) (u : Tally) (m : Notes) (j : ℕ) : Type 0 where
  pub index : Indexed ix
  pub known : p ≤ max_variables
  pub small : to < 2
  pub are : os ≡ occurrences ix p
  pub fits : n.todo_end + length os ≤ max_table
  pub reached : j ≤ length os
  pub lags : Lags ix u.values to u.counts (drop j os)
  pub adding : Adding ix t n u m
  pub paid : m.todo_end ≤ n.todo_end + j
  pub valued : u.values ≡ t.values
  pub long : length u.counts ≡ max_clauses
  pub wide : length u.values ≡ variables

pub walk_begins : {ix : Index} {t : Tally} {n : Notes} {p to : ℕ} (m : Membering ix t n p to) (os : List ℕ) → os ≡ occurrences ix p →
    (u : Tally) → u ≡ with_value p to t → Walking ix u n p to os u n 0
walk_begins {ix} {t} {n} {p} {to} m os are u eu = rw eu (record {
  index = m.index;
  known = m.known;
  small = m.constant;
  are = are;
  fits = omega (arith, m.fits, occurrences_long ix p os are);
  reached = omega arith;
  lags = rw are (begun m);
  adding = adding_none;
  paid = omega arith;
  valued = refl;
  long = m.exact.long_counts;
  wide = length-set t.values p to ∙ m.exact.long_values;
})

module _ {ix : Index} {t : Tally} {n : Notes} {p to : ℕ} {os : List ℕ} {u : Tally} {m : Notes} {j : ℕ} (q : Walking ix t n p to os u m j) where
  module _ (before : j < length os) where
    pub free : m.todo_end < max_table
    free = omega (arith, q.paid, q.fits)

    abbrev o : ℕ
    o = get_or os j 0

    pub inside : o < 2 * clause_count ix
    inside = occurrence_known q.index p q.known os q.are j before

    next : Lags ix u.values to u.counts (o ∷ drop (j + 1) os)
    next = rw (drop_more os j 0 before) at q.lags

    pub some_left : 0 < get_or u.counts (o / 2) 0
    some_left = positive q.small u.counts o _ next inside

    pub not_two : get_or u.counts (o / 2) 0 < two_true
    not_two = short q.small u.counts o _ next inside

    module _ (c : ℕ) (count : c ≡ recount_of (get_or u.counts (o / 2) 0) o to) where
      pub walk_goes : 0 < c → c < two_true → (b : Bool) → b ≡ is_noted c o to → (u' : Tally) → u' ≡ with_count (o / 2) c u → length m.todo ≡ max_table →
          Walking ix t n p to os u' (with_todo_end (m.todo_end + bool_byte b) (with_todo m.todo_end (o / 2) m)) (j + 1)
      walk_goes some h b e u' eu roomy = rw (eu, byte_bit b, e) (record {
        index = q.index;
        known = q.known;
        small = q.small;
        are = q.are;
        fits = q.fits;
        reached = omega arith;
        lags = turned q.small u.counts o _ next inside c count (omega (arith, q.long, q.index.few)) h;
        adding =
            adding_trans q.adding
            (adding_one ix u m o to c count (omega (arith, inside)) some (omega (arith, q.long, inside, q.index.few)) (omega (arith, roomy, free)));
        paid = omega (arith, q.paid, bit_le (is_noted c o to));
        valued = q.valued;
        long = length-set u.counts (o / 2) c ∙ q.long;
        wide = q.wide;
      })

      pub walk_dead : (0 < c → c < two_true → ⊥) → DeadIn ix (state_of u.values)
      walk_dead n = record {
        clause = o / 2;
        inside = omega (arith, inside);
        dead = elim (dec_lt 0 c) [
          | yes h ↦ inl (dead_two q.small u.counts o _ next inside c count (omega (arith, n h)))
          | no h ↦ inr (dead_none q.small u.counts o _ next inside c count (omega arith))
        ];
      }

  walk_ends : length os ≤ j → Exact ix u.values u.counts
  walk_ends h = finished ix u.values u.counts to q.wide q.long (rw (drop_of_length-le os h) at q.lags)

-- the values before were those of v
module _ {ix : Index} {v : Tally} {n : Notes} {p to : ℕ} {os : List ℕ} {t u : Tally} {m : Notes} {j : ℕ} (a : Membering ix v n p to) (et : t ≡ with_value p to v)
    (q : Walking ix t n p to os u m j) where
  valued : u.values ≡ set v.values p to
  valued = q.valued ∙ rw et

  pub member_dead : (u' : Tally) (g c : ℕ) → u' ≡ with_count g c u → DeadIn ix (state_of u.values) → (u'.values ≡ set v.values p to) × DeadIn ix (state_of u'.values)
  member_dead u' g c e d = rw e (valued, d)

  pub member_taken : length os ≤ j → (u.values ≡ set v.values p to) × Taken ix v n u m
  member_taken h = (
    valued,
    record {
      exact = walk_ends q h;
      adding = adding_valued v p to (rw et at q.adding);
      paid =
          let e = load_set (width ix) v.values p to (omega (arith, a.known, a.exact.long_values)) a.constant a.opened variables (omega (arith, a.known)) in
          rw valued (omega (arith, q.paid, q.reached, e, occurrences_long ix p os q.are));
    },
  )
