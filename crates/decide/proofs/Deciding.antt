-- The walk round a class that becomes a constant: what holds at the loop's head, at the start, after a turn, at a dead end and at the end.
use mathlib.Core.Path.{◌≡◌, refl, ap, sym, ◌∙◌, fun_ext}
use mathlib.Core.Bool.{false}
use mathlib.Core.Logic.{◌⊎◌, inl, inr}
use mathlib.Core.List.{List}
use Prim.Native.Nat.{ℕ, ◌+◌, ◌/◌, ◌≤◌, ◌<◌}
use native.Mathlib.Decide.{dec_le, dec_lt, ℕ_discrete as dec_eq}
use native.Mathlib.Omega.{arith}
use borrow.Author.Tests.{eq-eqb, ne_eqb}
use lib.Dec.{eqb}
use lib.ListN.{get_or, set, length}
use Rattle.general.specs.Booleans.{bit}
use Rattle.general.specs.Bits.{bit_le}
use Rattle.literal.specs.Literal.{FALSE, var, opposite, code_of, literal_at, max_variables, variables, max_table}
use Rattle.literal.proofs.Codes.{code_of_literal_at, var_at}
use Rattle.theory.specs.State.{replace, assign}
use Rattle.theory.proofs.Literals.{of_variable_lem}
use Rattle.theory.proofs.States.{replace_same, replace_opposite_same}
use Rattle.state.specs.State.{state_of}
use Rattle.state.proofs.Values.{state_of_inside, state_of_past}
use Rattle.occurrences.specs.Index.{width}
use Rattle.tally.specs.Tally.{state_in}
use Rattle.tally.specs.Ring.{Classes}
use Rattle.tally.specs.Counts.{roots}
use Rattle.tally.proofs.Loads.{load_set}
use Rattle.tally.proofs.Rings.{size, Agreeing, Round, round_begins, member_of, member_inside, agrees, falls, round_ends, round_goes}
use Rattle.tally.proofs.Turned.{ring_kept, classes_turned, roots_turned}
use Rattle.moves.specs.Sound.{Sound}
use Rattle.moves.specs.Moving.{Moved}
use Rattle.moves.specs.Deciding.{DeadIn, Decidable, Decided}
use Rattle.decide.specs.Members.{Taken, Membering}
use Rattle.decide.proofs.Noting.{adding_none, taken_trans}
use Rattle.decide.proofs.Members.{dead_stays}
use Rattle.occurrences.specs.declared.Index.{Index}
use Rattle.tally.specs.declared.Tally.{Tally}
use Rattle.notes.specs.declared.Notes.{Notes}

-- what a member of the class becomes
turned_value : (y x : ℕ) → y / 2 ≡ x / 2 → bit (eqb y x) ≡ code_of (replace (literal_at x) FALSE (literal_at y))
turned_value y x e = elim (dec_eq y x) [
  | yes q ↦ rw (q, eq-eqb x x refl, replace_same (literal_at x) FALSE)
  | no q ↦ rw (ne_eqb y x q, opposed q, replace_opposite_same (literal_at x) FALSE)
]
  where
    opposed : (y ≡ x → ⊥) → literal_at y ≡ opposite (literal_at x)
    opposed n = go (of_variable_lem (literal_at y) (literal_at x) (var_at y ∙ e ∙ sym (var_at x)))
      where
        go : (literal_at y ≡ literal_at x) ⊎ (literal_at y ≡ opposite (literal_at x)) → literal_at y ≡ opposite (literal_at x)
        go (inl q) = absurd (n (sym (code_of_literal_at y) ∙ ap code_of q ∙ code_of_literal_at x))
        go (inr q) = q

agree_state : (x : ℕ) (v w : List ℕ) → Agreeing x FALSE v w → assign (literal_at x) FALSE (state_of w) ≡ assign (literal_at x) FALSE (state_of v)
agree_state x v w h = fun_ext (λ p. elim (dec_le p max_variables) [
  | yes i ↦ rw (state_of_inside v p i, state_of_inside w p i) (h p i)
  | no i ↦ rw (state_of_past v p (omega arith), state_of_past w p (omega arith))
])

-- the walk has reached member p with state u and notes m
pub record Turning (ix : Index) (st : Tally) (wk : Notes) (x : ℕ) (u : Tally) (m : Notes) (p : ℕ) : Type 0 where
  pub asked : Decidable ix st wk x
  pub round : Round st.links st.values x FALSE u.values p
  pub taken : Taken ix st wk u m

pub turning_begins : {ix : Index} {st : Tally} {wk : Notes} {x : ℕ} → Decidable ix st wk x → Turning ix st wk x st wk (x / 2)
turning_begins {x = x} d = record {
  asked = d;
  round = round_begins (d.sound.classes.rings (x / 2) (omega (arith, d.opened)) d.root) d.sound.exact.long_values;
  taken = record { exact = d.sound.exact; adding = adding_none; paid = omega arith };
}

-- the end: all is sound again
module _ {ix : Index} {st : Tally} {wk : Notes} {x : ℕ} (d : Decidable ix st wk x) (st' : Tally) (wk' : Notes) (is : state_in st' ≡ assign (literal_at x) FALSE (state_in st))
    (t : Taken ix st wk st' wk') where
  s : Sound ix st wk
  s = d.sound

  long : length st.values ≡ variables
  long = s.exact.long_values

  long' : length st'.values ≡ variables
  long' = t.exact.long_values

  apart : 0 ≡ x / 2 → ⊥
  apart e = omega (arith, d.opened)

  classes : Classes st'.values st.links
  classes =
      classes_turned st.values st'.values x FALSE long long' is d.opened d.below d.root apart (omega arith) s.classes.base s.classes
      (λ r o n e. ring_kept st.values st'.values x FALSE long long' is st.links r n (λ q. omega arith) (s.classes.rings r o e))

  fewer : roots st'.values max_variables + 1 ≡ roots st.values max_variables
  fewer =
      roots_turned st.values st'.values x FALSE long long' is d.opened d.below d.root apart (omega arith) s.classes.base
      max_variables (omega arith) (omega (arith, d.below))

  sound : Sound ix st' wk'
  sound = record {
    index = s.index;
    exact = t.exact;
    linked = ap length t.adding.links ∙ s.linked;
    classes = rw t.adding.links classes;
    todo_room = omega (arith, t.paid, s.todo_room);
    blocks_room = omega (arith, t.adding.blocks_end, s.blocks_room, fewer);
    todo_inside = λ i h. elim (dec_lt i wk.todo_end) [
      | yes b ↦ rw (t.adding.kept i b) (s.todo_inside i b)
      | no b ↦ t.adding.fresh i (omega arith) h
    ];
  }

  moved : Moved ix st wk st' wk'
  moved = record {
    went = record {
      sound = sound;
      noting = record { grows = t.adding.grows; kept = t.adding.kept; few = t.adding.few; paid = t.paid; never = t.adding.never; won = t.adding.won };
      fewer = omega (arith, fewer);
      links = t.adding.links;
      blocks = t.adding.blocks;
      blocks_end = t.adding.blocks_end;
    };
    gathered = t.adding.gathered;
  }

-- one member
module _ {ix : Index} {st : Tally} {wk : Notes} {x : ℕ} {u : Tally} {m : Notes} {p : ℕ} (t : Turning ix st wk x u m p) where
  opened : 1 < x
  opened = t.asked.opened

  pub inside : p ≤ max_variables
  inside = member_inside opened t.round

  of : get_or u.values p 0 / 2 ≡ x / 2
  of = member_of opened t.round

  apart' : var FALSE ≡ x / 2 → ⊥
  apart' e = omega (arith, opened)

  module _ (to : ℕ) (is : to ≡ bit (eqb (get_or u.values p 0) x)) where
    small : to < 2
    small = rw is (omega (arith, bit_le (eqb (get_or u.values p 0) x)))

    code : to ≡ code_of (replace (literal_at x) FALSE (literal_at (get_or u.values p 0)))
    code = is ∙ turned_value (get_or u.values p 0) x of

    pub asks : Membering ix u m p to
    asks = record {
      index = t.asked.sound.index;
      exact = t.taken.exact;
      known = inside;
      opened = omega (arith, of, opened);
      constant = small;
      fits =
          omega (
            arith,
            t.taken.paid,
            t.asked.sound.todo_room,
            load_set (width ix) u.values p to (omega (arith, inside, t.round.long)) small (omega (arith, of, opened)) variables (omega (arith, inside)),
          );
    }

    module _ (w : List ℕ) (set_to : w ≡ set u.values p to) where
      pub turning_dead : DeadIn ix (state_of w) → DeadIn ix (assign (literal_at x) FALSE (state_in st))
      turning_dead d =
          rw (← agree_state x st.values w (rw set_to (agrees opened t.round apart' to code)))
          (dead_stays (literal_at x) (omega (arith, var_at x, opened)) ix (state_of w) d)

      pub turning_falls : size (x / 2) w variables < size (x / 2) u.values variables
      turning_falls = rw set_to (falls opened t.round apart' to code)

    module _ (u' : Tally) (set_to : u'.values ≡ set u.values p to) where
      module _ {m' : Notes} (more : Taken ix u m u' m') where
        all : Taken ix st wk u' m'
        all = taken_trans t.taken more

        pub end_low : m'.todo_end ≤ max_table
        end_low = omega (arith, all.paid, t.asked.sound.todo_room)

        module _ (n : ℕ) (next : n ≡ get_or u'.links p 0) where
          link : n ≡ get_or st.links p 0
          link = next ∙ rw all.adding.links

          pub turning_goes : (n ≡ x / 2 → ⊥) → Turning ix st wk x u' m' n
          turning_goes on = record { asked = t.asked; round = rw set_to (round_goes opened t.round apart' to code n link on); taken = all }

          -- back at the root: none is left
          state_is : n ≡ x / 2 → state_of u'.values ≡ assign (literal_at x) FALSE (state_in st)
          state_is back = rw set_to (round_ends opened t.round apart' to code n link t.asked.below back)

pub turning_ends : {ix : Index} {st : Tally} {wk : Notes} {x : ℕ} {u : Tally} {m : Notes} {p : ℕ} (t : Turning ix st wk x u m p) (to : ℕ) → to ≡ bit (eqb (get_or u.values p 0) x) →
    (st' : Tally) → st'.values ≡ set u.values p to → {wk' : Notes} → Taken ix u m st' wk' → (n : ℕ) → n ≡ get_or st'.links p 0 → n ≡ x / 2 → Decided ix st wk x st' wk' false
turning_ends {ix} {st} {wk} {x} t to is st' set_to {wk'} more n next back =
    let i : state_in st' ≡ assign (literal_at x) FALSE (state_in st) = state_is t to is st' set_to more n next back in
    (i, moved t.asked st' wk' i (all t to is st' set_to more))
