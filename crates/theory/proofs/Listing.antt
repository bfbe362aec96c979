-- The tree that splits on the lowest open variable: a leaf has one solution, all solutions with a variable left out come before those with it taken, and so it finds all in order.
use mathlib.Core.Path.{◌≡◌, refl, ap, ◌∙◌}
use mathlib.Core.Bool.{false}
use mathlib.Core.List.{List}
use Rattle.std.specs.Prelude.{Option, None, Some}
use Prim.Native.Nat.{ℕ, suc, ◌≤◌}
use native.Mathlib.Decide.{dec_lt}
use native.Mathlib.Omega.{arith}
use lib.IntN.{ℤ}
use lib.ListN.{take}
use Rattle.general.specs.Booleans.{true_not_false}
use Rattle.general.specs.Lists.{up_to}
use Rattle.general.specs.Search.{find, FindsFrom, find_from}
use Rattle.literal.specs.declared.Literal.TheVariants.{Pos}
use Rattle.literal.specs.Literal.{same}
use Rattle.theory.specs.Formula.{Formula, Choice, assignment, clauses, Solution, Within}
use Rattle.theory.specs.Layouts.{layouts}
use Rattle.theory.specs.Listing.{open_variable, decide_open, open_tree, list_tree}
use Rattle.theory.specs.Order.{◌≺◌, Least, IsLeast, Firsts, ◌≼◌}
use Rattle.theory.specs.Propagation.{step, Settled, dead, rest, settle}
use Rattle.theory.specs.Search.{choice_of, split_on, decided}
use Rattle.theory.specs.State.{State, initial, opens, Open, WellFormed}
use Rattle.theory.specs.Table.{Accepted}
use Rattle.theory.specs.Tree.{choices_found}
use Rattle.theory.proofs.Agreement.{Extends}
use Rattle.theory.proofs.Branching.{LeftOut, Taken, left_out_is, taken_is, sides_branches}
use Rattle.theory.proofs.Layouts.{firsts_layouts}
use Rattle.theory.proofs.Leaves.{≼-roots, leaf_first}
use Rattle.theory.proofs.Literals.{same_true, same_false}
use Rattle.theory.proofs.Live.{live_open}
use Rattle.theory.proofs.Order.{≼-antisym}
use Rattle.theory.proofs.Picking.{Right, Picking, Settles, settles_alike, picking_means}
use Rattle.theory.proofs.Propagation.{initial_well, Ends}
use Rattle.theory.proofs.Splits.{rests_closed, settle_ends}
use Rattle.theory.proofs.States.{opens_bound}
use Rattle.theory.proofs.Tables.{accepted_within}
use Rattle.theory.proofs.Tree.{Strict, tree_firsts}

-- the lowest open variable, or none where none is open
pub open_least : (n : ℕ) (s : State) → IsLeast ◌≤◌ (Open n s) (open_variable n s)
unfolding open_variable
open_least n s = go (find (λ p. same (s p) (Pos p)) (up_to (λ p. p) n)) (find_from (λ p. same (s p) (Pos p)) 1 n)
  where
    shut : (p : ℕ) → same (s p) (Pos p) ≡ false → ¬ Open n s p
    shut p e o = same_false (s p) (Pos p) e o.root

    go : (o : Option ℕ) → FindsFrom (λ p. same (s p) (Pos p)) 1 n o → IsLeast ◌≤◌ (Open n s) o
    go None h = λ p o. shut p (h p o.positive (omega (arith, o.inside))) o
    go (Some p) h = record {
      member = record { positive = h.0; inside = omega (arith, h.1); root = same_true (s p) (Pos p) h.2 };
      least = λ q o. elim (dec_lt q p) [ yes l ↦ absurd (shut q (h.3 q o.positive l) o) | no l ↦ omega arith ];
    }

-- a state that no rule fits
module _ {n : ℕ} {f : Formula} (within : Within n f) (s : State) (w : WellFormed n s) (rests : step f s ≡ None) where
  -- the lowest open variable is p: where two solutions first differ they differ at an open variable
  module _ (p : ℕ) (b : Least ◌≤◌ (Open n s) p) where
    sides_apart : (c d : Choice) → LeftOut n f s p c → Taken n f s p d → c ≺ d
    sides_apart c d x y =
        let l = (left_out_is b.member f c).0 x in
        let t = (taken_is b.member f d).0 y in (
          ≼-roots w c d l.0.solves.long t.0.solves.long l.0.agrees t.0.agrees (λ q low high root alike taken. elim (dec_lt p q) [
            | yes h ↦ absurd (true_not_false (alike p h ∙ t.1) l.1)
            | no h ↦ let same : q ≡ p = omega (arith, b.least q (record { positive = low; inside = high; root = root })) in rw same t.1
          ]),
          λ e. true_not_false (ap (λ (c : Choice). assignment c p) e ∙ t.1) l.1,
        )

  -- none is open: every variable has its value
  module _ (shut : (p : ℕ) → ¬ Open n s p) where
    leaf_least : Least ◌≼◌ (Extends n f s) (choice_of n s)
    leaf_least = leaf_first w within (rests_closed f s rests) (λ p i. shut p (live_open w within i))

    leaf_only : (c : Choice) → Extends n f s c → c ≡ choice_of n s
    leaf_only c e =
        let m = leaf_least.member in
        ≼-antisym c (choice_of n s)
        (≼-roots w c (choice_of n s) e.solves.long m.solves.long e.agrees m.agrees (λ q low high root. absurd (shut q (record { positive = low; inside = high; root = root }))))
        (leaf_least.least c e)

  open_right : Right n f s (split_on n s (open_variable n s))
  open_right = go (open_variable n s) (open_least n s)
    where
      go : (o : Option ℕ) → IsLeast ◌≤◌ (Open n s) o → Right n f s (split_on n s o)
      go None h = leaf_least h
      go (Some p) h = sides_branches h.member f w (λ c d x y. (sides_apart p h c d x.member y).0)

  open_strict : Strict (WellFormed n) (λ u. opens u n) (Extends n f) ◌≼◌ ◌≺◌ s (split_on n s (open_variable n s))
  open_strict = go (open_variable n s) (open_least n s)
    where
      go : (o : Option ℕ) → IsLeast ◌≤◌ (Open n s) o → Strict (WellFormed n) (λ u. opens u n) (Extends n f) ◌≼◌ ◌≺◌ s (split_on n s o)
      go None h = leaf_only h
      go (Some p) h = sides_apart p h

module _ {n : ℕ} {f : Formula} (within : Within n f) where
  pub open_picking : Picking n f (open_variable n) (decide_open n f)
  unfolding decide_open
  open_picking = record { is = λ s. refl; right = open_right within }

  decide_strict : (s : State) → WellFormed n s → Strict (WellFormed n) (λ u. opens u n) (Extends n f) ◌≼◌ ◌≺◌ s (decide_open n f s)
  unfolding decide_open
  decide_strict s w = go (settle n f s) (settle_ends within s w) (settles_alike within s w)
    where
      go : (o : Settled) → Ends n f s o → Settles within s o → Strict (WellFormed n) (λ u. opens u n) (Extends n f) ◌≼◌ ◌≺◌ s (decided (open_variable n) n o)
      go dead e k = tt
      go (rest u) e k = back (open_variable n u) (open_strict within u e.well e.rests)
        where
          back : (o : Option ℕ) → Strict (WellFormed n) (λ u. opens u n) (Extends n f) ◌≼◌ ◌≺◌ u (split_on n u o) →
              Strict (WellFormed n) (λ u. opens u n) (Extends n f) ◌≼◌ ◌≺◌ s (split_on n u o)
          back None h = λ c x. h c ((k c).0 x)
          back (Some p) h = h

  -- "The rows are all layouts in document 01's order, each once, up to k"
  pub tree_lists : (k : ℕ) → Firsts ◌≺◌ (Solution n f) (suc k) (choices_found (open_tree n f (suc k) initial).found)
  tree_lists k = record {
    member = λ c m. (found.member c m).solves;
    ascends = found.ascends;
    most = found.most;
    all = λ c h. found.all c (record { solves = h; agrees = record { at = λ p. refl } });
  }
    where
      found : Firsts ◌≺◌ (Extends n f initial) (suc k) (choices_found (open_tree n f (suc k) initial).found)
      found =
          tree_firsts (WellFormed n) (λ u. opens u n) (Extends n f) ◌≼◌ ◌≺◌ (decide_open n f) (picking_means within open_picking) decide_strict (suc n) k initial (initial_well n)
          (omega (arith, opens_bound initial n))

  -- so what it finds are the first of all layouts
  tree_layouts : (k : ℕ) → choices_found (open_tree n f (suc k) initial).found ≡ take (suc k) (layouts n f)
  tree_layouts k = firsts_layouts n f (suc k) _ (tree_lists k)

-- of a table that passes the check
module _ (n : ℕ) (t : List ℤ) (accepted : Accepted n t) (k : ℕ) where
  pub list_layouts : choices_found (list_tree n t k).found ≡ take (suc k) (layouts n (clauses t))
  unfolding list_tree
  list_layouts = tree_layouts (accepted_within n t accepted) k
