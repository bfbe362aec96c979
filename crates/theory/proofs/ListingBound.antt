-- How many splits the tree that splits on the lowest open variable makes: fewer than 2 ^ n, and about an eighth of that and seven eighths of the solutions that it finds.
use mathlib.Core.Path.{◌≡◌, refl}
use mathlib.Core.Bool.{true, false}
use mathlib.Core.Logic.{◌⊎◌, inl, inr, ⊎_elim}
use mathlib.Core.List.{List, [], ◌∷◌}
use Rattle.std.specs.Prelude.{Option, None, Some}
use Prim.Native.Nat.{ℕ, zero, suc, ◌+◌, ◌-◌, ◌*◌, ◌^◌, ◌≤◌, ◌<◌}
use native.Mathlib.Decide.{dec_le}
use native.Mathlib.Nat.{two-pow-succ, one-le-pow, pow-le-pow_right}
use native.Mathlib.Omega.{arith}
use lib.IntN.{ℤ}
use lib.ListN.{length, length-append, length-map}
use Rattle.literal.specs.declared.Literal.{Literal}
use Rattle.literal.specs.declared.Literal.TheVariants.{Pos, Neg}
use Rattle.literal.specs.Literal.{TRUE, FALSE, var}
use Rattle.theory.specs.Formula.{Formula, Choice, clauses, Within}
use Rattle.theory.specs.Listing.{open_variable, decide_open, open_tree, list_tree, list_needs}
use Rattle.theory.specs.Order.{IsLeast}
use Rattle.theory.specs.Propagation.{step, Settled, dead, rest, settle}
use Rattle.theory.specs.Search.{split_on, decided}
use Rattle.theory.specs.State.{State, initial, assign, opens, Open, WellFormed}
use Rattle.theory.specs.Table.{Accepted}
use Rattle.theory.specs.Tree.{Decision, done, branch, Run, run, through, split, tried, visit, tree}
use Rattle.theory.specs.Tree as t
use Rattle.theory.proofs.Agreement.{Extends}
use Rattle.theory.proofs.Branching.{left_out_is, taken_is}
use Rattle.theory.proofs.FewOpen.{open_both}
use Rattle.theory.proofs.Listing.{open_least, open_picking}
use Rattle.theory.proofs.Picking.{Settles, settles_alike, at_dead_end}
use Rattle.theory.proofs.Propagation.{initial_well, Ends}
use Rattle.theory.proofs.Splits.{settle_ends}
use Rattle.theory.proofs.States.{Side, side, opens_bound}
use Rattle.theory.proofs.Tables.{accepted_within}

-- The splits of a tree over any kind of state, by the sizes of its states ------------------------------------------

-- What a walk that ends early may leave untried: of each size below m one side, which 2 ^ size pays for and not 8.
untried : ℕ → ℕ
untried zero = 0
untried (suc m) = untried m + (8 - 2 ^ m)

untried_most : (m : ℕ) → untried m ≤ 17
unfolding untried
untried_most zero = omega arith
untried_most (suc zero) = omega arith
untried_most (suc (suc zero)) = omega arith
untried_most (suc (suc (suc zero))) = omega arith
untried_most (suc (suc (suc (suc m)))) =
    omega (arith, untried_most (suc (suc (suc m))), two-pow-succ (suc (suc m)), two-pow-succ (suc m), two-pow-succ m, one-le-pow m 2 (omega arith))

module _ {A : Type 0} where
  abbrev found_by : Run A → ℕ
  found_by r = length r.found

  -- what a walk costs that starts at a state of size m, where k solutions are wanted
  record Cost (m k : ℕ) (r : Run A) : Type 0 where
    most : found_by r ≤ k
    under : r.splits < 2 ^ m
    always : 8 * (r.splits + 1) ≤ 2 ^ m + 7 * found_by r + untried m
    complete : found_by r < k → 8 * (r.splits + 1) ≤ 2 ^ m + 7 * found_by r

  cost_dead : (m k : ℕ) → 3 ≤ m → Cost m (suc k) (run [] 0)
  cost_dead m k h =
      let eight : 2 ^ 3 ≤ 2 ^ m = pow-le-pow_right (omega arith) h in
      record { most = omega arith; under = omega arith; always = omega arith; complete = λ l. omega arith }

  cost_done : (m k : ℕ) (a : A) → Cost m (suc k) (run (record { choice = a; path = [] } ∷ []) 0)
  cost_done m k a =
      let one : 1 ≤ 2 ^ m = one-le-pow m 2 (omega arith) in
      record { most = omega arith; under = omega arith; always = omega arith; complete = λ l. omega arith }

  found_both : (p : ℕ) (a b : Run A) → found_by (split p a b) ≡ found_by a + found_by b
  found_both p a b = rw (length-append (through (Neg p) a.found) (through (Pos p) b.found), length-map a.found _, length-map b.found _)

  module _ (p m k : ℕ) (a : Run A) (c : Cost m k a) where
    -- the left-out side has as many as are wanted
    cost_enough : found_by a ≡ k → Cost (suc m) k (split p a (run [] 0))
    unfolding untried
    cost_enough e =
        let all : found_by (split p a (run [] 0)) ≡ found_by a + 0 = found_both p a (run [] 0) in
        record {
          most = omega arith;
          under = omega (arith, c.under, two-pow-succ m);
          always = omega (arith, c.always, two-pow-succ m);
          complete = λ l. absurd (omega arith);
        }

    -- it has fewer, and the taken side is tried for the others
    cost_both : (j : ℕ) → found_by a + suc j ≡ k → (b : Run A) → Cost m (suc j) b → Cost (suc m) k (split p a b)
    unfolding untried
    cost_both j e b d =
        let all : found_by (split p a b) ≡ found_by a + found_by b = found_both p a b in
        let left : 8 * (a.splits + 1) ≤ 2 ^ m + 7 * found_by a = c.complete (omega arith) in
        record {
          most = omega (arith, d.most);
          under = omega (arith, c.under, d.under, two-pow-succ m);
          always = omega (arith, d.always, two-pow-succ m);
          complete = λ l. omega (arith, d.complete (omega arith), two-pow-succ m);
        }

module _ {S A : Type 0} (Fits : S → ℕ → Type 0) where
  -- what is decided of a state that fits size m: a dead end only if m is 3 or more, and both sides of a split fit a size less by 1
  abbrev Halves : ℕ → Decision S A → Type 0
  Halves m t.dead = 3 ≤ m
  Halves m (done a) = Unit {0}
  Halves zero (branch p l r) = ⊥
  Halves (suc m) (branch p l r) = Fits l m × Fits r m

  module _ (decide : S → Decision S A) (halves : (s : S) (m : ℕ) → Fits s m → Halves m (decide s)) where
    tree_cost : (m k : ℕ) (s : S) → Fits s m → Cost m (suc k) (tree decide (suc m) (suc k) s)
    unfolding tree
    tree_cost zero k s h = go (decide s) (halves s zero h)
      where
        go : (d : Decision S A) → Halves zero d → Cost zero (suc k) (visit (tree decide zero) (suc k) d)
        go t.dead w = absurd (omega arith)
        go (done a) w = cost_done zero k a
        go (branch p l r) w = absurd w
    tree_cost (suc m) k s h = go (tree_cost m) (decide s) (halves s (suc m) h)
      where
        go : ((j : ℕ) (u : S) → Fits u m → Cost m (suc j) (tree decide (suc m) (suc j) u)) →
            (d : Decision S A) → Halves (suc m) d → Cost (suc m) (suc k) (visit (tree decide (suc m)) (suc k) d)
        go ih t.dead w = cost_dead (suc m) k w
        go ih (done a) w = cost_done (suc m) k a
        go ih (branch p l r) w = both (suc k - found_by first) refl
          where
            first : Run A
            first = tree decide (suc m) (suc k) l

            cost : Cost m (suc k) first
            cost = ih k l w.0

            both : (j : ℕ) → suc k - found_by first ≡ j → Cost (suc m) (suc k) (split p first (tried (tree decide (suc m)) j r))
            both zero e = cost_enough p m (suc k) first cost (omega (arith, cost.most))
            both (suc j) e = cost_both p m (suc k) first cost j (omega arith) (tree decide (suc m) (suc j) r) (ih j r w.1)

-- The tree that splits on the lowest open variable --------------------------------------------------------------------

module _ {n : ℕ} {f : Formula} (within : Within n f) where
  -- settling leaves at most m open variables, or a dead end, and then m is 3 or more
  abbrev Sized : ℕ → Settled → Type 0
  Sized m dead = 3 ≤ m
  Sized m (rest u) = opens u n ≤ m

  abbrev Fits : State → ℕ → Type 0
  Fits s m = WellFormed n s × Sized m (settle n f s)

  -- a side of a split is a dead end only where four variables are open
  module _ (u : State) (w : WellFormed n u) (rests : step f u ≡ None) (p : ℕ) (o : Open n u p) (m : ℕ) (size : opens u n ≤ suc m) where
    side_fits : (x : Literal) → var x ≡ 0 → (opens u n ≤ 3 → (c : Choice) × Extends n f (assign (Pos p) x u) c) → Fits (assign (Pos p) x u) m
    side_fits x z solved = (one.well, go (settle n f (assign (Pos p) x u)) (settle_ends within _ one.well) (settles_alike within _ one.well))
      where
        one : Side n u (assign (Pos p) x u)
        one = side w o x z

        go : (d : Settled) → Ends n f (assign (Pos p) x u) d → Settles within (assign (Pos p) x u) d → Sized m d
        go dead e k = elim (dec_le (opens u n) 3) [ yes few ↦ let c = solved few in absurd (k c.0 c.1) | no many ↦ omega arith ]
        go (rest v) e k = omega (arith, e.fewer, one.closes)

    sides_fit : Fits (assign (Pos p) FALSE u) m × Fits (assign (Pos p) TRUE u) m
    sides_fit = (
      side_fits FALSE refl (λ few. let c = open_both within u w rests few p o false in (c.0, (left_out_is o f c.0).1 (c.1, c.2))),
      side_fits TRUE refl (λ few. let c = open_both within u w rests few p o true in (c.0, (taken_is o f c.0).1 (c.1, c.2))),
    )

  halves : (s : State) (m : ℕ) → Fits s m → Halves Fits m (decide_open n f s)
  unfolding decide_open
  halves s m h = go (settle n f s) (settle_ends within s h.0) h.1
    where
      split_at : (m : ℕ) (u : State) → WellFormed n u → step f u ≡ None → opens u n ≤ m → (o : Option ℕ) → IsLeast ◌≤◌ (Open n u) o → Halves Fits m (split_on n u o)
      split_at m u w e l None k = tt
      split_at zero u w e l (Some p) k = absurd (omega (arith, (side w k.member TRUE refl).closes))
      split_at (suc m) u w e l (Some p) k = sides_fit u w e p k.member m l

      go : (d : Settled) → Ends n f s d → Sized m d → Halves Fits m (decided (open_variable n) n d)
      go dead e l = l
      go (rest u) e l = split_at m u e.well e.rests l (open_variable n u) (open_least n u)

  -- walked until k + 1 solutions are found
  module _ (k : ℕ) where
    abbrev listing : Run Choice
    listing = open_tree n f (suc k) initial

    -- a dead end at once, or a walk from a state of size n
    listing_cost : (listing ≡ run [] 0) ⊎ Cost n (suc k) listing
    listing_cost = go (settle n f initial) refl
      where
        go : (d : Settled) → settle n f initial ≡ d → (listing ≡ run [] 0) ⊎ Cost n (suc k) listing
        go dead e = inl (at_dead_end within (open_picking within) (suc k) initial (initial_well n) e)
        go (rest u) e = inr (tree_cost Fits (decide_open n f) halves n k initial (initial_well n, rw e (opens_bound u n)))

    -- Attained: to find all 2 ^ n solutions of the empty table takes 2 ^ n - 1 splits.
    listing_under : listing.splits < 2 ^ n
    listing_under = ⊎_elim (λ e. rw e (one-le-pow n 2 (omega arith))) (λ c. c.under) listing_cost

    -- Wherever the walk ends. Attained: the empty table for n of 3 or more takes 2 ^ n - 5 splits to find 2 ^ n - 7 solutions.
    listing_bound : 8 * listing.splits ≤ 2 ^ n + 7 * found_by listing + 9
    listing_bound = ⊎_elim (λ e. rw e (omega arith)) (λ c. omega (arith, c.always, untried_most n)) listing_cost

    -- Where all solutions are found. Attained: the empty table with its 2 ^ n solutions; and with none, by 2 ^ (n - 3) - 1 splits, the clauses of any three of the last
    -- four variables.
    listing_bound_all : found_by listing ≤ k → 8 * listing.splits ≤ 2 ^ n + 7 * found_by listing - 8
    listing_bound_all l = ⊎_elim (λ e. rw e (omega arith)) (λ c. omega (arith, c.complete (omega arith))) listing_cost

-- of a table that passes the check
module _ (n : ℕ) (t : List ℤ) (accepted : Accepted n t) (k : ℕ) where
  abbrev wholly : Within n (clauses t)
  wholly = accepted_within n t accepted

  pub list_under : list_needs n t k < 2 ^ n
  unfolding list_tree
  list_under = listing_under wholly k

  pub list_bound : 8 * list_needs n t k ≤ 2 ^ n + 7 * length (list_tree n t k).found + 9
  unfolding list_tree
  list_bound = listing_bound wholly k

  pub list_bound_all : length (list_tree n t k).found ≤ k → 8 * list_needs n t k ≤ 2 ^ n + 7 * length (list_tree n t k).found - 8
  unfolding list_tree
  list_bound_all = listing_bound_all wholly k
