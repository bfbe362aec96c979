-- The split tree over any kind of state finds the least solution first, whatever the fuel that is enough, and needs at most B splits for any B that pays for a branch.
use mathlib.Core.Path.{◌≡◌, refl, ap}
use mathlib.Core.Logic.{◌⊎◌, inl, inr, ⊎_elim, ◌↔◌}
use mathlib.Core.List.Memᴰ
use mathlib.Core.List.{List, [], ◌∷◌, ◌++◌, Memᴰ, append-nil}
use Rattle.std.specs.Prelude.{Option, None, Some}
use Prim.Native.Nat.{ℕ, zero, suc, ◌+◌, ◌-◌, ◌≤◌, ◌<◌}
use native.Mathlib.Omega.{arith}
use lib.ListN.{length, length-append, length-map}
use Rattle.literal.specs.declared.Literal.TheVariants.{Pos, Neg}
use Rattle.theory.specs.Order.{Least, IsLeast, Ascends, Firsts}
use Rattle.theory.proofs.Ascending.{ascends_append}
use Rattle.theory.specs.Tree.{Decision, dead, done, branch, Found, Run, through, split, choices_found, tried, visit, tree}

-- the first choice that is found
abbrev pub choice_found : {A : Type 0} → List (Found A) → Option A
choice_found [] = None
choice_found (a ∷ l) = Some a.choice

module _ {S A : Type 0} (walk : ℕ → S → Run A) (s : S) where
  tried_agree : (walk' : ℕ → S → Run A) → ((k : ℕ) → walk k s ≡ walk' k s) → (k : ℕ) → tried walk k s ≡ tried walk' k s
  tried_agree walk' e zero = refl
  tried_agree walk' e (suc k) = e (suc k)

  tried_splits : (m : ℕ) → ((k : ℕ) → (walk k s).splits ≤ m) → (k : ℕ) → (tried walk k s).splits ≤ m
  tried_splits m h zero = omega arith
  tried_splits m h (suc k) = h (suc k)

-- a tree over states that look like others, and are decided as those are, is the tree over those
module _ {S T A : Type 0} (look : T → S) where
  abbrev pub seen : Decision T A → Decision S A
  seen dead = dead
  seen (done a) = done a
  seen (branch p l r) = branch p (look l) (look r)

  module _ (decide : S → Decision S A) (decide' : T → Decision T A) (alike : (s : T) → seen (decide' s) ≡ decide (look s)) where
    pub tree_alike : (f k : ℕ) (s : T) → tree decide' f k s ≡ tree decide f k (look s)
    unfolding tree
    tree_alike zero k s = refl
    tree_alike (suc f) k s = rw (← alike s) (go (tree_alike f) (decide' s))
      where
        tries : ((j : ℕ) (u : T) → tree decide' f j u ≡ tree decide f j (look u)) → (j : ℕ) (u : T) → tried (tree decide' f) j u ≡ tried (tree decide f) j (look u)
        tries ih zero u = refl
        tries ih (suc j) u = ih (suc j) u

        go : ((j : ℕ) (u : T) → tree decide' f j u ≡ tree decide f j (look u)) → (d : Decision T A) → visit (tree decide' f) k d ≡ visit (tree decide f) k (seen d)
        go ih dead = refl
        go ih (done a) = refl
        go ih (branch p l r) = rw (ih k l) (ap (split p (tree decide f k (look l))) (tries ih (k - length (tree decide f k (look l)).found) r))

-- What a decision means for the solutions of its state, and so for what the tree finds. left s: the open variables of s.
module _ {S A : Type 0} (Good : S → Type 0) (left : S → ℕ) (Sol : S → A → Type 0) (Le : A → A → Type 0) where
  -- the solutions of s are those of l and of r, and the least of l comes before all of r
  pub record Branches (s l r : S) : Type 0 where
    pub good_left : Good l
    pub good_right : Good r
    pub less_left : left l < left s
    pub less_right : left r < left s
    pub into : (a : A) → Sol s a → Sol l a ⊎ Sol r a
    pub from_left : (a : A) → Sol l a → Sol s a
    pub from_right : (a : A) → Sol r a → Sol s a
    pub before : (a b : A) → Least Le (Sol l) a → Sol r b → Le a b

  abbrev pub Means : S → Decision S A → Type 0
  Means s dead = (a : A) → ¬ Sol s a
  Means s (done a) = Least Le (Sol s) a
  Means s (branch p l r) = Branches s l r

  -- a state with the same solutions and no fewer open variables decides alike
  pub means_back : (s t : S) → ((a : A) → Sol s a ↔ Sol t a) → left t ≤ left s → (d : Decision S A) → Means t d → Means s d
  means_back s t e q dead w = λ a h. w a ((e a).0 h)
  means_back s t e q (done a) w = record { member = (e a).1 w.member; least = λ b h. w.least b ((e b).0 h) }
  means_back s t e q (branch p l r) w = record {
    good_left = w.good_left;
    good_right = w.good_right;
    less_left = omega arith;
    less_right = omega arith;
    into = λ a h. w.into a ((e a).0 h);
    from_left = λ a h. (e a).1 (w.from_left a h);
    from_right = λ a h. (e a).1 (w.from_right a h);
    before = w.before;
  }

  -- of what both sides find, the second counts only where the first finds nothing
  sides_least : (p : ℕ) {s l r : S} → Branches s l r → (x y : List (Found A)) → IsLeast Le (Sol l) (choice_found x) →
      (x ≡ [] → IsLeast Le (Sol r) (choice_found y)) → IsLeast Le (Sol s) (choice_found (through (Neg p) x ++ through (Pos p) y))
  sides_least p w [] [] f g = λ a h. ⊎_elim (f a) (g refl a) (w.into a h)
  sides_least p w [] (b ∷ y) f g = record {
    member = w.from_right b.choice (g refl).member;
    least = λ a h. ⊎_elim (λ x. absurd (f a x)) ((g refl).least a) (w.into a h);
  }
  sides_least p w (b ∷ x) y f g = record {
    member = w.from_left b.choice f.member;
    least = λ a h. ⊎_elim (f.least a) (w.before b.choice a f) (w.into a h);
  }

  module _ (decide : S → Decision S A) (ok : (s : S) → Good s → Means s (decide s)) where
    pub tree_first : (f k : ℕ) (s : S) → Good s → left s < f → IsLeast Le (Sol s) (choice_found (tree decide f (suc k) s).found)
    unfolding tree
    tree_first zero k s g p = absurd (omega arith)
    tree_first (suc f) k s g p = go (tree_first f k) (decide s) (ok s g)
      where
        go : ((u : S) → Good u → left u < f → IsLeast Le (Sol u) (choice_found (tree decide f (suc k) u).found)) →
            (d : Decision S A) → Means s d → IsLeast Le (Sol s) (choice_found (visit (tree decide f) (suc k) d).found)
        go ih dead w = w
        go ih (done a) w = w
        go ih (branch q l r) w =
            let all : suc k - 0 ≡ suc k = omega arith in
            sides_least q w (tree decide f (suc k) l).found (tried (tree decide f) (suc k - length (tree decide f (suc k) l).found) r).found
            (ih l w.good_left (omega arith)) (λ e. rw (e, all) (ih r w.good_right (omega arith)))

    -- all fuel that is enough gives the same run
    pub tree_fuel : (f g k : ℕ) (s : S) → Good s → left s < f → left s < g → tree decide f k s ≡ tree decide g k s
    unfolding tree
    tree_fuel zero g k s h p q = absurd (omega arith)
    tree_fuel (suc f) zero k s h p q = absurd (omega arith)
    tree_fuel (suc f) (suc g) k s h p q = go (tree_fuel f g) (decide s) (ok s h)
      where
        go : ((j : ℕ) (u : S) → Good u → left u < f → left u < g → tree decide f j u ≡ tree decide g j u) →
            (d : Decision S A) → Means s d → visit (tree decide f) k d ≡ visit (tree decide g) k d
        go ih dead w = refl
        go ih (done a) w = refl
        go ih (branch x l r) w =
            rw (ih k l w.good_left (omega arith) (omega arith))
            (ap (split x (tree decide g k l))
            (tried_agree (tree decide f) r (tree decide g) (λ j. ih j r w.good_right (omega arith) (omega arith)) (k - length (tree decide g k l).found)))

    -- the tree from a state is what is decided of it, and the trees from its sides
    pub tree_step : (f k : ℕ) (s : S) → Good s → left s < f → tree decide f k s ≡ visit (tree decide f) k (decide s)
    unfolding tree
    tree_step f k s g h = tree_fuel f (suc f) k s g h (omega arith)

-- All that a tree finds, where a leaf has one solution and the left-out side comes before the taken side --------------

pub choices_length : {A : Type 0} (l : List (Found A)) → length (choices_found l) ≡ length l
choices_length l = length-map l (λ a. a.choice)

pub choices_split : {A : Type 0} (p : ℕ) (x y : List (Found A)) → choices_found (through (Neg p) x ++ through (Pos p) y) ≡ choices_found x ++ choices_found y
choices_split p [] [] = refl
choices_split p [] (b ∷ y) = ap (◌∷◌ b.choice) (choices_split p [] y)
choices_split p (a ∷ x) y = ap (◌∷◌ a.choice) (choices_split p x y)

module _ {S A : Type 0} (Good : S → Type 0) (left : S → ℕ) (Sol : S → A → Type 0) (Le Lt : A → A → Type 0) where
  -- a leaf has no other solution, and what is left out comes before what is taken
  abbrev pub Strict : S → Decision S A → Type 0
  Strict s dead = Unit {0}
  Strict s (done a) = (b : A) → Sol s b → b ≡ a
  Strict s (branch p l r) = (a b : A) → Sol l a → Sol r b → Lt a b

  abbrev FirstsOf : S → ℕ → List A → Type 0
  FirstsOf s k l = Firsts Lt (Sol s) k l

  module _ {s l r : S} (w : Branches Good left Sol Le s l r) (before : (a b : A) → Sol l a → Sol r b → Lt a b) (k : ℕ) (x : List A) (f : FirstsOf l k x) where
    member_left : (a : A) → Memᴰ a x → Sol s a
    member_left a m = w.from_left a (f.member a m)

    -- the left-out side has as many as are wanted
    firsts_enough : length x ≡ k → FirstsOf s k x
    firsts_enough e = record {
      member = member_left;
      ascends = f.ascends;
      most = f.most;
      all = λ a h. ⊎_elim (f.all a) (λ q. inr (e, λ b m. before b a (f.member b m) q)) (w.into a h);
    }

    -- it has fewer, and the taken side has the next ones
    firsts_both : (j : ℕ) → length x + suc j ≡ k → (y : List A) → FirstsOf r (suc j) y → FirstsOf s k (x ++ y)
    firsts_both j sum y g = record {
      member = λ a m. ⊎_elim (member_left a) (λ h. w.from_right a (g.member a h)) (Memᴰ.append_cases x m);
      ascends = ascends_append Lt x y f.ascends g.ascends (λ a b m h. before a b (f.member a m) (g.member b h));
      most = omega (arith, length-append x y, g.most);
      all = λ a h. ⊎_elim (on_left a) (on_right a) (w.into a h);
    }
      where
        on_left : (a : A) → Sol l a → Memᴰ a (x ++ y) ⊎ ((length (x ++ y) ≡ k) × ((b : A) → Memᴰ b (x ++ y) → Lt b a))
        on_left a h = ⊎_elim (λ m. inl (Memᴰ.append_left y m)) (λ q. absurd (omega (arith, q.0))) (f.all a h)

        on_right : (a : A) → Sol r a → Memᴰ a (x ++ y) ⊎ ((length (x ++ y) ≡ k) × ((b : A) → Memᴰ b (x ++ y) → Lt b a))
        on_right a h = ⊎_elim (λ m. inl (Memᴰ.append_right x m))
            (λ q. inr (omega (arith, length-append x y, q.0), λ b m. ⊎_elim (λ i. before b a (f.member b i) h) (q.1 b) (Memᴰ.append_cases x m)))
            (g.all a h)

  module _ (decide : S → Decision S A) (ok : (s : S) → Good s → Means Good left Sol Le s (decide s)) (strict : (s : S) → Good s → Strict s (decide s)) where
    -- the first solutions in order, as many as are wanted, or all
    pub tree_firsts : (f k : ℕ) (s : S) → Good s → left s < f → FirstsOf s (suc k) (choices_found (tree decide f (suc k) s).found)
    unfolding tree Ascends
    tree_firsts zero k s g p = absurd (omega arith)
    tree_firsts (suc f) k s g p = go (tree_firsts f) (decide s) (ok s g) (strict s g)
      where
        go : ((j : ℕ) (u : S) → Good u → left u < f → FirstsOf u (suc j) (choices_found (tree decide f (suc j) u).found)) →
            (d : Decision S A) → Means Good left Sol Le s d → Strict s d → FirstsOf s (suc k) (choices_found (visit (tree decide f) (suc k) d).found)
        go ih dead w o = record { member = λ a m. absurd (Memᴰ.not-nil m); ascends = tt; most = omega arith; all = λ a h. absurd (w a h) }
        go ih (done a) w o = record {
          member = λ b m. rw (Memᴰ.eq_of_singleton m) w.member;
          ascends = (λ b m. absurd (Memᴰ.not-nil m), tt);
          most = omega arith;
          all = λ b h. inl (Memᴰ.head (o b h));
        }
        go ih (branch q l r) w o =
            rw (choices_split q found (tried (tree decide f) (suc k - length found) r).found) (rest (suc k - length found) refl)
          where
            found : List (Found A)
            found = (tree decide f (suc k) l).found

            first : FirstsOf l (suc k) (choices_found found)
            first = ih k l w.good_left (omega arith)

            long : length (choices_found found) ≡ length found
            long = choices_length found

            rest : (j : ℕ) → suc k - length found ≡ j → FirstsOf s (suc k) (choices_found found ++ choices_found (tried (tree decide f) j r).found)
            rest zero e = rw (append-nil (choices_found found)) (firsts_enough w o (suc k) (choices_found found) first (omega (arith, first.most, long)))
            rest (suc j) e =
                firsts_both w o (suc k) (choices_found found) first j (omega (arith, long)) (choices_found (tree decide f (suc j) r).found) (ih j r w.good_right (omega arith))

-- How many splits a run makes, by a bound B on the open variables. Fits s m: what settling leaves of s is dead, or has at most m open variables.
module _ {S : Type 0} (B : ℕ → ℕ) (Good : S → Type 0) (Fits : S → ℕ → Type 0) where
  -- the bound at m open variables pays for a branch and for both its sides
  pub record Narrower (m : ℕ) (l r : S) : Type 0 where
    pub good_left : Good l
    pub good_right : Good r
    pub size_left : ℕ
    pub size_right : ℕ
    pub fits_left : Fits l size_left
    pub fits_right : Fits r size_right
    pub pays : 1 + B size_left + B size_right ≤ B m

  module _ {A : Type 0} where
    abbrev pub Narrow : ℕ → Decision S A → Type 0
    Narrow m dead = Unit {0}
    Narrow m (done a) = Unit {0}
    Narrow m (branch p l r) = Narrower m l r

    module _ (decide : S → Decision S A) (narrow : (s : S) (m : ℕ) → Good s → Fits s m → Narrow m (decide s)) where
      pub splits_le : (f k m : ℕ) (s : S) → Good s → Fits s m → (tree decide f k s).splits ≤ B m
      unfolding tree
      splits_le zero k m s g h = omega arith
      splits_le (suc f) k m s g h = go (splits_le f) (decide s) (narrow s m g h)
        where
          go : ((j n : ℕ) (u : S) → Good u → Fits u n → (tree decide f j u).splits ≤ B n) →
              (d : Decision S A) → Narrow m d → (visit (tree decide f) k d).splits ≤ B m
          go ih dead w = omega arith
          go ih (done a) w = omega arith
          go ih (branch p l r) w =
              let on_left = ih k w.size_left l w.good_left w.fits_left in
              let on_right = tried_splits (tree decide f) r (B w.size_right) (λ j. ih j w.size_right r w.good_right w.fits_right) in
              omega (arith, on_right (k - length (tree decide f k l).found), w.pays)
