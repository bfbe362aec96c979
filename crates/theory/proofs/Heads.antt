-- The heads of a table's groups: they cut the table into its groups, and each has the literals of its group.
use mathlib.Core.Path.{◌≡◌, refl, ap, sym, ◌∙◌}
use mathlib.Core.Bool.{Bool, false}
use mathlib.Core.Logic.{◌≢◌}
use mathlib.Core.List.{List, [], ◌∷◌, ◌++◌, map}
use Prim.Native.Nat.{ℕ, zero, suc, ◌+◌, ◌-◌, ◌<◌, ◌≤◌}
use native.Mathlib.Decide.{dec_lt}
use native.Mathlib.Nat.{add-zero}
use native.Mathlib.Numerals.{add-one}
use native.Mathlib.Omega.{arith}
use lib.Dec.{eqb-suc-zero}
use lib.IntN.{ℤ, negsuc, pos as posℤ}
use lib.ListN.{length, get_or, take, drop, length-drop, take-append-drop}
use lib.Seq.{drop-drop, get_or-drop, split_at, take-add, take-suc, take-take}
use Rattle.general.specs.Booleans.{bit}
use Rattle.literal.specs.declared.Literal.{Literal}
use Rattle.literal.specs.declared.Literal.TheVariants.{Pos, Neg}
use Rattle.literal.specs.Literal.{literal_of}
use Rattle.theory.specs.Formula.{Clause, Formula, clauses, push}
use Rattle.theory.specs.Table.{closes, zeros, ends_open}
use Rattle.theory.proofs.Tables.{zeros_append, ends_open_append, first_clause_lem}
use Rattle.theory.specs.Heads.{head, heads_from, heads_of, head_at, HeadOf}
use Rattle.theory.specs.Unknown.{Encloses}

-- the first clause of a table, and the clauses after it
pub record Front (t : List ℤ) (c : Clause) (f : Formula) : Type 0 where
  pub literals : c ≡ map literal_of (take (length c) t)
  pub no_zeros : zeros (take (length c) t) ≡ 0
  pub rest : clauses (drop (suc (length c)) t) ≡ f
  pub inside : length c < length t
  pub zero_after : get_or t (length c) (posℤ 1) ≡ posℤ 0

module _ (e : ℤ) (l : Literal) (t : List ℤ) (c : Clause) (f : Formula) (is : literal_of e ≡ l) (entry : closes e ≡ false) (ih : (d : Clause) → clauses t ≡ d ∷ f → Front t d f) where
  front_entry : (g : Formula) → clauses t ≡ g → push l g ≡ c ∷ f → Front (e ∷ t) c f
  unfolding zeros
  front_entry [] q h = absurd (let z : ◌≡◌ {A = ℕ} 0 1 = cc in omega arith)
  front_entry (d ∷ g) q h =
      let a : c ≡ l ∷ d = cc in
      let w : Front t d f = ih d (cc) in
      rw a (record { literals = rw (is, ← w.literals); no_zeros = omega (arith, ap bit entry, w.no_zeros); rest = w.rest; inside = omega (arith, w.inside); zero_after = w.zero_after })

pub front : (t : List ℤ) (c : Clause) (f : Formula) → clauses t ≡ c ∷ f → Front t c f
unfolding clauses zeros
front [] c f h = absurd (let z : ◌≡◌ {A = ℕ} 0 1 = cc in omega arith)
front (posℤ zero ∷ t) c f h =
    let a : c ≡ [] = cc in
    rw a (record { literals = refl; no_zeros = refl; rest = cc; inside = omega arith; zero_after = refl })
front (posℤ (suc p) ∷ t) c f h = front_entry (posℤ (suc p)) (Pos (suc p)) t c f refl (eqb-suc-zero p) (λ d. front t d f) (clauses t) refl h
front (negsuc p ∷ t) c f h = front_entry (negsuc p) (Neg (suc p)) t c f refl (eqb-suc-zero p) (λ d. front t d f) (clauses t) refl h

push_length : (l : Literal) (f : Formula) → length (push l f) ≡ length f
push_length l [] = refl
push_length l (c ∷ f) = refl

-- "one per group": groups are the zeros
pub clauses_zeros : (t : List ℤ) → length (clauses t) ≡ zeros t
unfolding clauses zeros
clauses_zeros [] = refl
clauses_zeros (posℤ zero ∷ t) = omega (arith, clauses_zeros t)
clauses_zeros (posℤ (suc p) ∷ t) = rw (eqb-suc-zero p) (omega (arith, push_length (Pos (suc p)) (clauses t), clauses_zeros t))
clauses_zeros (negsuc p ∷ t) = rw (eqb-suc-zero p) (omega (arith, push_length (Neg (suc p)) (clauses t), clauses_zeros t))

heads_length : (s : ℕ) (f : Formula) → length (heads_from s f) ≡ length f
unfolding heads_from
heads_length s [] = refl
heads_length s (c ∷ f) = ap suc (heads_length (s + length c + 1) f)

pub heads_zeros : (t : List ℤ) → length (heads_of t) ≡ zeros t
heads_zeros t = heads_length 0 (clauses t) ∙ clauses_zeros t

-- the clauses after the first one, which begins at s
pub rest_at : (t : List ℤ) (s : ℕ) (c : Clause) (f : Formula) → clauses (drop s t) ≡ c ∷ f → clauses (drop (s + length c + 1) t) ≡ f
rest_at t s c f e = let k : s + length c + 1 ≡ s + suc (length c) = omega arith in rw (k, ← drop-drop (suc (length c)) s t) (front (drop s t) c f e).rest

-- a closed table without a clause is empty
no_clause : (t : List ℤ) → ends_open false t ≡ false → clauses t ≡ [] → length t ≡ 0
unfolding ends_open
no_clause [] e h = refl
no_clause (x ∷ t) e h = absurd (omega (arith, ap length h, ap length (first_clause_lem (x ∷ t) e).2))

-- after a 0 a table ends as it does from its start
closed_after : (t : List ℤ) (b : Bool) (i : ℕ) → i < length t → get_or t i (posℤ 1) ≡ posℤ 0 → ends_open false (drop (suc i) t) ≡ ends_open b t
unfolding ends_open
closed_after t b i h e =
    let cut : t ≡ take i t ++ (posℤ 0 ∷ drop (suc i) t) = rw e at (split_at t i (posℤ 1) h) in
    sym (ap (ends_open b) cut ∙ ends_open_append b (take i t) _)

closed_at : (t : List ℤ) (s : ℕ) (c : Clause) (f : Formula) → clauses (drop s t) ≡ c ∷ f → ends_open false (drop s t) ≡ false → ends_open false (drop (s + length c + 1) t) ≡ false
closed_at t s c f e o =
    let w : Front (drop s t) c f = front (drop s t) c f e in
    let k : s + length c + 1 ≡ s + suc (length c) = omega arith in
    rw (k, ← drop-drop (suc (length c)) s t) (closed_after (drop s t) false (length c) w.inside w.zero_after ∙ o)

module _ (t : List ℤ) where
  head_of : (s : ℕ) (c : Clause) (f : Formula) → clauses (drop s t) ≡ c ∷ f → HeadOf t c (head s (length c))
  head_of s c f e =
      let w : Front (drop s t) c f = front (drop s t) c f e in
      record { entries = refl; literals = w.literals; inside = omega (arith, w.inside, length-drop s t); zero_after = rw (← get_or-drop) w.zero_after }

  pub heads_hold : (f : Formula) (s : ℕ) → clauses (drop s t) ≡ f → (k : ℕ) → k < length f → HeadOf t (get_or f k []) (head_at (heads_from s f) k)
  unfolding heads_from
  heads_hold [] s e k h = absurd (omega arith)
  heads_hold (c ∷ f) s e zero h = head_of s c f e
  heads_hold (c ∷ f) s e (suc k) h = heads_hold f _ (rest_at t s c f e) k (omega arith)

  -- each head starts after the 0 of the one before it
  pub first_start : (f : Formula) (s : ℕ) → 0 < length f → (head_at (heads_from s f) 0).start ≡ s
  unfolding heads_from
  first_start [] s h = absurd (omega arith)
  first_start (c ∷ f) s h = refl

  pub next_start : (f : Formula) (s k : ℕ) → suc k < length f → let h = head_at (heads_from s f) k in (head_at (heads_from s f) (suc k)).start ≡ h.start + h.entries + 1
  unfolding heads_from
  next_start [] s k h = absurd (omega arith)
  next_start (c ∷ f) s zero h = first_start f _ (omega arith)
  next_start (c ∷ f) s (suc k) h = next_start f _ k (omega arith)

  -- and the last one ends with the table
  pub last_end : (f : Formula) (s : ℕ) → clauses (drop s t) ≡ f → ends_open false (drop s t) ≡ false → (k : ℕ) → suc k ≡ length f →
      let h = head_at (heads_from s f) k in h.start + h.entries + 1 ≡ length t
  unfolding heads_from
  last_end [] s e o k h = absurd (omega arith)
  last_end (c ∷ []) s e o zero h =
      let w : HeadOf t c (head s (length c)) = head_of s c [] e in
      let z : length (drop (s + length c + 1) t) ≡ 0 = no_clause _ (closed_at t s c [] e o) (rest_at t s c [] e) in
      omega (arith, w.inside, length-drop (s + length c + 1) t)
  last_end (c ∷ []) s e o (suc k) h = absurd (omega arith)
  last_end (c ∷ c' ∷ f) s e o zero h = absurd (omega arith)
  last_end (c ∷ c' ∷ f) s e o (suc k) h = last_end (c' ∷ f) (s + length c + 1) (rest_at t s c (c' ∷ f) e) (closed_at t s c (c' ∷ f) e o) k (omega arith)

  -- heads are in order
  pub in_order : (f : Formula) (s j k : ℕ) → j < k → k < length f → (head_at (heads_from s f) j).start < (head_at (heads_from s f) k).start
  in_order f s j zero l h = absurd (omega arith)
  in_order f s j (suc k) l h = elim (dec_lt j k) [
    | yes p ↦ omega (arith, in_order f s j k p (omega arith), next_start f s k h)
    | no p ↦ let e : j ≡ k = omega arith in rw e (omega (arith, next_start f s k h))
  ]

  -- and each ends before the later ones
  pub ends_before : (f : Formula) (s j k : ℕ) → j < k → k < length f →
      (head_at (heads_from s f) j).start + (head_at (heads_from s f) j).entries < (head_at (heads_from s f) k).start
  ends_before f s j k l h = elim (dec_lt (suc j) k) [
    | yes p ↦ omega (arith, next_start f s j (omega arith), in_order f s (suc j) k p h)
    | no p ↦ let e : k ≡ suc j = omega arith in rw e (omega (arith, next_start f s j (omega arith)))
  ]

  -- the zeros before an element of the first clause, which begins at s
  zeros_inside : (s : ℕ) (c : Clause) (f : Formula) → clauses (drop s t) ≡ c ∷ f → (j : ℕ) → j ≤ length c → zeros (take (s + j) t) ≡ zeros (take s t)
  zeros_inside s c f e j h =
      let w = front (drop s t) c f e in
      let x = take (length c) (drop s t) in
      omega (
        arith,
        ap zeros (take-add s j t),
        zeros_append (take s t) (take j (drop s t)),
        ap zeros (take-take j (length c) (drop s t) h),
        ap zeros (take-append-drop j x),
        zeros_append (take j x) (drop j x),
        w.no_zeros,
      )

  -- and those before the clause after it
  zeros_next : (s : ℕ) (c : Clause) (f : Formula) → clauses (drop s t) ≡ c ∷ f → zeros (take (s + length c + 1) t) ≡ zeros (take s t) + 1
  unfolding zeros
  zeros_next s c f e =
      let w = head_of s c f e in
      rw (add-one (s + length c), take-suc t (s + length c) (posℤ 1) w.inside, w.zero_after, zeros_append)
      (omega (arith, zeros_inside s c f e (length c) (omega arith)))

-- an entry at index i is enclosed by the head that comes after as many as there are zeros before it
module _ (t : List ℤ) (i : ℕ) (inside : i < length t) (entry : ¬ (get_or t i (posℤ 1) ≡ posℤ 0)) where
  record Covered (s : ℕ) (f : Formula) : Type 0 where
    pub index : ℕ
    pub is_head : index < length f
    pub before : zeros (take i t) ≡ zeros (take s t) + index
    pub starts : (head_at (heads_from s f) index).start ≤ i
    pub ends : i < (head_at (heads_from s f) index).start + (head_at (heads_from s f) index).entries

  -- with the clauses from s on, where the first of them begins
  covered : (f : Formula) (s : ℕ) → clauses (drop s t) ≡ f → ends_open false (drop s t) ≡ false → s ≤ i → Covered s f
  unfolding heads_from
  covered [] s e o h = absurd (omega (arith, no_clause (drop s t) o e, length-drop s t))
  covered (c ∷ f) s e o h = elim (dec_lt i (s + length c)) [
    | yes p ↦
        let k : i ≡ s + (i - s) = omega arith in
        record {
          index = 0;
          is_head = omega arith;
          before = rw (add-zero, k) (zeros_inside t s c f e (i - s) (omega arith));
          starts = h;
          ends = p;
        }
    | no p ↦
        let z = (head_of t s c f e).zero_after in
        let q : i ≢ s + length c = λ q. entry (rw q z) in
        let w = covered f (s + length c + 1) (rest_at t s c f e) (closed_at t s c f e o) (omega arith) in
        record {
          index = suc w.index;
          is_head = omega (arith, w.is_head);
          before = omega (arith, w.before, zeros_next t s c f e);
          starts = w.starts;
          ends = w.ends;
        }
  ]

  pub entry_encloses : ends_open false t ≡ false → Encloses t (zeros (take i t) + 1) i
  unfolding zeros
  entry_encloses o =
      let w = covered (clauses t) 0 refl o (omega arith) in
      let e : zeros (take i t) + 1 - 1 ≡ w.index = omega (arith, w.before) in
      record {
        from_one = omega arith;
        is_clause = omega (arith, w.before, w.is_head, heads_zeros t, clauses_zeros t);
        starts = rw e w.starts;
        ends = rw e w.ends;
      }

-- no other group has its head around the place
pub encloses_one : (t : List ℤ) (k m i : ℕ) → Encloses t k i → Encloses t m i → k ≡ m
encloses_one t k m i a b = elim (dec_lt k m) [
  | yes l ↦ absurd (apart k m a b l)
  | no l ↦ elim (dec_lt m k) [
    | yes g ↦ absurd (apart m k b a g)
    | no g ↦ omega arith
  ]
]
  where
    apart : (k m : ℕ) → Encloses t k i → Encloses t m i → ¬ (k < m)
    apart k m a b l =
        omega (arith, ends_before t (clauses t) 0 (k - 1) (m - 1) (omega (arith, a.from_one)) (omega (arith, b.is_clause, b.from_one, heads_zeros t, clauses_zeros t)), a.ends, b.starts)
