-- Tables and formulas are two faces of one filing, so are strips and their items; how long a saved strip is, and that it is a strip within the limits.
use mathlib.Core.Path.{◌≡◌, refl, ap, sym, ◌∙◌}
use mathlib.Core.Bool.{Bool, true, false}
use mathlib.Core.List.{List, [], ◌∷◌, ◌++◌, map, append_assoc, Memᴰ}
use Prim.Native.Nat.{ℕ, zero, suc, ◌+◌, ◌-◌, ◌*◌, ◌/◌, ◌%◌, ◌<◌, ◌≤◌}
use native.Mathlib.Nat.{add-zero, zero-add}
use native.Mathlib.Omega.{arith}
use lib.Dec.{eqb-suc-zero}
use lib.IntN.{ℤ, negsuc, pos as posℤ}
use lib.ListN.{length, get_or, drop, length-append, length-map}
use Rattle.literal.specs.declared.Literal.{Literal}
use Rattle.literal.specs.declared.Literal.TheVariants.{Pos, Neg}
use Rattle.literal.specs.Literal.{var, entry_of, max_variables}
use Rattle.theory.specs.declared.Mark.TheVariants.{Placements, Opens, Taken, LeftOut, Closes, Ends}
use Rattle.theory.specs.Formula.{Clause, Formula, clauses}
use Rattle.theory.specs.Mentions.{Mentioned}
use Rattle.theory.specs.Heads.{head, heads_from, heads_of, head_at}
use Rattle.theory.specs.Unknown.{Encloses}
use Rattle.theory.specs.Strip.{byte_of, max_strip}
use Rattle.theory.specs.Table.{zeros, nonzeros, ends_open, Accepted}
use Rattle.theory.specs.Encoding.{Item, chapter, group, entry_bytes, item_bytes, encode, groups, table_of, entries, saved_strip, saved_length, max_saved, StripLimits, StripWithin, Bytes}
use Rattle.theory.proofs.Tables.{first_clause_lem, accepted_closed, accepted_sizes, accepted_within}
use Rattle.theory.proofs.Heads.{clauses_zeros, heads_zeros}

-- tables and formulas -------------------------------------------------------------------------------------------------

-- b says whether the element before is an entry
pub table_clauses : (b : Bool) (t : List ℤ) → ends_open b t ≡ false → table_of (clauses t) ≡ t
unfolding ends_open clauses table_of
table_clauses b [] h = refl
table_clauses b (posℤ zero ∷ t) h = ap (◌∷◌ (posℤ 0)) (table_clauses false t h)
table_clauses b (posℤ (suc p) ∷ t) h =
    let k = rw (eqb-suc-zero p) at h in
    let w = first_clause_lem t k in
    rw w.2 (ap (◌∷◌ (posℤ (suc p))) (sym (ap table_of w.2) ∙ table_clauses true t k))
table_clauses b (negsuc p ∷ t) h =
    let k = rw (eqb-suc-zero p) at h in
    let w = first_clause_lem t k in
    rw w.2 (ap (◌∷◌ (negsuc p)) (sym (ap table_of w.2) ∙ table_clauses true t k))

row_clauses : (c : Clause) (u : List ℤ) → ((l : Literal) → Memᴰ l c → 0 < var l) → clauses (map entry_of c ++ (posℤ 0 ∷ u)) ≡ c ∷ clauses u
unfolding clauses
row_clauses [] u h = refl
row_clauses (Pos zero ∷ c) u h = absurd (omega (arith, h (Pos 0) (Memᴰ.head refl)))
row_clauses (Neg zero ∷ c) u h = absurd (omega (arith, h (Neg 0) (Memᴰ.head refl)))
row_clauses (Pos (suc p) ∷ c) u h = rw (row_clauses c u (λ l m. h l (Memᴰ.tail m)))
row_clauses (Neg (suc p) ∷ c) u h = rw (row_clauses c u (λ l m. h l (Memᴰ.tail m)))

pub clauses_table : (f : Formula) → ((c : Clause) (l : Literal) → Memᴰ c f → Memᴰ l c → 0 < var l) → clauses (table_of f) ≡ f
unfolding clauses table_of
clauses_table [] h = refl
clauses_table (c ∷ f) h =
    row_clauses c (table_of f) (λ l. h c l (Memᴰ.head refl)) ∙ ap (◌∷◌ c) (clauses_table f (λ d l m. h d l (Memᴰ.tail m)))

-- a formula after a formula
pub tables_append : (f g : Formula) → table_of (f ++ g) ≡ table_of f ++ table_of g
unfolding table_of
tables_append [] g = refl
tables_append (c ∷ f) g = rw (tables_append f g, append_assoc (map entry_of c) (posℤ 0 ∷ table_of f) (table_of g))

pub entries_append : (f g : Formula) → entries (f ++ g) ≡ entries f + entries g
unfolding entries
entries_append [] g = omega arith
entries_append (c ∷ f) g = omega (arith, entries_append f g)

-- the head of the last clause of a formula's table: it starts after the clauses before it
last_head_lem : (f : Formula) (s : ℕ) (c : Clause) → head_at (heads_from s (f ++ (c ∷ []))) (length f) ≡ head (s + length (table_of f)) (length c)
unfolding heads_from table_of
last_head_lem [] s c = rw (add-zero s)
last_head_lem (d ∷ f) s c =
    let k : s + length d + 1 + length (table_of f) ≡ s + length (map entry_of d ++ (posℤ 0 ∷ table_of f)) =
    omega (arith, length-append (map entry_of d) (posℤ 0 ∷ table_of f), length-map d entry_of) in
    last_head_lem f (s + length d + 1) c ∙ rw k

-- so it encloses its last literal
pub last_encloses : (f : Formula) (c : Clause) (l : Literal) →
    let g = f ++ ((c ++ (l ∷ [])) ∷ []) in
    ((d : Clause) (x : Literal) → Memᴰ d g → Memᴰ x d → 0 < var x) → Encloses (table_of g) (length f + 1) (length (table_of f) + length c)
last_encloses f c l low =
    let g = f ++ ((c ++ (l ∷ [])) ∷ []) in
    let k : length f + 1 - 1 ≡ length f = omega arith in
    let h : head_at (heads_of (table_of g)) (length f + 1 - 1) ≡ head (length (table_of f)) (length (c ++ (l ∷ []))) =
    rw (k, clauses_table g low) (last_head_lem f 0 (c ++ (l ∷ [])) ∙ rw (zero-add (length (table_of f)))) in
    record {
      from_one = omega arith;
      is_clause = omega (arith, heads_zeros (table_of g), clauses_zeros (table_of g), ap length (clauses_table g low), length-append f ((c ++ (l ∷ [])) ∷ []));
      starts = rw h (omega arith);
      ends = rw h (omega (arith, length-append c (l ∷ [])));
    }

-- strips and items ----------------------------------------------------------------------------------------------------

pub groups_append : (l k : List Item) → groups (l ++ k) ≡ groups l ++ groups k
unfolding groups
groups_append [] k = refl
groups_append (chapter b ∷ l) k = groups_append l k
groups_append (group c ∷ l) k = ap (◌∷◌ c) (groups_append l k)

pub groups_only : (f : Formula) → groups (map group f) ≡ f
unfolding groups
groups_only [] = refl
groups_only (c ∷ f) = ap (◌∷◌ c) (groups_only f)

-- byte k, which is the same in equal strips
abbrev byte : ℕ → List ℕ → ℕ
byte k s = get_or s k 0

word_same : (b c v w : ℕ) (x y : List ℕ) → b ∷ v / 256 ∷ v % 256 ∷ x ≡ c ∷ w / 256 ∷ w % 256 ∷ y → v ≡ w
word_same b c v w x y e = omega (arith, ap (byte 1) e, ap (byte 2) e)

entries_same : (c d : Clause) (x y : List ℕ) → entry_bytes c ++ (byte_of Closes ∷ x) ≡ entry_bytes d ++ (byte_of Closes ∷ y) → (c ≡ d) × (x ≡ y)
unfolding entry_bytes
entries_same [] [] x y e = (refl, ap (drop 1) e)
entries_same [] (Pos q ∷ d) x y e = absurd (omega (arith, ap (byte 0) e))
entries_same [] (Neg q ∷ d) x y e = absurd (omega (arith, ap (byte 0) e))
entries_same (Pos p ∷ c) [] x y e = absurd (omega (arith, ap (byte 0) e))
entries_same (Pos p ∷ c) (Pos q ∷ d) x y e = let r = entries_same c d x y (ap (drop 3) e) in (rw (word_same _ _ p q _ _ e, r.0), r.1)
entries_same (Pos p ∷ c) (Neg q ∷ d) x y e = absurd (omega (arith, ap (byte 0) e))
entries_same (Neg p ∷ c) [] x y e = absurd (omega (arith, ap (byte 0) e))
entries_same (Neg p ∷ c) (Pos q ∷ d) x y e = absurd (omega (arith, ap (byte 0) e))
entries_same (Neg p ∷ c) (Neg q ∷ d) x y e = let r = entries_same c d x y (ap (drop 3) e) in (rw (word_same _ _ p q _ _ e, r.0), r.1)

items_same : (l k : List Item) → item_bytes l ≡ item_bytes k → l ≡ k
unfolding item_bytes
items_same [] [] e = refl
items_same [] (chapter b ∷ k) e = absurd (omega (arith, ap (byte 0) e))
items_same [] (group d ∷ k) e = absurd (omega (arith, ap (byte 0) e))
items_same (chapter a ∷ l) [] e = absurd (omega (arith, ap (byte 0) e))
items_same (chapter a ∷ l) (chapter b ∷ k) e = let q : a ≡ b = ap (byte 1) e in rw (q, items_same l k (ap (drop 2) e))
items_same (chapter a ∷ l) (group d ∷ k) e = absurd (omega (arith, ap (byte 0) e))
items_same (group c ∷ l) [] e = absurd (omega (arith, ap (byte 0) e))
items_same (group c ∷ l) (chapter b ∷ k) e = absurd (omega (arith, ap (byte 0) e))
items_same (group c ∷ l) (group d ∷ k) e = let r = entries_same c d (item_bytes l) (item_bytes k) (ap (drop 1) e) in rw (r.0, items_same l k r.1)

-- a strip has one reading by its grammar
pub encode_injective : (n m : ℕ) (l k : List Item) → encode n l ≡ encode m k → (n ≡ m) × (l ≡ k)
encode_injective n m l k e = (word_same _ _ n m _ _ e, items_same l k (ap (drop 3) e))

-- the length of a saved strip -----------------------------------------------------------------------------------------

entries_nonzeros : (b : Bool) (t : List ℤ) → ends_open b t ≡ false → entries (clauses t) ≡ nonzeros t
unfolding ends_open clauses entries nonzeros
entries_nonzeros b [] h = refl
entries_nonzeros b (posℤ zero ∷ t) h = omega (arith, entries_nonzeros false t h)
entries_nonzeros b (posℤ (suc p) ∷ t) h =
    let k = rw (eqb-suc-zero p) at h in
    let w = first_clause_lem t k in
    rw (w.2, eqb-suc-zero p) (omega (arith, ap entries w.2, entries_nonzeros true t k))
entries_nonzeros b (negsuc p ∷ t) h =
    let k = rw (eqb-suc-zero p) at h in
    let w = first_clause_lem t k in
    rw (w.2, eqb-suc-zero p) (omega (arith, ap entries w.2, entries_nonzeros true t k))

pub entry_length : (c : Clause) → length (entry_bytes c) ≡ 3 * length c
unfolding entry_bytes
entry_length [] = refl
entry_length (Pos p ∷ c) = omega (arith, entry_length c)
entry_length (Neg p ∷ c) = omega (arith, entry_length c)

item_length : (f : Formula) → length (item_bytes (map group f)) ≡ 1 + 2 * length f + 3 * entries f
unfolding item_bytes entries
item_length [] = refl
item_length (c ∷ f) = omega (arith, length-append (entry_bytes c) (byte_of Closes ∷ item_bytes (map group f)), entry_length c, item_length f)

pub saved_length_lem : (n : ℕ) (t : List ℤ) → Accepted n t → length (saved_strip n t) ≡ saved_length (zeros t) (nonzeros t)
unfolding saved_strip
saved_length_lem n t a = omega (arith, item_length (clauses t), clauses_zeros t, entries_nonzeros false t (accepted_closed n t a))

-- the longest is of a table at the limits
pub saved_most : (n : ℕ) (t : List ℤ) → Accepted n t → length (saved_strip n t) ≤ max_saved
saved_most n t a = let w = accepted_sizes n t a in omega (arith, saved_length_lem n t a, w.clauses, w.literals)

-- none is "over 16,384 bytes"
pub saved_short : (n : ℕ) (t : List ℤ) → Accepted n t → length (saved_strip n t) ≤ max_strip
saved_short n t a = omega (arith, saved_most n t a)

-- a saved strip is of bytes, and within the limits --------------------------------------------------------------------

byte_first : (x : ℕ) (s : List ℕ) → x < 256 → Bytes s → Bytes (x ∷ s)
byte_first x s h b zero = h
byte_first x s h b (suc i) = b i

word_first : (x v : ℕ) (s : List ℕ) → x < 256 → v ≤ max_variables → Bytes s → Bytes (x ∷ v / 256 ∷ v % 256 ∷ s)
word_first x v s h l b zero = h
word_first x v s h l b (suc zero) = omega arith
word_first x v s h l b (suc (suc zero)) = omega arith
word_first x v s h l b (suc (suc (suc i))) = b i

-- every variable is within the limit, so that its high byte is a byte
abbrev Small : Clause → Type 0
Small c = (l : Literal) → Memᴰ l c → var l ≤ max_variables

entries_bytes : (c : Clause) (s : List ℕ) → Small c → Bytes s → Bytes (entry_bytes c ++ s)
unfolding entry_bytes
entries_bytes [] s h b = b
entries_bytes (Pos p ∷ c) s h b =
    word_first (byte_of Taken) p (entry_bytes c ++ s) (omega arith) (h (Pos p) (Memᴰ.head refl)) (entries_bytes c s (λ l m. h l (Memᴰ.tail m)) b)
entries_bytes (Neg p ∷ c) s h b =
    word_first (byte_of LeftOut) p (entry_bytes c ++ s) (omega arith) (h (Neg p) (Memᴰ.head refl)) (entries_bytes c s (λ l m. h l (Memᴰ.tail m)) b)

items_bytes : (f : Formula) → ((c : Clause) → Memᴰ c f → Small c) → Bytes (item_bytes (map group f))
unfolding item_bytes
items_bytes [] h = byte_first (byte_of Ends) [] (omega arith) (λ i. omega arith)
items_bytes (c ∷ f) h =
    let rest = item_bytes (map group f) in
    let after = byte_of Closes ∷ rest in
    byte_first (byte_of Opens) (entry_bytes c ++ after) (omega arith)
    (entries_bytes c after (h c (Memᴰ.head refl)) (byte_first (byte_of Closes) rest (omega arith) (items_bytes f (λ d m. h d (Memᴰ.tail m)))))

module _ (n : ℕ) (t : List ℤ) (a : Accepted n t) where
  pub saved_bytes : Bytes (saved_strip n t)
  unfolding saved_strip
  saved_bytes =
      let few = (accepted_sizes n t a).variables in
      word_first (byte_of Placements) n (item_bytes (map group (clauses t))) (omega arith) few (items_bytes (clauses t) (λ c m l k. omega (arith, few, (accepted_within n t a).high c l m k)))

  pub saved_table : table_of (groups (map group (clauses t))) ≡ t
  saved_table = rw (groups_only (clauses t)) (table_clauses _ t (accepted_closed n t a))

  -- it is within document 01's limits, of n placements and the groups of the table
  saved_limits : StripLimits (saved_strip n t) n (map group (clauses t))
  unfolding saved_strip
  saved_limits = let w = accepted_sizes n t a in record {
    is = refl;
    short = saved_short n t a;
    variables = w.variables;
    clauses = rw (groups_only (clauses t), clauses_zeros t) w.clauses;
    literals = rw (groups_only (clauses t), entries_nonzeros _ t (accepted_closed n t a)) w.literals;
    known = rw (groups_only (clauses t)) (accepted_within n t a);
  }

  -- and with every placement named within the limits
  pub saved_within : Mentioned n t → StripWithin (saved_strip n t) n (map group (clauses t))
  saved_within h = record { limits = saved_limits; mentioned = rw saved_table h }
