-- Rules 1 to 8 of document 01. Each looks at one clause as it stands, or at two, and may ask a step.
use Rattle.std.specs.Prelude.{Bool, true, false, not, ◌&&◌, ◌||◌, cond, [], ◌∷◌, ℕ, ◌+◌, eqb, leb, ltb, length}
use Rattle.std.specs.Prelude.{Option, None, Some, option_map, option_and_then}
use Rattle.general.specs.Booleans.{bit}
use Rattle.general.specs.Search.{find, any}
use Rattle.literal.specs.declared.Literal.{Literal}
use Rattle.literal.specs.Literal.{TRUE, FALSE, var, opposite, same, is_open}
use Rattle.theory.specs.declared.Step.{Step}
use Rattle.theory.specs.declared.Step.TheVariants.{DeadEnd, Becomes}
use Rattle.theory.specs.Formula.{Clause}

-- how often a literal stands in a clause, and whether it does
unfoldable pub occurs : Literal → Clause → ℕ
occurs x [] = 0
occurs x (l ∷ c) = bit (same l x) + occurs x c

abbrev pub stands : Literal → Clause → Bool
stands x c = ltb 0 (occurs x c)

abbrev pub none_true : Clause → Bool
none_true c = eqb (occurs TRUE c) 0

-- of different placements
abbrev pub differ : Literal → Literal → Bool
differ x y = not (eqb (var x) (var y))

abbrev pub when : Bool → Option Step → Option Step
when b o = cond b o None

-- the literal that was found becomes false
abbrev pub becomes_false : Option Literal → Option Step
becomes_false = option_map (λ x. Becomes x FALSE)

-- exactly one of x and y is true: "tie the higher placement to the lower"
abbrev pub tie : Literal → Literal → Step
tie x y = cond (ltb (var x) (var y)) (Becomes y (opposite x)) (Becomes x (opposite y))

-- 1. Two true entries, or none true and none open: dead end.
abbrev pub rule1 : Clause → Option Step
rule1 c = when (leb 2 (occurs TRUE c) || eqb (length c) 0) (Some DeadEnd)

-- 2. One true: the first open entry becomes false.
abbrev pub rule2 : Clause → Option Step
rule2 c = when (eqb (occurs TRUE c) 1) (becomes_false (find is_open c))

-- 3. None true, one open: it becomes true.
abbrev pub rule3 : Clause → Option Step
rule3 [] = None
rule3 (x ∷ []) = when (is_open x) (Some (Becomes x TRUE))
rule3 (x ∷ y ∷ c) = None

-- 4. None true, an open entry stands twice with one sign: it becomes false.
abbrev pub rule4 : Clause → Option Step
rule4 c = when (none_true c) (becomes_false (find (λ x. leb 2 (occurs x c)) c))

-- the first entry whose opposite stands too
abbrev pub complementary : Clause → Option Literal
complementary c = find (λ x. stands (opposite x) c) c

-- the first entry of another placement
abbrev pub other : Clause → Literal → Option Literal
other c x = find (λ y. differ x y) c

-- 5. None true, an entry and its opposite stand: the first entry of a placement other than the first such one becomes false.
abbrev pub rule5 : Clause → Option Step
rule5 c = when (none_true c) (becomes_false (option_and_then (other c) (complementary c)))

-- 6. None true, two open entries of different placements and nothing else: tie them.
abbrev pub rule6 : Clause → Option Step
rule6 [] = None
rule6 (x ∷ []) = None
rule6 (x ∷ y ∷ []) = when (is_open x && is_open y && differ x y) (Some (tie x y))
rule6 (x ∷ y ∷ z ∷ c) = None

abbrev pub is_none : Option Literal → Bool
is_none None = true
is_none (Some x) = false

-- "If there is none the group is at rest": an entry and its opposite stand, and no entry of another placement
abbrev pub rests_on : Clause → Option Literal → Bool
rests_on c None = false
rests_on c (Some x) = is_none (other c x)

abbrev pub at_rest : Clause → Bool
at_rest c = none_true c && rests_on c (complementary c)

-- "live groups: none true, not at rest"
abbrev pub live : Clause → Bool
live c = none_true c && not (at_rest c)

-- 7. Live groups g and h hold a common entry x, and y in g has its opposite in h: x becomes false.
abbrev pub rule7 : Clause → Clause → Option Step
rule7 g h =
    when (live g && live h)
    (becomes_false (find (λ x. stands x h && any (λ y. stands (opposite y) h && differ x y) g) g))

-- an entry of g whose opposite stands in h, of another placement than x
abbrev pub partner : Clause → Clause → Literal → Option Literal
partner g h x = find (λ y. stands (opposite y) h && differ x y) g

-- 8. Two entries stand in g, their opposites in h: tie the first such pair. The first entry with a partner comes before it.
abbrev pub pair_in : Clause → Clause → Option Literal
pair_in g h = find (λ x. stands (opposite x) h && not (is_none (partner g h x))) g

abbrev pub rule8 : Clause → Clause → Option Step
rule8 g h = when (live g && live h) (option_and_then (λ x. option_map (tie x) (partner g h x)) (pair_in g h))
