-- The heads of a table's groups, as Index stores them.
use Rattle.std.specs.Prelude.{◌≡◌, List, [], ◌∷◌, map, ℕ, ◌+◌, ◌-◌, ◌<◌, ℤ, pos as posℤ, length, get_or, take, drop}
use Rattle.literal.specs.Literal.{literal_of}
use Rattle.receipt.specs.declared.Head.{Head}
use Rattle.theory.specs.Formula.{Clause, Formula, clauses}

-- "its start (the index of its first element, of its 0 if it is empty) and number of entries"
abbrev pub head : ℕ → ℕ → Head
head s k = record { start = s; entries = k }

-- "one per group": the first of the groups starts at s, and each of the others after the 0 of the one before it
unfoldable pub heads_from : ℕ → Formula → List Head
heads_from s [] = []
heads_from s (c ∷ f) = head s (length c) ∷ heads_from (s + length c + 1) f

abbrev pub heads_of : List ℤ → List Head
heads_of t = heads_from 0 (clauses t)

-- head number i of a list, from 0 on
abbrev pub head_at : List Head → ℕ → Head
head_at hs i = get_or hs i (head 0 0)

-- "the last group" (document 02, A7): its head, where it starts, and its elements before its 0. Without a group that is the index 0 and no element.
abbrev pub last_head : List ℤ → Head
last_head t = let hs = heads_of t in head_at hs (length hs - 1)

abbrev pub last_start : List ℤ → ℕ
last_start t = (last_head t).start

abbrev pub last_group : List ℤ → List ℤ
last_group t = take (last_head t).entries (drop (last_start t) t)

-- what a head says of its group, the clause c: where its literals stand, and the 0 after them
pub record HeadOf (t : List ℤ) (c : Clause) (h : Head) : Type 0 where
  pub entries : h.entries ≡ length c
  pub literals : c ≡ map literal_of (take h.entries (drop h.start t))
  pub inside : h.start + h.entries < length t
  pub zero_after : get_or t (h.start + h.entries) (posℤ 1) ≡ posℤ 0
