-- How code makes the heads of a table: one group after the other. And a call of Index: its answer, and the list after it.
use Rattle.std.specs.Prelude.{cond, List, [], ◌∷◌, ◌++◌, ℕ, zero, suc, ◌+◌, min, ℤ, take, drop, Result, Ok, Err}
use Rattle.literal.specs.Literal.{max_clauses}
use Rattle.receipt.specs.declared.Fault.TheVariants.{HeadsShort}
use Rattle.receipt.specs.declared.Refusal.{Refusal}
use Rattle.receipt.specs.Receipt.{Checked}
use Rattle.receipt.specs.declared.Head.{Head}
use Rattle.theory.specs.Table.{closes, zeros, check}
use Rattle.theory.specs.Refusing.{at_most, first_refusal, unless}
use Rattle.theory.specs.Calls.{IndexCall, index_call}
use Rattle.theory.specs.Heads.{head}
use Rattle.index.specs.declared.Next.{Next}

-- the group that begins at s, of which k entries are passed: at a 0 it ends, and the next one begins after it
unfoldable pub next_from : ℕ → ℕ → List ℤ → Next
next_from s k [] = record { head = head s k; next = s + k }
next_from s k (e ∷ t) = cond (closes e) (record { head = head s k; next = s + k + 1 }) (next_from s (suc k) t)

abbrev pub next_head : List ℤ → ℕ → Next
next_head t at = next_from at 0 (drop at t)

-- so many heads, from the group that begins at `at` on
unfoldable pub heads_at : ℕ → List ℤ → ℕ → List Head
heads_at zero t at = []
heads_at (suc r) t at = (next_head t at).head ∷ heads_at r t (next_head t at).next

-- how many heads are stored, where the call isn't refused
abbrev pub due_checked : Checked → ℕ → ℕ → Result ℕ Refusal
due_checked c groups room = unless (first_refusal (c ∷ at_most groups room HeadsShort ∷ [])) Err (Ok groups)

unfoldable pub due_of : ℕ → List ℤ → ℕ → Result ℕ Refusal
due_of n t room = due_checked (check n t) (zeros t) room

abbrev pub called : Checked → List Head → IndexCall
called r hs = record { answer = r; heads = hs }

-- the first `room` heads of an array are lent, and the others stay
abbrev pub index_first : ℕ → List ℤ → List Head → ℕ → IndexCall
index_first n t hs room = let c = index_call n t (take room hs) in called c.answer (c.heads ++ drop room hs)

-- for any room, in an array of as many heads as a table has groups at most
abbrev pub index_array : ℕ → List ℤ → List Head → ℕ → IndexCall
index_array n t hs room = index_first n t hs (min room max_clauses)
