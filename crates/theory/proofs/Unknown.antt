-- A2: a table that is refused with 5 is refused for its first unknown placement, with the group whose head encloses it.
use mathlib.Core.Path.{◌≡◌, refl, ap, ◌∙◌}
use mathlib.Core.Bool.{Bool, true, false, cond}
use mathlib.Core.Logic.{◌≢◌}
use mathlib.Core.List.{List}
use Rattle.std.specs.Prelude.{Option, None, Some}
use Prim.Native.Nat.{ℕ, ◌+◌}
use native.Mathlib.Nat.{zero-add}
use native.Mathlib.Omega.{arith}
use borrow.Author.Tests.{ltb-true}
use lib.Dec.{ltb}
use lib.IntN.{ℤ, nat_abs, pos as posℤ}
use lib.ListN.{take}
use Rattle.general.specs.Search.{First, first_place, place_some}
use Rattle.literal.specs.Literal.{max_variables, max_clauses, max_literals}
use Rattle.receipt.specs.declared.Fault.{Fault}
use Rattle.receipt.specs.declared.Fault.TheVariants.{TooManyVariables, TooManyClauses, TooManyLiterals, OpenClause}
use Rattle.std.specs.Prelude.{Ok, Err}
use Rattle.receipt.specs.Receipt.{Checked, pass}
use Rattle.receipt.specs.declared.Refusal.{Refusal}
use Rattle.receipt.specs.declared.Receipt.{Receipt}
use Rattle.receipt.specs.Receipt.{number_of, named_clause, unknown_variable, refusal, receipt, refused_receipt}
use Rattle.receipt.proofs.Numbers.{names_none}
use Rattle.theory.specs.Unknown.{UnknownInTable, Names}
use Rattle.theory.specs.Table.{zeros, nonzeros, ends_open, refused, is_unknown, table_unknown, check}
use Rattle.theory.proofs.Heads.{entry_encloses}

-- a check that refuses with 5 passed the tests before it
passed_by : (b : Bool) (why : Fault) (c : Checked) (r : Refusal) → number_of why ≢ 5 → number_of r.fault ≡ 5 → cond b (refused why 0) c ≡ Err r →
    (b ≡ false) × (c ≡ Err r)
passed_by true why c r h f e = let q : refusal why 0 ≡ r = cc in absurd (h (ap (λ (x : Refusal). number_of x.fault) q ∙ f))
passed_by false why c r h f e = (refl, e)

-- what the first unknown entry is refused with
at_unknown : (n : ℕ) (t : List ℤ) (r : Refusal) → ends_open false t ≡ false → (o : Option ℕ) → first_place (is_unknown n) 0 t ≡ o → table_unknown t o ≡ Err r →
    UnknownInTable n t (named_clause r.fault).0 r.place
at_unknown n t r closed None p e = absurd (let z : ◌≡◌ {A = ℕ} 0 1 = cc in omega arith)
at_unknown n t r closed (Some i) p e =
    let w = place_some (is_unknown n) 0 t i p in
    let f : First (is_unknown n) t i = rw (w.1, zero-add w.0) w.2 in
    let q : r ≡ refusal (unknown_variable (zeros (take i t) + 1)) i = cc in
    rw q (record { first = f; number = refl; encloses = entry_encloses t i f.inside (λ z. omega (arith, ltb-true n _ (f.here (posℤ 1)), ap nat_abs z)) closed })

-- a table refused with 5 is refused for its first unknown entry, with the group whose head encloses it
pub check_unknown : (n : ℕ) (t : List ℤ) (r : Refusal) → check n t ≡ Err r → number_of r.fault ≡ 5 → UnknownInTable n t (named_clause r.fault).0 r.place
unfolding check
check_unknown n t r e f =
    let a = passed_by (ltb max_variables n) TooManyVariables _ r (λ q. omega arith) f e in
    let b = passed_by (ltb max_clauses (zeros t)) TooManyClauses _ r (λ q. omega arith) f a.1 in
    let c = passed_by (ltb max_literals (nonzeros t)) TooManyLiterals _ r (λ q. omega arith) f b.1 in
    let d = passed_by (ends_open false t) OpenClause _ r (λ q. omega arith) f c.1 in
    at_unknown n t r d.0 _ refl d.1

-- a receipt that names no group, and isn't 5
pub none_named : {Where : ℕ → ℕ → Type 0} (m p k : ℕ) → m ≢ 5 → Names Where (receipt m p k)
none_named m p k h = record { unknown = λ e. absurd (h e); others = λ _. refl }

-- a refusal, by what holds where its number is 5
pub refusal_names : {Where : ℕ → ℕ → Type 0} (r : Refusal) → (number_of r.fault ≡ 5 → Where (named_clause r.fault).0 r.place) → Names Where (refused_receipt r)
refusal_names r h = record { unknown = h; others = names_none r }

-- a call that looks at the table first, by its receipt f
pub check_names : (n : ℕ) (t : List ℤ) (f : Checked → Receipt) → ((w : Refusal) → f (Err w) ≡ refused_receipt w) → Names (UnknownInTable n t) (f pass) →
    Names (UnknownInTable n t) (f (check n t))
check_names n t f h p = go (check n t) refl
  where
    go : (k : Checked) → check n t ≡ k → Names (UnknownInTable n t) (f k)
    go (Err w) e = rw (h w) (refusal_names w (check_unknown n t w e))
    go (Ok u) e = p
