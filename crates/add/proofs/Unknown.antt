-- A2: what Add refuses with 5 it refuses for the first unknown placement of the used part, or for the first wrong element of the list, with its group.
use mathlib.Core.Path.{◌≡◌, refl, ap, sym, subst, ◌∙◌}
use mathlib.Core.Bool.{false}
use mathlib.Core.Logic.{inl, inr}
use mathlib.Core.List.{List, [], ◌∷◌, ◌++◌}
use Rattle.std.specs.Prelude.{Option, None, Some}
use Prim.Native.Nat.{ℕ, ◌+◌, ◌≤◌}
use native.Mathlib.Omega.{arith}
use borrow.Author.Tests.{ne_eqb}
use lib.IntN.{ℤ, nat_abs, pos as posℤ}
use lib.ListN.{length, get_or, take, length-append, get_or-append}
use lib.Seq.{length-take-le, take-append-add, take-append-le, get_or-append-add}
use Rattle.general.specs.Booleans.{true_not_false}
use Rattle.general.specs.Search.{First, first_place, place_some}
use Rattle.literal.specs.Literal.{max_clauses, max_literals}
use Rattle.std.specs.Prelude.{Err}
use Rattle.receipt.specs.declared.Fault.TheVariants.{TooManyClauses, TooManyLiterals, UsedLengthWrong}
use Rattle.receipt.specs.declared.Refusal.{Refusal}
use Rattle.receipt.specs.Receipt.{named_clause, unknown_variable, refusal}
use Rattle.theory.specs.Calls.{is_wrong, list_unknown, unknown_in, check_group}
use Rattle.theory.specs.Table.{closes, zeros, nonzeros, ends_open, check, Accepted}
use Rattle.theory.specs.Unknown.{Encloses, UnknownInAdd}
use Rattle.theory.proofs.Heads.{entry_encloses}
use Rattle.theory.proofs.Tables.{zeros_append, ends_open_append, known_variable, accepted_closed, no_zeros_before}
use Rattle.theory.proofs.Refusing.{most_passes, NamedBy, passed_named, first_named, most_named}
use Rattle.theory.proofs.Unknown.{check_unknown}

-- an element that isn't wrong closes nothing
not_wrong_open : (n : ℕ) (e : ℤ) → is_wrong n e ≡ false → closes e ≡ false
not_wrong_open n e h = ne_eqb (nat_abs e) 0 (λ z. omega (arith, (known_variable n (nat_abs e) h).0))

-- the table with the list and a closing 0, after a closed used part t
module _ (n : ℕ) (t g : List ℤ) (closed : ends_open false t ≡ false) (j : ℕ) (f : First (is_wrong n) g j) where
  abbrev grown : List ℤ
  grown = t ++ (g ++ (posℤ 0 ∷ []))

  entry_is : (d : ℤ) → get_or grown (length t + j) d ≡ get_or g j d
  entry_is d = get_or-append-add t (g ++ (posℤ 0 ∷ [])) j d ∙ get_or-append g (posℤ 0 ∷ []) d j f.inside

  grown_closed : ends_open false grown ≡ false
  unfolding ends_open
  grown_closed = ends_open_append false t (g ++ (posℤ 0 ∷ [])) ∙ ends_open_append (ends_open false t) g (posℤ 0 ∷ [])

  zeros_before : zeros (take (length t + j) grown) ≡ zeros t
  zeros_before =
      let l : j ≤ length g = omega (arith, f.inside) in
      rw (take-append-add t (g ++ (posℤ 0 ∷ [])) j, take-append-le j g (posℤ 0 ∷ []) l, zeros_append)
      (omega (arith, no_zeros_before g j l (λ i k. not_wrong_open n (get_or g i (posℤ 0)) (f.earlier i k (posℤ 0)))))

  in_list : closes (get_or g j (posℤ 1)) ≡ false → Encloses grown (zeros t + 1) (length t + j)
  in_list h = rw zeros_before at (entry_encloses grown (length t + j)
      (omega (arith, f.inside, length-append t (g ++ (posℤ 0 ∷ [])), length-append g (posℤ 0 ∷ [])))
      (λ q. true_not_false (ap closes (sym (entry_is (posℤ 1)) ∙ q)) h) grown_closed)

module _ (u n : ℕ) (g b : List ℤ) where
  abbrev t : List ℤ
  t = take u b

  first_wrong : u ≤ length b → Accepted n t → (w : Refusal) → (o : Option ℕ) → first_place (is_wrong n) u g ≡ o → list_unknown (zeros t + 1) o ≡ Err w →
      UnknownInAdd n t g (named_clause w.fault).0 w.place
  first_wrong l a w None p e = absurd (let z : ◌≡◌ {A = ℕ} 0 1 = cc in omega arith)
  first_wrong l a w (Some i) p e =
      let f = place_some (is_wrong n) u g i p in
      let k : length t ≡ u = length-take-le u b l in
      let q : w ≡ refusal (unknown_variable (zeros t + 1)) i = cc in
      let place : i ≡ length t + f.0 = omega (arith, f.1, k) in
      rw q (inr (record { used = a; index = f.0; place = place; first = f.2; number = refl; encloses = λ h. subst (Encloses _ _) (sym place) (in_list n t g (accepted_closed n t a) f.0 f.2 h) }))

  -- what the list is refused for
  list_named : u ≤ length b → Accepted n t → NamedBy (UnknownInAdd n t g) (unknown_in u (zeros t + 1) n g)
  unfolding unknown_in
  list_named l a = record { named = λ w e _. first_wrong l a w _ refl e }

  -- of the checks only those of the used part and of the list refuse with 5
  pub group_named : NamedBy (UnknownInAdd n t g) (check_group u n g b)
  unfolding check_group
  group_named =
      first_named _ _ (most_named u (length b) UsedLengthWrong (λ e. omega arith))
      (λ h. first_named (check n t) _ (record { named = λ w e f. inl (check_unknown n t w e f) })
      (λ a. first_named _ _ (most_named (zeros t + 1) max_clauses TooManyClauses (λ e. omega arith))
      (λ _. first_named _ _ (most_named (nonzeros t + length g) max_literals TooManyLiterals (λ e. omega arith))
      (λ _. first_named _ _ (list_named ((most_passes u (length b) UsedLengthWrong).0 h) a) (λ _. passed_named refl)))))
