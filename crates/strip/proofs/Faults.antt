-- A strip is refused exactly with the first fault of its first command that has one.
use Rattle.receipt.specs.Answers.{reading}
use mathlib.Core.Path.{◌≡◌, refl, ap, sym, subst, ◌∙◌}
use mathlib.Core.Bool.{Bool, true, false, ◌||◌, cond}
use mathlib.Core.Logic.{◌⊎◌, inl, inr, ⊎_elim, ◌↔◌}
use mathlib.Core.List.{List, [], ◌∷◌, ◌++◌}
use Rattle.std.specs.Prelude.{Option, None, Some, Ok}
use Prim.Native.Nat.{ℕ, zero, suc, ◌+◌, ◌<◌, ◌≤◌}
use native.Mathlib.Omega.{arith}
use borrow.Author.Tests.{lt-ltb, le-ltb, ltb-true, ltb-false, lt-leb, leb-false, eqb-true, eq-eqb, ne_eqb}
use lib.Dec.{ltb, leb, eqb}
use lib.IntN.{ℤ}
use lib.ListN.{length, get_or, length-append}
use Rattle.general.specs.Booleans.{cond_ind}
use Rattle.literal.specs.declared.Literal.{Literal}
use Rattle.literal.specs.declared.Literal.TheVariants.{Pos, Neg}
use Rattle.literal.specs.Literal.{var, entry_of, max_variables, max_clauses, max_literals}
use Rattle.receipt.specs.declared.Fault.{Fault}
use Rattle.receipt.specs.declared.Fault.TheVariants.{TooManyVariables, TooManyClauses, TooManyLiterals, UnknownMark, CutStrip, OutOfTurn, TableShort, StripTooLong, UnmentionedVariable}
use Rattle.receipt.specs.declared.Refusal.{Refusal}
use Rattle.std.specs.Prelude.{Err}
use Rattle.receipt.specs.Receipt.{unknown_variable, refusal}
use Rattle.theory.specs.declared.Mark.{Mark}
use Rattle.theory.specs.declared.Mark.TheVariants.{Placements, Chapter, Opens, Taken, LeftOut, Closes, Ends}
use Rattle.theory.specs.declared.Turn.TheVariants.{Outside, Inside, After}
use Rattle.std.specs.Prelude.{Result}
use Rattle.theory.specs.declared.Command.{Command}
use Rattle.theory.specs.declared.Obeyed.{Obeyed}
use Rattle.theory.specs.declared.Progress.{Progress}
use Rattle.theory.specs.Mentions.{mentions_all}
use Rattle.theory.specs.Strip.{mark_of, operand_bytes, turn_of, same, operand_at, command_of, command_at, progress, entered, nothing_read, obey, Decoding, not_read, storing, onward, follow, finish, read_from, max_strip, read_by, read_strip, commands, obeyed}
use Rattle.theory.proofs.Tables.{known_variable}
use Rattle.reader.proofs.Commands.{command_stands}
use Rattle.strip.specs.Faults.{with, IsEntry, Reads, begun, goes, FirstFault, unknown_mark, out_of_turn, cut, variables_over, unknown_variable_lem, clauses_over, literals_over, unmentioned, table_short, RefusedStrip, too_long, at_command, no_end}

module _ (s : List ℕ) (room : ℕ) where
  abbrev from : ℕ → ℕ → Progress → List ℤ → Decoding
  from k i p t = read_from mentions_all s room k i p t

  -- a command that stands at i ends before the strip does, and the next one is after it
  command_ends : (i : ℕ) (p : Progress) (m : Mark) (v j : ℕ) → command_at s i p.turn ≡ commands m v j → (i < j) × (j ≤ length s)
  command_ends i p m v j e = let c = command_stands s i (sym e) in (omega (arith, c.further), c.long)

  -- where the commands before i are obeyed, reading the strip is reading on from i, with fuel for what is left
  record On (i : ℕ) (p : Progress) (t : List ℤ) : Type 0 where
    fuel : ℕ
    enough : length s ≤ i + fuel
    inside : i ≤ length s
    is : read_strip s room ≡ from (suc fuel) i p t

  module _ (short : length s ≤ max_strip) where
    reads_on : {i : ℕ} {p : Progress} {t : List ℤ} → Reads s room i p t → On i p t
    unfolding read_by read_from
    reads_on begun = record { fuel = length s; enough = omega arith; inside = omega arith; is = rw (le-ltb max_strip (length s) short) }
    reads_on (goes {i} {p} {t} r l m v j c q e o fits) =
        let a = reads_on r in
        let b = command_ends i p m v j c in
        let step : read_strip s room ≡ from a.fuel j q (with t e) = a.is ∙ rw (lt-ltb i (length s) l, c, o) (stored e fits a.fuel) in
        onward_from a.fuel a.enough b step
      where
        stored : (x : Option ℤ) → length (with t x) ≤ room → (k : ℕ) → storing room (from k j q) i t x ≡ from k j q (with t x)
        stored None h k = refl
        stored (Some z) h k = rw (lt-ltb (length t) room (omega (arith, length-append t (z ∷ []), h)))

        onward_from : (k : ℕ) → length s ≤ i + k → (i < j) × (j ≤ length s) → read_strip s room ≡ from k j q (with t e) → On j q (with t e)
        onward_from zero h b is = absurd (omega (arith, l))
        onward_from (suc k) h b is = record { fuel = k; enough = omega (arith, b.0); inside = b.1; is = is }

  -- a command at i, read with fuel for one more
  module _ (k i : ℕ) (p : Progress) (t : List ℤ) (l : i < length s) where
    follows : (c : Result Command Refusal) → command_at s i p.turn ≡ c → from (suc k) i p t ≡ follow mentions_all s room (from k) i p t c
    unfolding read_from
    follows c e = rw (lt-ltb i (length s) l, e)

    no_mark : mark_of (get_or s i 0) ≡ None → command_at s i p.turn ≡ Err (refusal UnknownMark i)
    unfolding command_at
    no_mark e = rw e

    no_turn : (m : Mark) → mark_of (get_or s i 0) ≡ Some m → same p.turn (turn_of m) ≡ false → command_at s i p.turn ≡ Err (refusal OutOfTurn i)
    unfolding command_at
    no_turn m e h = rw (e, h)

    no_operand : (m : Mark) → mark_of (get_or s i 0) ≡ Some m → same p.turn (turn_of m) ≡ true → length s < i + 1 + operand_bytes m → command_at s i p.turn ≡ Err (refusal CutStrip i)
    unfolding command_at
    no_operand m e h g = rw (e, h, lt-leb (i + 1 + operand_bytes m) (length s) g)

    -- the command's value is wrong, or its limit is reached
    not_obeyed : (m : Mark) (v j : ℕ) → command_at s i p.turn ≡ commands m v j → (why : Fault) → obey p (mentions_all p.variables t) v m ≡ Err why →
        from (suc k) i p t ≡ not_read (refusal why i)
    not_obeyed m v j c why e = follows (commands m v j) c ∙ rw e

    wrong : (n v : ℕ) → (v ≡ 0) ⊎ (n < v) → (eqb v 0 || ltb n v) ≡ true
    wrong n v = ⊎_elim (λ e. rw (eq-eqb v 0 e)) (λ h. rw (ne_eqb v 0 (λ e. omega (arith, h, e)), lt-ltb n v h))

    faulted : (why : Fault) → FirstFault s room i p t why → from (suc k) i p t ≡ not_read (refusal why i)
    unfolding obey
    faulted why (unknown_mark e) = follows _ (no_mark e)
    faulted why (out_of_turn m e h) = follows _ (no_turn m e h)
    faulted why (cut m e h g) = follows _ (no_operand m e h g)
    faulted why (variables_over v j c h) = not_obeyed Placements v j c _ (rw (lt-ltb max_variables v h))
    faulted why (unknown_variable_lem m (inl q) v j c h) = not_obeyed m v j c _ (rw (q, wrong p.variables v h))
    faulted why (unknown_variable_lem m (inr q) v j c h) = not_obeyed m v j c _ (rw (q, wrong p.variables v h))
    faulted why (clauses_over v j c h) = not_obeyed Opens v j c _ (rw (le-ltb p.clauses max_clauses h))
    faulted why (literals_over m (inl q) v j c o h g) = not_obeyed m v j c _ (rw (q, ne_eqb v 0 (λ e. omega (arith, o, e)), le-ltb p.variables v h, le-ltb p.literals max_literals g))
    faulted why (literals_over m (inr q) v j c o h g) = not_obeyed m v j c _ (rw (q, ne_eqb v 0 (λ e. omega (arith, o, e)), le-ltb p.variables v h, le-ltb p.literals max_literals g))
    faulted why (unmentioned v j c h) = not_obeyed Ends v j c _ (rw h)
    faulted why (table_short m v j c q e o h) = follows (commands m v j) c ∙ rw (o, le-ltb (length t) room h)

  refused_read : (w : Refusal) → RefusedStrip s room w → read_strip s room ≡ not_read w
  unfolding read_by read_from
  refused_read w (too_long h) = rw (lt-ltb max_strip (length s) h)
  refused_read w (at_command short i p t r l why f) = let a = reads_on short r in a.is ∙ faulted a.fuel i p t l why f
  refused_read w (no_end short p t r h) = let a = reads_on short r in a.is ∙ finished a.fuel
    where
      finished : (k : ℕ) → from (suc k) (length s) p t ≡ not_read (refusal CutStrip (length s))
      finished k = rw (le-ltb (length s) (length s) (omega arith), h)

  -- and there is no other refusal -----------------------------------------------------------------------------------------

  module _ (i : ℕ) (p : Progress) (t : List ℤ) where
    abbrev Faulty : Fault → Type 0
    Faulty why = FirstFault s room i p t why

    command_faults : (f : Refusal) → command_at s i p.turn ≡ Err f → (why : Fault) × (refusal why i ≡ f) × Faulty why
    unfolding command_at
    command_faults f = go (mark_of (get_or s i 0)) refl
      where
        go : (o : Option Mark) → mark_of (get_or s i 0) ≡ o → command_of s i p.turn o ≡ Err f → (why : Fault) × (refusal why i ≡ f) × Faulty why
        go None q e = (UnknownMark, cc, unknown_mark q)
        go (Some m) q e = allowed (same p.turn (turn_of m)) refl e
          where
            inside : same p.turn (turn_of m) ≡ true → (b : Bool) → leb (i + 1 + operand_bytes m) (length s) ≡ b →
                cond b (commands m (operand_at s i (operand_bytes m)) (i + 1 + operand_bytes m)) (Err (refusal CutStrip i)) ≡ Err f →
                (why : Fault) × (refusal why i ≡ f) × Faulty why
            inside a true b e = absurd (let z : ◌≡◌ {A = ℕ} 0 1 = cc in omega arith)
            inside a false b e = (CutStrip, cc, cut m q a (leb-false (i + 1 + operand_bytes m) (length s) b))

            allowed : (b : Bool) → same p.turn (turn_of m) ≡ b →
                cond b (cond (leb (i + 1 + operand_bytes m) (length s)) (commands m (operand_at s i (operand_bytes m)) (i + 1 + operand_bytes m)) (Err (refusal CutStrip i))) (Err (refusal OutOfTurn i)) ≡ Err f →
                (why : Fault) × (refusal why i ≡ f) × Faulty why
            allowed true a e = inside a _ refl e
            allowed false a e = (OutOfTurn, cc, out_of_turn m q a)

    wrong_is : (n v : ℕ) → (eqb v 0 || ltb n v) ≡ true → (v ≡ 0) ⊎ (n < v)
    wrong_is n v = go (eqb v 0) refl
      where
        go : (b : Bool) → eqb v 0 ≡ b → (b || ltb n v) ≡ true → (v ≡ 0) ⊎ (n < v)
        go true e h = inl (eqb-true v 0 e)
        go false e h = inr (ltb-true n v h)

    entry_faults : (m : Mark) → IsEntry m → (v j : ℕ) → command_at s i p.turn ≡ commands m v j → (x : Literal) → var x ≡ v → (why : Fault) → entered p x ≡ Err why → Faulty why
    entry_faults m a v j c x is why = value (eqb (var x) 0 || ltb p.variables (var x)) refl
      where
        limit : (eqb (var x) 0 || ltb p.variables (var x)) ≡ false → (b : Bool) → ltb p.literals max_literals ≡ b →
            cond b (obeyed (progress Inside p.variables p.clauses (p.literals + 1)) (Some (entry_of x))) (Err TooManyLiterals) ≡ Err why → Faulty why
        limit h true g e = absurd (let z : ◌≡◌ {A = ℕ} 0 1 = cc in omega arith)
        limit h false g e =
            let k = known_variable p.variables (var x) h in
            let z : TooManyLiterals ≡ why = cc in
            subst Faulty z (literals_over m a v j c (omega (arith, is, k.0)) (omega (arith, is, k.1)) (ltb-false p.literals max_literals g))

        value : (b : Bool) → (eqb (var x) 0 || ltb p.variables (var x)) ≡ b →
            cond b (Err (unknown_variable p.clauses))
            (cond (ltb p.literals max_literals) (obeyed (progress Inside p.variables p.clauses (p.literals + 1)) (Some (entry_of x))) (Err TooManyLiterals)) ≡ Err why → Faulty why
        value true e q = let z : unknown_variable p.clauses ≡ why = cc in subst Faulty z (unknown_variable_lem m a v j c (rw is at (wrong_is p.variables (var x) e)))
        value false e q = limit e (ltb p.literals max_literals) refl q

    obey_faults : (m : Mark) (v j : ℕ) → command_at s i p.turn ≡ commands m v j → (why : Fault) → obey p (mentions_all p.variables t) v m ≡ Err why → Faulty why
    unfolding obey
    obey_faults Placements v j c why e = go (ltb max_variables v) refl e
      where
        go : (b : Bool) → ltb max_variables v ≡ b → cond b (Err TooManyVariables) (obeyed (progress Outside v p.clauses p.literals) None) ≡ Err why → Faulty why
        go true h e = let z : TooManyVariables ≡ why = cc in subst Faulty z (variables_over v j c (ltb-true max_variables v h))
        go false h e = absurd (let z : ◌≡◌ {A = ℕ} 0 1 = cc in omega arith)
    obey_faults Chapter v j c why e = absurd (let z : ◌≡◌ {A = ℕ} 0 1 = cc in omega arith)
    obey_faults Opens v j c why e = go (ltb p.clauses max_clauses) refl e
      where
        go : (b : Bool) → ltb p.clauses max_clauses ≡ b → cond b (obeyed (progress Inside p.variables (p.clauses + 1) p.literals) None) (Err TooManyClauses) ≡ Err why → Faulty why
        go true h e = absurd (let z : ◌≡◌ {A = ℕ} 0 1 = cc in omega arith)
        go false h e = let z : TooManyClauses ≡ why = cc in subst Faulty z (clauses_over v j c (ltb-false p.clauses max_clauses h))
    obey_faults Taken v j c why e = entry_faults Taken (inl refl) v j c (Pos v) refl why e
    obey_faults LeftOut v j c why e = entry_faults LeftOut (inr refl) v j c (Neg v) refl why e
    obey_faults Closes v j c why e = absurd (let z : ◌≡◌ {A = ℕ} 0 1 = cc in omega arith)
    obey_faults Ends v j c why e = go (mentions_all p.variables t) refl e
      where
        go : (b : Bool) → mentions_all p.variables t ≡ b → cond b (obeyed (progress After p.variables p.clauses p.literals) None) (Err UnmentionedVariable) ≡ Err why → Faulty why
        go true h e = absurd (let z : ◌≡◌ {A = ℕ} 0 1 = cc in omega arith)
        go false h e = let z : UnmentionedVariable ≡ why = cc in subst Faulty z (unmentioned v j c h)

  module _ (short : length s ≤ max_strip) where
    abbrev Told : Decoding → Type 0
    Told d = (w : Refusal) → d.reading ≡ Err w → RefusedStrip s room w

    module _ {i : ℕ} {p : Progress} {t : List ℤ} (r : Reads s room i p t) (l : i < length s) (fits : length t ≤ room) (k : ℕ)
        (ih : (j : ℕ) (q : Progress) (u : List ℤ) → Reads s room j q u → i < j → j ≤ length s → length u ≤ room → Told (from k j q u)) where
      fault_told : (why : Fault) → FirstFault s room i p t why → Told (not_read (refusal why i))
      fault_told why f w e = let z : refusal why i ≡ w = cc in subst (RefusedStrip s room) z (at_command short i p t r l why f)

      module _ (m : Mark) (v j : ℕ) (c : command_at s i p.turn ≡ commands m v j) where
        stored_told : (q : Progress) (x : Option ℤ) → obey p (mentions_all p.variables t) v m ≡ obeyed q x → Told (storing room (from k j q) i t x)
        stored_told q None o = let b = command_ends i p m v j c in ih j q t (goes r l m v j c q None o fits) b.0 b.1 fits
        stored_told q (Some z) o = cond_ind Told _ _ (ltb (length t) room)
            (λ h.
            let b = command_ends i p m v j c in
            let f : length (t ++ (z ∷ [])) ≤ room = omega (arith, length-append t (z ∷ []), ltb-true (length t) room h) in
            ih j q (t ++ (z ∷ [])) (goes r l m v j c q (Some z) o f) b.0 b.1 f)
            (λ h. fault_told TableShort (table_short m v j c q z o (ltb-false (length t) room h)))

        obeyed_told : (o : Result Obeyed Fault) → obey p (mentions_all p.variables t) v m ≡ o → Told (onward room (from k j) i t o)
        obeyed_told (Ok o) e = stored_told o.progress o.stored e
        obeyed_told (Err why) e = fault_told why (obey_faults i p t m v j c why e)

      follow_told : (c : Result Command Refusal) → command_at s i p.turn ≡ c → Told (follow mentions_all s room (from k) i p t c)
      follow_told (Ok found) c = obeyed_told found.mark found.operand found.next c (obey p (mentions_all p.variables t) found.operand found.mark) refl
      follow_told (Err f) c = let x = command_faults i p t f c in subst (λ g. Told (not_read g)) x.1 (fault_told x.0 x.2)

    finish_told : {i : ℕ} {p : Progress} {t : List ℤ} → Reads s room i p t → i ≡ length s → Told (finish s p t)
    finish_told {p = p} {t = t} r h w = go (same p.turn After) refl
      where
        go : (b : Bool) → same p.turn After ≡ b → cond b (reading p.variables (length t)) (Err (refusal CutStrip (length s))) ≡ Err w → RefusedStrip s room w
        go true q e = absurd (let z : ◌≡◌ {A = ℕ} 0 1 = cc in omega arith)
        go false q e = let z : refusal CutStrip (length s) ≡ w = cc in subst (RefusedStrip s room) z (no_end short p t (subst (λ j. Reads s room j p t) h r) q)

    from_told : (k i : ℕ) (p : Progress) (t : List ℤ) → Reads s room i p t → length s ≤ i + k → i ≤ length s → length t ≤ room → Told (from (suc k) i p t)
    unfolding read_from
    from_told zero i p t r h b fits =
        cond_ind Told _ _ (ltb i (length s)) (λ l. absurd (omega (arith, ltb-true i (length s) l))) (λ l. finish_told r (omega (arith, ltb-false i (length s) l)))
    from_told (suc k) i p t r h b fits = cond_ind Told _ _ (ltb i (length s))
        (λ l. follow_told r (ltb-true i (length s) l) fits (suc k) (λ j q u d g a f. from_told k j q u d (omega (arith, h, g)) a f) (command_at s i p.turn) refl)
        (λ l. finish_told r (omega (arith, ltb-false i (length s) l)))

  -- exactly then, with this number and place
  pub refused_exactly : (w : Refusal) → ((read_strip s room).reading ≡ Err w) ↔ RefusedStrip s room w
  unfolding read_by
  refused_exactly w = (told w, λ f. ap (λ (d : Decoding). d.reading) (refused_read w f))
    where
      told : (w : Refusal) → (read_strip s room).reading ≡ Err w → RefusedStrip s room w
      told = cond_ind (λ (d : Decoding). (w : Refusal) → d.reading ≡ Err w → RefusedStrip s room w) _ _ (ltb max_strip (length s))
          (λ h w e. let z : refusal StripTooLong 0 ≡ w = cc in subst (RefusedStrip s room) z (too_long (ltb-true max_strip (length s) h)))
          (λ h. from_told (ltb-false max_strip (length s) h) (length s) 0 nothing_read [] begun (omega arith) (omega arith) (omega arith))
