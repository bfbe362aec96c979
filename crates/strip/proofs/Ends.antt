-- How a reading ends: with a strip of the grammar, whose table fits the room, or with a refusal, its place in the strip; and with room for a table at the
-- limits no strip is refused for want of room.
use Rattle.receipt.specs.declared.Fault.{Fault}
use mathlib.Core.Path.{◌≡◌, refl, sym, subst}
use mathlib.Core.Bool.{Bool, true, false, cond}
use mathlib.Core.Logic.{◌≢◌}
use mathlib.Core.List.Memᴰ
use mathlib.Core.List.{List, [], ◌∷◌, ◌++◌, append-nil}
use Prim.Native.Nat.{ℕ, zero, suc, ◌+◌, ◌≤◌, ◌<◌}
use native.Mathlib.Decide.{dec_lt}
use native.Mathlib.Nat.{add-zero}
use native.Mathlib.Omega.{arith}
use borrow.Author.Tests.{ltb-true, ltb-false}
use lib.Dec.{ltb}
use lib.IntN.{ℤ}
use lib.ListN.{length, length-append, drop_of_length-le}
use Rattle.general.specs.Booleans.{true_not_false, cond_ind}
use Rattle.literal.specs.Literal.{max_table}
use Rattle.receipt.specs.declared.Fault.TheVariants.{CutStrip, TableShort, StripTooLong}
use Rattle.receipt.specs.declared.Refusal.{Refusal}
use Rattle.std.specs.Prelude.{Result, Err}
use Rattle.receipt.specs.declared.Read.{Read}
use Rattle.receipt.specs.Receipt.{number_of, refusal}
use Rattle.receipt.specs.Answers.{read_length, reading}
use Rattle.theory.specs.declared.Turn.{Turn}
use Rattle.theory.specs.declared.Turn.TheVariants.{After}
use Rattle.std.specs.Prelude.{Option, None, Some, Ok}
use Rattle.theory.specs.declared.Command.{Command}
use Rattle.theory.specs.declared.Obeyed.{Obeyed}
use Rattle.theory.specs.declared.Progress.{Progress}
use Rattle.theory.specs.Mentions.{mentions_all, Mentioned}
use Rattle.theory.specs.Strip.{turn_of, same, nothing_read, obey, Decoding, storing, onward, follow, finish, read_from, command_at, max_strip, read_by, read_strip}
use Rattle.theory.specs.Encoding.{table_of, entries}
use Rattle.reader.proofs.Commands.{same_turn, Says, command_says, command_bytes_lem}
use Rattle.strip.specs.Faults.{with}
use Rattle.strip.proofs.Sound.{Sound, begun_sound, elements, MayEnd, Left, Keeps, obey_keeps}

module _ (s : List ℕ) (room : ℕ) where
  -- from index i on, with t read before
  abbrev pub Ended : ℕ → Progress → List ℤ → Result Read Refusal → List ℤ → Type 0
  Ended i p t (Ok d) T = (d.used ≡ length T) × (d.used ≤ room) × (length s ≤ max_strip) × Left s i p.turn p t d.variables T × MayEnd p.turn d.variables T
  Ended i p t (Err f) T =
      (T ≡ []) × (f.place ≤ max_strip) × (max_table ≤ room → number_of f.fault ≢ number_of TableShort) × (length s ≤ max_strip → number_of f.fault ≢ number_of StripTooLong)

  abbrev Ends : ℕ → Progress → List ℤ → Decoding → Type 0
  Ends i p t d = Ended i p t d.reading d.table

  module _ (short : length s ≤ max_strip) (i : ℕ) (p : Progress) (t : List ℤ) (d : Sound p (length t)) (h : i ≤ length s) (fits : length t ≤ room) where
    placed : i ≤ max_strip
    placed = omega arith

    finish_ends : length s ≤ i → Ends i p t (finish s p t)
    unfolding table_of entries
    finish_ends l = go (same p.turn After) refl
      where
        go : (b : Bool) → same p.turn After ≡ b → Ended i p t (cond b (reading p.variables (length t)) (Err (refusal CutStrip (length s)))) (cond b t [])
        go true e = (
          refl,
          fits,
          short,
          subst (λ (u : Turn). Left s i u p t p.variables t) (sym (same_turn p.turn After e)) (record {
            clause = [];
            items = [];
            strip = λ y. drop_of_length-le s l;
            table = sym (append-nil t);
            variables = λ q. refl;
            allows = record { variables = d.variables; clauses = omega (arith, d.clauses); literals = omega (arith, d.literals); known = λ c l m. absurd (Memᴰ.not-nil m) };
          }),
          λ q. absurd (true_not_false e q),
        )
        go false e = (refl, short, λ w z. omega arith, λ w z. omega arith)

    -- after a command, which the strip from next on goes on from
    module _ (k next : ℕ) (ih : (q : Progress) (t' : List ℤ) → Sound q (length t') → length t' ≤ room → Ends next q t' (read_from mentions_all s room k next q t')) where
      -- what is left before the command, from what is left after it
      abbrev Back : Turn → Progress → List ℤ → Type 0
      Back u q t' = (n : ℕ) (T : List ℤ) → Left s next q.turn q t' n T → Left s i u p t n T × (MayEnd q.turn n T → MayEnd u n T)

      carried : (q : Progress) (t' : List ℤ) → Back p.turn q t' →
          (x : Decoding) → Ends next q t' x → Ends i p t x
      carried q t' back x = go x.reading
        where
          go : (r : Result Read Refusal) → Ended next q t' r x.table → Ended i p t r x.table
          go (Ok d) e = let k = back d.variables x.table e.3 in (e.0, e.1, short, k.0, k.1 e.4)
          go (Err f) e = e

      stored : (q : Progress) (e : Option ℤ) → Sound q (length t + elements e) →
          Back p.turn q (with t e) → Ends i p t (storing room (read_from mentions_all s room k next q) i t e)
      stored q None g back = carried q t back (read_from mentions_all s room k next q t) (ih q t (rw add-zero at g) fits)
      stored q (Some x) g back = cond_ind (Ends i p t) _ _ (ltb (length t) room)
          (λ b. carried q (t ++ (x ∷ [])) back (read_from mentions_all s room k next q (t ++ (x ∷ [])))
          (ih q (t ++ (x ∷ [])) (rw (length-append t (x ∷ [])) g) (omega (arith, length-append t (x ∷ []), ltb-true (length t) room b))))
          (λ b. (refl, placed, λ w z. omega (arith, ltb-false (length t) room b, g.elements, g.clauses, g.literals), λ w z. omega arith))

      went : (u : Turn) → p.turn ≡ u → (o : Result Obeyed Fault) → Keeps s i next p t u o → Ends i p t (onward room (read_from mentions_all s room k next) i t o)
      went u e (Ok o) g = stored o.progress o.stored g.0 (subst (λ (u : Turn). Back u o.progress (with t o.stored)) (sym e) g.1)
      went u e (Err why) g = (refl, placed, λ w. g.0, λ w. g.1)

  read_ends : length s ≤ max_strip → (k i : ℕ) (p : Progress) (t : List ℤ) → Sound p (length t) → i ≤ length s → length t ≤ room → Ends i p t (read_from mentions_all s room k i p t)
  unfolding read_from
  read_ends short zero i p t d h fits = (refl, placed short i p t d h fits, λ w z. omega arith, λ w z. omega arith)
  read_ends short (suc k) i p t d h fits =
      cond_ind (Ends i p t) _ _ (ltb i (length s))
      (λ l. followed (read_ends short k) (command_at s i p.turn) (command_says s i p.turn))
      (λ l. finish_ends short i p t d h fits (ltb-false i (length s) l))
    where
      followed : ((j : ℕ) (q : Progress) (t' : List ℤ) → Sound q (length t') → j ≤ length s → length t' ≤ room → Ends j q t' (read_from mentions_all s room k j q t')) →
          (c : Result Command Refusal) → Says s i p.turn c → Ends i p t (follow mentions_all s room (read_from mentions_all s room k) i p t c)
      followed ih (Ok found) c =
          went short i p t d h fits k found.next (λ q t' d'. ih found.next q t' d' c.long) (turn_of found.mark) c.turn (obey p (mentions_all p.variables t) found.operand found.mark) (obey_keeps s i found.next p t d found.mark found.operand c.turn (command_bytes_lem s i c))
      followed ih (Err f) c = (refl, omega (arith, c.0), λ w z. omega (arith, c.2), λ w z. omega (arith, c.2))

  -- the whole strip
  pub answered : Ended 0 nothing_read [] (read_strip s room).reading (read_strip s room).table
  unfolding read_by
  answered = cond_ind (Ends 0 nothing_read []) _ _ (ltb max_strip (length s))
      (λ b. (refl, omega arith, λ w z. omega arith, λ w z. omega (arith, ltb-true max_strip (length s) b)))
      (λ b. read_ends (ltb-false max_strip (length s) b) (suc (length s)) 0 nothing_read [] begun_sound (omega arith) (omega arith))

  -- what was read names every placement
  pub read_mentioned : (n u : ℕ) → (read_strip s room).reading ≡ reading n u → Mentioned n (read_strip s room).table
  read_mentioned n u e = let a : Ended 0 nothing_read [] (reading n u) (read_strip s room).table = rw e at answered in a.4 refl

  pub refusal_bound : (f : Refusal) → (read_strip s room).reading ≡ Err f → f.place ≤ max_strip
  refusal_bound f e = let a : Ended 0 nothing_read [] (Err f) (read_strip s room).table = rw e at answered in a.1

  -- "strip refusals except 23"
  pub never_short : (f : Refusal) → max_table ≤ room → (read_strip s room).reading ≡ Err f → number_of f.fault ≢ number_of TableShort
  never_short f w e = let a : Ended 0 nothing_read [] (Err f) (read_strip s room).table = rw e at answered in a.2 w

  -- 24 is for a strip "over 16,384 bytes" alone
  pub too_long : (f : Refusal) → (read_strip s room).reading ≡ Err f → number_of f.fault ≡ number_of StripTooLong → max_strip < length s
  too_long f e q = elim (dec_lt max_strip (length s)) [
    | yes h ↦ h
    | no h ↦ let a : Ended 0 nothing_read [] (Err f) (read_strip s room).table = rw e at answered in absurd (a.3 (omega arith) q)
  ]

  -- the used length is the table's, and fits the room
  pub sized : (read_length (read_strip s room).reading ≡ length (read_strip s room).table) × (length (read_strip s room).table ≤ room)
  sized = go (read_strip s room).reading (read_strip s room).table answered
    where
      go : (r : Result Read Refusal) (T : List ℤ) → Ended 0 nothing_read [] r T → (read_length r ≡ length T) × (length T ≤ room)
      go (Ok d) T a = (a.0, omega (arith, a.0, a.1))
      go (Err f) T a = rw a.0 (refl, omega arith)
