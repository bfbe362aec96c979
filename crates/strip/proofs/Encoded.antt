-- A strip of the grammar, within document 01's limits and with room for its table, is read as that table where it names every placement, and otherwise refused at its end mark.
use Rattle.receipt.specs.Answers.{reading}
use mathlib.Core.Path.{◌≡◌, refl, ap, sym, subst, ◌∙◌}
use mathlib.Core.Bool.{Bool, true, false, cond}
use mathlib.Core.List.Memᴰ
use mathlib.Core.List.{List, [], ◌∷◌, ◌++◌, map, append_assoc, append-nil}
use mathlib.Core.Logic.{⊎_elim}
use Prim.Native.Nat.{ℕ, zero, suc, ◌+◌, ◌-◌, ◌<◌, ◌≤◌}
use native.Mathlib.Omega.{arith}
use borrow.Author.Tests.{lt-ltb, le-ltb, ne_eqb}
use lib.IntN.{ℤ, pos}
use lib.ListN.{length, drop, length-map, length-append, length-drop}
use Rattle.general.specs.Booleans.{true_not_false}
use Rattle.literal.specs.declared.Literal.{Literal}
use Rattle.literal.specs.declared.Literal.TheVariants.{Pos, Neg}
use Rattle.literal.specs.Literal.{var, entry_of, max_variables, max_clauses, max_literals, max_table}
use Rattle.receipt.specs.declared.Fault.TheVariants.{UnmentionedVariable}
use Rattle.receipt.specs.Receipt.{refusal}
use Rattle.theory.specs.declared.Mark.{Mark}
use Rattle.theory.specs.declared.Mark.TheVariants.{Placements, Chapter, Opens, Taken, LeftOut, Closes, Ends}
use Rattle.theory.specs.declared.Turn.{Turn}
use Rattle.theory.specs.declared.Turn.TheVariants.{Start, Outside, Inside, After}
use Rattle.std.specs.Prelude.{Option, None, Some}
use Rattle.theory.specs.declared.Progress.{Progress}
use Rattle.theory.specs.Formula.{Clause, Formula}
use Rattle.theory.specs.Mentions.{mentions_all, Mentioned}
use Rattle.theory.specs.Strip.{turn_of, same, operand_bytes, operand_at, command_at, progress, entered, nothing_read, obey, Decoding, not_read, storing, read_from, max_strip, read_by, read_strip, commands, obeyed}
use Rattle.theory.specs.Encoding.{Item, chapter, group, command_bytes, entry_bytes, item_bytes, groups, table_of, entries, StripLimits, StripWithin, Bytes}
use Rattle.theory.proofs.Tables.{InRange}
use Rattle.reader.proofs.Commands.{bytes_long, bytes_rest, bytes_command, word_at_lem}
use Rattle.strip.specs.Faults.{with}
use Rattle.strip.proofs.Sound.{Allows, Left}

rest_range : (n : ℕ) (l : Literal) (c : Clause) (f : Formula) → InRange n ((l ∷ c) ∷ f) → InRange n (c ∷ f)
rest_range n l c f h d k md mk = ⊎_elim
    (λ (q : d ≡ c). h (l ∷ c) k (Memᴰ.head refl) (Memᴰ.tail (rw q at mk)))
    (λ m. h d k (Memᴰ.tail m) mk)
    (Memᴰ.cases_cons md)

-- what is answered for a strip of n placements and the table T; its end mark is its last byte
abbrev pub judged : List ℕ → ℕ → List ℤ → Decoding
judged s n T = cond (mentions_all n T) (record { reading = reading n (length T); table = T }) (not_read (refusal UnmentionedVariable (length s - 1)))

module _ (s : List ℕ) (room : ℕ) (b : Bytes s) (n : ℕ) (T : List ℤ) (fits : length T ≤ room) where
  abbrev answer : Decoding
  answer = judged s n T

  -- after the end mark every placement was named
  abbrev AfterEnd : Turn → Type 0
  AfterEnd u = same u After ≡ true → Mentioned n T

  before_end : (u : Turn) → same u After ≡ false → AfterEnd u
  before_end u e z = absurd (true_not_false z e)

  stored_fits : (go : List ℤ → Decoding) (i : ℕ) (t : List ℤ) (x : Option ℤ) → length (with t x) ≤ room → storing room go i t x ≡ go (with t x)
  stored_fits go i t None h = refl
  stored_fits go i t (Some x) h = rw (lt-ltb (length t) room (omega (arith, length-append t (x ∷ []))))

  module _ (k i : ℕ) (p : Progress) (t : List ℤ) (here : i ≤ length s) (enough : length s < i + suc k)
      (ih : (j : ℕ) (q : Progress) (t' : List ℤ) → j ≤ length s → length s < j + k → Left s j q.turn q t' n T → AfterEnd q.turn → read_from mentions_all s room k j q t' ≡ answer) where
    -- a command, and the strip after it
    on : (m : Mark) (v : ℕ) (rest : List ℕ) → drop i s ≡ command_bytes m v ++ rest → p.turn ≡ turn_of m → (q : Progress) (x : Option ℤ) →
        obey p (mentions_all p.variables t) (operand_at s i (operand_bytes m)) m ≡ obeyed q x → Left s (i + 1 + operand_bytes m) q.turn q (with t x) n T →
        AfterEnd q.turn → read_from mentions_all s room (suc k) i p t ≡ answer
    unfolding read_from
    on m v rest e u q x o a w =
        let l : i + 1 + operand_bytes m ≤ length s = bytes_long s i m v rest e in
        let c : command_at s i p.turn ≡ commands m (operand_at s i (operand_bytes m)) (i + 1 + operand_bytes m) = ap (command_at s i) u ∙ bytes_command s i m v rest e in
        rw (lt-ltb i (length s) (omega arith), c, o)
        (stored_fits (read_from mentions_all s room k (i + 1 + operand_bytes m) q) i t x (omega (arith, simp length-append at (ap length a.table))) ∙ ih _ q (with t x) l (omega arith) a w)

    -- the end mark
    ends : p.turn ≡ Outside → n ≡ p.variables → drop i s ≡ command_bytes Ends 0 ++ [] → T ≡ t ++ table_of [] → Allows 0 n p.clauses p.literals [] →
        read_from mentions_all s room (suc k) i p t ≡ answer
    unfolding read_from obey table_of
    ends u v e q a = go (mentions_all n T) refl
      where
        same_table : T ≡ t
        same_table = q ∙ append-nil t

        go : (b : Bool) → mentions_all n T ≡ b → read_from mentions_all s room (suc k) i p t ≡ answer
        go true h = on Ends 0 [] e u (progress After p.variables p.clauses p.literals) None (rw (← v, ← same_table, h))
            (record { clause = []; items = []; strip = λ y. bytes_rest s i Ends 0 [] e; table = q; variables = λ z. v; allows = a }) (λ _. h)
        go false h =
            let last : i ≡ length s - 1 = omega (arith, length-drop i s, ap length e) in
            let c : command_at s i p.turn ≡ commands Ends 0 (i + 1 + 0) = ap (command_at s i) u ∙ bytes_command s i Ends 0 [] e in
            rw (lt-ltb i (length s) (omega (arith, bytes_long s i Ends 0 [] e)), c, ← v, ← same_table, h, last)

    outside : p.turn ≡ Outside → n ≡ p.variables → (l : List Item) → drop i s ≡ item_bytes l → T ≡ t ++ table_of (groups l) →
        Allows 0 n p.clauses p.literals (groups l) → read_from mentions_all s room (suc k) i p t ≡ answer
    unfolding obey item_bytes groups
    outside u v [] e q a = ends u v e q a
    outside u v (chapter x ∷ l) e q a = on Chapter x (item_bytes l) e u p None refl
        (subst (λ (w : Turn). Left s (i + 1 + 1) w p t n T) (sym u)
        (record { clause = []; items = l; strip = λ y. bytes_rest s i Chapter x (item_bytes l) e; table = q; variables = λ z. v; allows = a }))
        (before_end p.turn (rw u))
    outside u v (group c ∷ l) e q a = on Opens 0 _ e u (progress Inside p.variables (p.clauses + 1) p.literals) None
        (rw (lt-ltb p.clauses max_clauses (omega (arith, a.clauses))))
        (record {
          clause = c;
          items = l;
          strip = λ y. bytes_rest s i Opens 0 _ e;
          table = q;
          variables = λ z. v;
          allows = record { variables = a.variables; clauses = omega (arith, a.clauses); literals = a.literals; known = a.known };
        })
        (before_end Inside refl)

    -- an entry of the open group, and the rest of it
    module _ (v : n ≡ p.variables) (x : Literal) (c : Clause) (l : List Item) (a : Allows 1 n p.clauses p.literals ((x ∷ c) ∷ groups l)) where
      abbrev further : Progress
      further = progress Inside p.variables p.clauses (p.literals + 1)

      goes_on : entered p x ≡ obeyed further (Some (entry_of x))
      unfolding entries
      goes_on =
          let h = a.known _ x (Memᴰ.head refl) (Memᴰ.head refl) in
          rw (
            ne_eqb (var x) 0 (λ z. omega (arith, h.0)),
            le-ltb p.variables (var x) (rw v at h.1),
            lt-ltb p.literals max_literals (omega (arith, a.literals)),
          )

      rest_left : (j : ℕ) → drop j s ≡ entry_bytes c ++ (command_bytes Closes 0 ++ item_bytes l) → T ≡ t ++ table_of ((x ∷ c) ∷ groups l) →
          Left s j Inside further (t ++ (entry_of x ∷ [])) n T
      unfolding table_of entries
      rest_left j e q = record {
        clause = c;
        items = l;
        strip = λ y. e;
        table = q ∙ sym (append_assoc t (entry_of x ∷ []) _);
        variables = λ z. v;
        allows = record { variables = a.variables; clauses = a.clauses; literals = omega (arith, a.literals); known = rest_range n x c (groups l) a.known };
      }

    inside : p.turn ≡ Inside → n ≡ p.variables → (c : Clause) (l : List Item) → drop i s ≡ entry_bytes c ++ (command_bytes Closes 0 ++ item_bytes l) →
        T ≡ t ++ table_of (c ∷ groups l) → Allows 1 n p.clauses p.literals (c ∷ groups l) → read_from mentions_all s room (suc k) i p t ≡ answer
    unfolding obey entry_bytes table_of entries
    inside u v [] l e q a = on Closes 0 (item_bytes l) e u (progress Outside p.variables p.clauses p.literals) (Some _) refl
        (record {
          clause = [];
          items = l;
          strip = λ y. bytes_rest s i Closes 0 (item_bytes l) e;
          table = q ∙ sym (append_assoc t _ _);
          variables = λ z. v;
          allows = record { variables = a.variables; clauses = omega (arith, a.clauses); literals = omega (arith, a.literals); known = λ d k m. a.known d k (Memᴰ.tail m) };
        })
        (before_end Outside refl)
    inside u v (Pos w ∷ c) l e q a = on Taken w _ e u (further v (Pos w) c l a) (Some (entry_of (Pos w)))
        (rw (word_at_lem s i _ w _ e) (goes_on v (Pos w) c l a)) (rest_left v (Pos w) c l a _ (bytes_rest s i Taken w _ e) q) (before_end Inside refl)
    inside u v (Neg w ∷ c) l e q a = on LeftOut w _ e u (further v (Neg w) c l a) (Some (entry_of (Neg w)))
        (rw (word_at_lem s i _ w _ e) (goes_on v (Neg w) c l a)) (rest_left v (Neg w) c l a _ (bytes_rest s i LeftOut w _ e) q) (before_end Inside refl)

    by_turn : (u : Turn) → p.turn ≡ u → Left s i u p t n T → AfterEnd u → read_from mentions_all s room (suc k) i p t ≡ answer
    unfolding read_from obey table_of
    by_turn Start u a w =
        let e = a.strip b in
        on Placements n _ e u (progress Outside n p.clauses p.literals) None
        (rw (word_at_lem s i _ n _ e, le-ltb max_variables n a.allows.variables))
        (record { clause = []; items = a.items; strip = λ y. bytes_rest s i Placements n _ e; table = a.table; variables = λ z. refl; allows = a.allows }) (before_end Outside refl)
    by_turn Outside u a w = outside u (a.variables refl) a.items (a.strip b) a.table a.allows
    by_turn Inside u a w = inside u (a.variables refl) a.clause a.items (a.strip b) a.table a.allows
    by_turn After u a w =
        let q : T ≡ t = a.table ∙ append-nil t in
        rw (le-ltb i (length s) (omega (arith, length-drop i s, ap length (a.strip b))), u, w refl, q, a.variables refl)

  pub left_reads : (k i : ℕ) (p : Progress) (t : List ℤ) → i ≤ length s → length s < i + k → Left s i p.turn p t n T → AfterEnd p.turn →
      read_from mentions_all s room k i p t ≡ answer
  left_reads zero i p t h g a w = absurd (omega arith)
  left_reads (suc k) i p t h g a w = by_turn k i p t h g (left_reads k) p.turn refl a w

-- a strip within document 01's limits, with room for the table it stands for
module _ (s : List ℕ) (b : Bytes s) (room n : ℕ) (l : List Item) where
  pub limits_read : StripLimits s n l → length (table_of (groups l)) ≤ room → read_strip s room ≡ judged s n (table_of (groups l))
  unfolding read_by
  limits_read w fits = rw (le-ltb max_strip (length s) w.short)
      (left_reads s room b n (table_of (groups l)) fits (suc (length s)) 0 nothing_read [] (omega arith) (omega arith) (record {
        clause = [];
        items = l;
        strip = λ y. w.is;
        table = refl;
        variables = λ q. absurd (true_not_false refl q);
        allows = record {
          variables = w.variables;
          clauses = omega (arith, w.clauses);
          literals = omega (arith, w.literals);
          known = λ c x mc mx. (w.known.low c x mc mx, w.known.high c x mc mx);
        };
      }) (λ q. absurd (true_not_false q refl)))

  -- and one that is within the limits
  pub within_reads : StripWithin s n l → length (table_of (groups l)) ≤ room → read_strip s room ≡ record { reading = reading n (length (table_of (groups l))); table = table_of (groups l) }
  within_reads w fits = limits_read w.limits fits ∙ rw w.mentioned

-- there is room for the table of every strip within the limits
table_length : (f : Formula) → length (table_of f) ≡ length f + entries f
unfolding table_of entries
table_length [] = refl
table_length (c ∷ f) = omega (arith, table_length f, length-append (map entry_of c) (pos 0 ∷ table_of f), length-map c entry_of)

pub within_read : {s : List ℕ} {n : ℕ} {l : List Item} → Bytes s → StripWithin s n l → read_strip s max_table ≡ record { reading = reading n (length (table_of (groups l))); table = table_of (groups l) }
within_read {s} {n} {l} b w = let k = w.limits in within_reads s b max_table n l w (omega (arith, table_length (groups l), k.clauses, k.literals))
