-- What was read of a strip before an index, by its grammar; so a strip that is refused with 5 names the group that is open there (A2), and one that is refused with 26
-- doesn't name every placement up to its end mark (A3).
use Rattle.receipt.specs.declared.Fault.{Fault}
use mathlib.Core.Path.{◌≡◌, refl, ap, sym, subst, ◌∙◌}
use mathlib.Core.Bool.{true, false, ◌||◌}
use mathlib.Core.List.Memᴰ
use mathlib.Core.List.{List, [], ◌∷◌, ◌++◌, map, append_assoc, append-nil, map-append, Memᴰ}
use Prim.Native.Nat.{ℕ, ◌+◌, ◌≤◌, ◌<◌}
use native.Mathlib.Nat.{add-zero}
use native.Mathlib.Omega.{arith}
use lib.Dec.{eqb, ltb}
use lib.IntN.{ℤ, pos}
use lib.ListN.{length, get_or, take, drop, length-append, length-drop, length-take}
use lib.Seq.{get_or-drop}
use Rattle.general.specs.Booleans.{true_not_false, cond_ind}
use Rattle.general.specs.Lists.{take_past}
use Rattle.literal.specs.declared.Literal.{Literal}
use Rattle.literal.specs.declared.Literal.TheVariants.{Pos, Neg}
use Rattle.literal.specs.Literal.{var, entry_of, max_variables, max_clauses, max_literals}
use Rattle.receipt.specs.Receipt.{number_of, named_clause}
use Rattle.theory.specs.declared.Mark.{Mark}
use Rattle.theory.specs.declared.Mark.TheVariants.{Placements, Chapter, Opens, Taken, LeftOut, Closes, Ends}
use Rattle.theory.specs.declared.Turn.{Turn}
use Rattle.theory.specs.declared.Turn.TheVariants.{Start, Outside, Inside, After}
use Rattle.theory.specs.declared.Progress.{Progress}
use Rattle.std.specs.Prelude.{Result, Err, Ok}
use Rattle.theory.specs.declared.Obeyed.{Obeyed}
use Rattle.theory.specs.Formula.{Clause, Formula}
use Rattle.theory.specs.Mentions.{mentions_all}
use Rattle.theory.specs.Strip.{turn_of, same, progress, nothing_read, entered, obey, max_strip}
use Rattle.theory.specs.Encoding.{Item, chapter, group, command_bytes, entry_bytes, item_bytes, encode, groups, table_of, entries, UnmentionedInStrip}
use Rattle.theory.specs.Unknown.{UnknownInStrip}
use Rattle.theory.proofs.Encodings.{groups_append, tables_append, entries_append, last_encloses}
use Rattle.theory.proofs.Tables.{known_variable, InRange, ClauseInRange, empty_in_range, literal_last, clause_last, range_within}
use Rattle.strip.specs.Faults.{with}
use Rattle.strip.proofs.Sound.{pending, Sound, ahead}

-- the items of the whole strip: k and the literals d of the open group were read, the literals c and the items l are ahead
abbrev whole : Turn → List Item → Clause → Clause → List Item → List Item
whole Start k d c l = k ++ l
whole Outside k d c l = k ++ l
whole Inside k d c l = k ++ (group (d ++ c) ∷ l)
whole After k d c l = k

-- the literals that were read of the group that is open, if one is
abbrev opened : Turn → Clause → Clause
opened Start d = []
opened Outside d = []
opened Inside d = d
opened After d = []

module _ (s : List ℕ) where
  -- before index i, whatever is ahead; the table t was read
  pub record Behind (i : ℕ) (u : Turn) (p : Progress) (t : List ℤ) : Type 0 where
    pub items : List Item
    pub clause : Clause
    pub strip : (n : ℕ) (c : Clause) (l : List Item) → (same u Start ≡ false → n ≡ p.variables) → take i s ++ ahead u n c l ≡ encode n (whole u items clause c l)
    pub table : t ≡ table_of (groups items) ++ map entry_of (opened u clause)
    pub number : p.clauses ≡ length (groups items) + pending u
    pub literals : p.literals ≡ entries (groups items) + length (opened u clause)
    pub known : (n : ℕ) → (same u Start ≡ false → n ≡ p.variables) → InRange n (groups items)
    pub known_open : ClauseInRange p.variables clause

  pub begun_behind : Behind 0 Start nothing_read []
  unfolding groups table_of entries
  begun_behind = record { items = []; clause = []; strip = λ n c l h. refl; table = refl; number = refl; literals = refl; known = λ n h c l m. absurd (Memᴰ.not-nil m); known_open = empty_in_range 0 }

  -- an entry at i that is wrong, in the group that is open
  open_clause : (i : ℕ) (p : Progress) (t : List ℤ) → Behind i Inside p t → (l : Literal) (r : List ℕ) → drop i s ≡ entry_bytes (l ∷ []) ++ r →
      (eqb (var l) 0 || ltb p.variables (var l)) ≡ true → UnknownInStrip s p.clauses i
  unfolding entry_bytes item_bytes
  open_clause i p t w l r e b = record {
    variables = p.variables;
    items = w.items;
    clause = w.clause;
    literal = l;
    rest = r;
    before = w.strip p.variables [] [] (λ _. refl) ∙ rw (append-nil w.clause);
    here = e;
    known = range_within n (f ++ (w.clause ∷ [])) (clause_last n f w.clause items_known w.known_open);
    wrong = b;
    number = w.number;
    encloses = λ o. rw w.number (last_encloses f w.clause l (with_entry o));
  }
    where
      n : ℕ
      n = p.variables

      f : Formula
      f = groups w.items

      items_known : InRange n f
      items_known = w.known n (λ _. refl)

      -- with the wrong entry, where it isn't 0, all are of some variable
      with_entry : 0 < var l → (c : Clause) (x : Literal) → Memᴰ c (f ++ ((w.clause ++ (l ∷ [])) ∷ [])) → Memᴰ x c → 0 < var x
      with_entry o c x mc mx =
          let clause_known : ClauseInRange (n + var l) w.clause = λ y m. let k = w.known_open y m in (k.0, omega (arith, k.1)) in
          (clause_last (n + var l) f (w.clause ++ (l ∷ [])) (λ d y md my. let k = items_known d y md my in (k.0, omega (arith, k.1)))
          (literal_last (n + var l) w.clause l clause_known (o, omega arith)) c x mc mx).0

module _ (s : List ℕ) (room : ℕ) where
  -- what follows of a command from i to next that is obeyed, and of one that is refused with 5 or 26
  abbrev pub Follows : ℕ → ℕ → List ℤ → Result Obeyed Fault → Type 0
  Follows i next t (Ok o) = Behind s next o.progress.turn o.progress (with t o.stored)
  Follows i next t (Err why) = (number_of why ≡ 5 → UnknownInStrip s (named_clause why).0 i) × (number_of why ≡ 26 → UnmentionedInStrip s room i)

  module _ (short : length s ≤ max_strip) (i next : ℕ) (long : next ≤ length s) where
    -- what was read with the command, and what is ahead of it
    past : (m : Mark) (v : ℕ) → drop i s ≡ command_bytes m v ++ drop next s → (r : List ℕ) → take next s ++ r ≡ take i s ++ (command_bytes m v ++ r)
    past m v bytes r = ap (λ (x : List ℕ). x ++ r) (take_past i next s (command_bytes m v) long bytes) ∙ append_assoc (take i s) (command_bytes m v) r

    module _ (p : Progress) (t : List ℤ) (d : Sound p (length t)) (fits : length t ≤ room) where
      -- the end mark at i, and a placement that is not named before it
      unmentioned : Behind s i Outside p t → drop i s ≡ command_bytes Ends 0 ++ drop next s → mentions_all p.variables t ≡ false → UnmentionedInStrip s room i
      unfolding item_bytes table_of
      unmentioned w bytes b =
          let f = groups w.items in
          let table : t ≡ table_of f = w.table ∙ append-nil (table_of f) in
          let after : next ≡ i + 1 = omega (arith, length-drop i s, length-drop next s, ap length bytes) in
          let is : take next s ≡ encode p.variables w.items = sym (append-nil (take next s)) ∙ past Ends 0 bytes [] ∙ w.strip p.variables [] [] (λ _. refl) ∙ rw (append-nil w.items) in
          record {
            short = short;
            variables = p.variables;
            items = w.items;
            limits = record {
              is = rw after at is;
              short = omega (arith, length-take (i + 1) s);
              variables = d.variables;
              clauses = omega (arith, w.number, d.clauses);
              literals = omega (arith, w.literals, d.literals);
              known = range_within p.variables f (w.known p.variables (λ _. refl));
            };
            fits = rw table at fits;
            mark = rw add-zero at (sym (get_or-drop i s 0 0) ∙ ap (λ (x : List ℕ). get_or x 0 0) bytes);
            unmentioned = λ h. true_not_false h (rw table at b);
          }

      entered_follows : (l : Literal) (m : Mark) (v : ℕ) → drop i s ≡ command_bytes m v ++ drop next s →
          ((c : Clause) (r : List ℕ) → command_bytes m v ++ (entry_bytes c ++ r) ≡ entry_bytes (l ∷ c) ++ r) →
          Behind s i Inside p t → Follows i next t (entered p l)
      unfolding entry_bytes
      entered_follows l m v bytes is w = cond_ind (Follows i next t) _ _ (eqb (var l) 0 || ltb p.variables (var l))
          (λ b. (λ _. open_clause s i p t w l (drop next s) (bytes ∙ is [] (drop next s)) b, λ z. absurd (omega arith)))
          (λ k. cond_ind (Follows i next t) _ _ (ltb p.literals max_literals)
          (λ _. record {
            items = w.items;
            clause = w.clause ++ (l ∷ []);
            strip = λ n c k h. past m v bytes _ ∙ ap (◌++◌ (take i s)) (is c _) ∙ w.strip n (l ∷ c) k h ∙ rw (append_assoc w.clause (l ∷ []) c);
            table = ap (λ (x : List ℤ). x ++ (entry_of l ∷ [])) w.table ∙ rw (append_assoc (table_of (groups w.items)), map-append);
            number = w.number;
            literals = omega (arith, w.literals, length-append w.clause (l ∷ []));
            known = w.known;
            known_open = literal_last p.variables w.clause l w.known_open (known_variable p.variables (var l) k);
          })
          (λ _. (λ z. absurd (omega arith), λ z. absurd (omega arith))))

      -- the group is closed
      closed_behind : (v : ℕ) → drop i s ≡ command_bytes Closes v ++ drop next s → Behind s i Inside p t →
          Behind s next Outside (progress Outside p.variables p.clauses p.literals) (t ++ (pos 0 ∷ []))
      unfolding entry_bytes item_bytes groups table_of entries
      closed_behind v bytes w =
          let f = groups w.items in
          let last = groups_append w.items (group w.clause ∷ []) in
          record {
            items = w.items ++ (group w.clause ∷ []);
            clause = [];
            strip = λ n c l h. past Closes v bytes _ ∙ w.strip n [] l h ∙ rw (append-nil w.clause, append_assoc w.items (group w.clause ∷ []) l);
            table = ap (λ (x : List ℤ). x ++ (pos 0 ∷ [])) w.table
                ∙ rw (last, tables_append f (w.clause ∷ []), append_assoc (table_of f) (map entry_of w.clause) (pos 0 ∷ []), append-nil (table_of f ++ (map entry_of w.clause ++ (pos 0 ∷ []))));
            number = rw (last, length-append) (omega (arith, w.number));
            literals = rw (last, entries_append f (w.clause ∷ [])) (omega (arith, w.literals));
            known = λ n h. rw (last, h refl) (clause_last p.variables f w.clause (w.known p.variables (λ _. refl)) w.known_open);
            known_open = empty_in_range p.variables;
          }

      pub obey_follows : (m : Mark) (v : ℕ) → p.turn ≡ turn_of m → drop i s ≡ command_bytes m v ++ drop next s → Behind s i (turn_of m) p t →
          Follows i next t (obey p (mentions_all p.variables t) v m)
      unfolding obey entry_bytes item_bytes groups
      obey_follows Placements v e bytes w = cond_ind (Follows i next t) _ _ (ltb max_variables v) (λ _. (λ z. absurd (omega arith), λ z. absurd (omega arith))) (λ _. record {
        items = w.items;
        clause = [];
        strip = λ n c l h. past Placements v bytes (item_bytes l) ∙ rw (h refl) (w.strip v [] l (λ z. absurd (true_not_false refl z)));
        table = w.table;
        number = w.number;
        literals = w.literals;
        known = λ n h. w.known n (λ z. absurd (true_not_false refl z));
        known_open = empty_in_range v;
      })
      obey_follows Chapter v e bytes w =
          let same = groups_append w.items (chapter v ∷ []) ∙ append-nil (groups w.items) in
          subst (λ (u : Turn). Behind s next u p t) (sym e) (record {
            items = w.items ++ (chapter v ∷ []);
            clause = [];
            strip = λ n c l h. past Chapter v bytes _ ∙ w.strip n [] (chapter v ∷ l) h ∙ rw (append_assoc w.items (chapter v ∷ []) l);
            table = rw same w.table;
            number = rw same w.number;
            literals = rw same w.literals;
            known = rw same w.known;
            known_open = empty_in_range p.variables;
          })
      obey_follows Opens v e bytes w = cond_ind (Follows i next t) _ _ (ltb p.clauses max_clauses) (λ _. record {
        items = w.items;
        clause = [];
        strip = λ n c l h. past Opens v bytes _ ∙ w.strip n [] (group c ∷ l) h;
        table = w.table;
        number = omega (arith, w.number);
        literals = w.literals;
        known = w.known;
        known_open = empty_in_range p.variables;
      }) (λ _. (λ z. absurd (omega arith), λ z. absurd (omega arith)))
      obey_follows Taken v e bytes w = entered_follows (Pos v) Taken v bytes (λ c r. refl) w
      obey_follows LeftOut v e bytes w = entered_follows (Neg v) LeftOut v bytes (λ c r. refl) w
      obey_follows Closes v e bytes w = closed_behind v bytes w
      obey_follows Ends v e bytes w = cond_ind (Follows i next t) _ _ (mentions_all p.variables t) (λ _. record {
        items = w.items;
        clause = [];
        strip = λ n c l h. past Ends v bytes _ ∙ w.strip n [] [] h ∙ rw (append-nil w.items);
        table = w.table;
        number = w.number;
        literals = w.literals;
        known = w.known;
        known_open = empty_in_range p.variables;
      }) (λ b. (λ z. absurd (omega arith), λ _. unmentioned w bytes b))
