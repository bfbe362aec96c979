-- What a command that is obeyed keeps: the numbers stay within the limits and count the elements that are stored, and what is left of the strip after it,
-- by its grammar, is what was left before it without the command.
use Rattle.receipt.specs.declared.Fault.{Fault}
use mathlib.Core.Path.{◌≡◌, refl, sym, subst, ◌∙◌}
use mathlib.Core.Bool.{false, ◌||◌}
use mathlib.Core.Logic.{⊎_elim}
use mathlib.Core.List.Memᴰ
use mathlib.Core.List.{List, [], ◌∷◌, ◌++◌, append_assoc, append-nil}
use Prim.Native.Nat.{ℕ, ◌+◌, ◌≤◌}
use native.Mathlib.Omega.{arith}
use borrow.Author.Tests.{ltb-true, ltb-false}
use lib.Dec.{eqb, ltb}
use lib.IntN.{ℤ}
use lib.ListN.{length, drop}
use Rattle.general.specs.Booleans.{true_not_false, cond_ind}
use Rattle.literal.specs.declared.Literal.{Literal}
use Rattle.literal.specs.declared.Literal.TheVariants.{Pos, Neg}
use Rattle.literal.specs.Literal.{var, entry_of, max_variables, max_clauses, max_literals}
use Rattle.theory.specs.declared.Mark.{Mark}
use Rattle.theory.specs.declared.Mark.TheVariants.{Placements, Chapter, Opens, Taken, LeftOut, Closes, Ends}
use Rattle.theory.specs.declared.Turn.{Turn}
use Rattle.theory.specs.declared.Turn.TheVariants.{Start, Outside, Inside, After}
use Rattle.theory.specs.declared.Progress.{Progress}
use Rattle.std.specs.Prelude.{Option, None, Some, Result, Err, Ok}
use Rattle.theory.specs.declared.Obeyed.{Obeyed}
use Rattle.theory.specs.Formula.{Clause, Formula}
use Rattle.theory.specs.Mentions.{mentions_all, Mentioned}
use Rattle.theory.specs.Strip.{turn_of, same, nothing_read, entered, obey}
use Rattle.theory.specs.Encoding.{Item, chapter, group, command_bytes, entry_bytes, item_bytes, encode, groups, table_of, entries, Bytes}
use Rattle.theory.proofs.Tables.{known_variable, InRange, push_range}
use Rattle.reader.proofs.Commands.{OfCommand}
use Rattle.strip.specs.Faults.{with}

-- inside a group its closing 0 is still to come
abbrev pub pending : Turn → ℕ
pending Start = 0
pending Outside = 0
pending Inside = 1
pending After = 0

pub record Sound (p : Progress) (used : ℕ) : Type 0 where
  pub variables : p.variables ≤ max_variables
  pub clauses : p.clauses ≤ max_clauses
  pub literals : p.literals ≤ max_literals
  pub elements : used + pending p.turn ≡ p.clauses + p.literals

pub begun_sound : Sound nothing_read 0
begun_sound = record { variables = omega arith; clauses = omega arith; literals = omega arith; elements = refl }

-- how many elements are stored
abbrev pub elements : Option ℤ → ℕ
elements None = 0
elements (Some e) = 1

-- what is left of a strip: the entries of the open group, and the items after it
abbrev pub ahead : Turn → ℕ → Clause → List Item → List ℕ
ahead Start n c l = encode n l
ahead Outside n c l = item_bytes l
ahead Inside n c l = entry_bytes c ++ (command_bytes Closes 0 ++ item_bytes l)
ahead After n c l = []

abbrev pub coming : Turn → Clause → List Item → Formula
coming Start c l = groups l
coming Outside c l = groups l
coming Inside c l = c ∷ groups l
coming After c l = []

-- with c groups and l entries read before it, of n variables
pub record Allows (u : ℕ) (n c l : ℕ) (f : Formula) : Type 0 where
  pub variables : n ≤ max_variables
  pub clauses : c + length f ≤ max_clauses + u
  pub literals : l + entries f ≤ max_literals
  pub known : InRange n f

-- where the end mark is still ahead, it may stand after the table T of n variables
abbrev pub MayEnd : Turn → ℕ → List ℤ → Type 0
MayEnd u n T = same u After ≡ false → Mentioned n T

module _ (s : List ℕ) where
  -- from index i on, with t read before, to the table T of n variables
  pub record Left (i : ℕ) (u : Turn) (p : Progress) (t : List ℤ) (n : ℕ) (T : List ℤ) : Type 0 where
    pub clause : Clause
    pub items : List Item
    pub strip : Bytes s → drop i s ≡ ahead u n clause items
    pub table : T ≡ t ++ table_of (coming u clause items)
    pub variables : same u Start ≡ false → n ≡ p.variables
    pub allows : Allows (pending u) n p.clauses p.literals (coming u clause items)

  -- what obeying a mark at index i says of the strip from next on
  abbrev pub Keeps : ℕ → ℕ → Progress → List ℤ → Turn → Result Obeyed Fault → Type 0
  Keeps i next p t u (Ok o) =
      Sound o.progress (length t + elements o.stored) × ((n : ℕ) (T : List ℤ) → Left next o.progress.turn o.progress (with t o.stored) n T → Left i u p t n T × (MayEnd o.progress.turn n T → MayEnd u n T))
  Keeps i next p t u (Err why) = OfCommand why

closed_range : (n : ℕ) (f : Formula) → InRange n f → InRange n ([] ∷ f)
closed_range n f h c l mc ml = ⊎_elim (λ (q : c ≡ []). absurd (Memᴰ.not-nil (rw q at ml))) (λ m. h c l m ml) (Memᴰ.cases_cons mc)

module _ (s : List ℕ) (i next : ℕ) (p : Progress) (t : List ℤ) (d : Sound p (length t)) where
  -- an entry
  entered_keeps : p.turn ≡ Inside → (l : Literal) →
      (Bytes s → (c : Clause) (r : List ℕ) → drop next s ≡ entry_bytes c ++ r → drop i s ≡ entry_bytes (l ∷ c) ++ r) → Keeps s i next p t Inside (entered p l)
  unfolding table_of entries
  entered_keeps e l c = cond_ind (Keeps s i next p t Inside) _ _ (eqb (var l) 0 || ltb p.variables (var l))
      (λ b. (λ z. omega arith, λ z. omega arith))
      (λ b. cond_ind (Keeps s i next p t Inside) _ _ (ltb p.literals max_literals)
      (λ k. (
        record { variables = d.variables; clauses = d.clauses; literals = omega (arith, ltb-true p.literals max_literals k); elements = omega (arith, rw e at d.elements) },
        λ n T a.
            let v = known_variable p.variables (var l) b in (
              record {
                clause = l ∷ a.clause;
                items = a.items;
                strip = λ y. c y a.clause _ (a.strip y);
                table = a.table ∙ append_assoc t (entry_of l ∷ []) _;
                variables = a.variables;
                allows = record {
                  variables = a.allows.variables;
                  clauses = a.allows.clauses;
                  literals = omega (arith, a.allows.literals);
                  known = push_range n l v.0 (rw (a.variables refl) v.1) (a.clause ∷ groups a.items) a.allows.known;
                };
              },
              λ w. w,
            ),
      ))
      (λ k. (λ z. omega arith, λ z. omega arith)))

  pub obey_keeps : (m : Mark) (v : ℕ) → p.turn ≡ turn_of m → (Bytes s → drop i s ≡ command_bytes m v ++ drop next s) →
      Keeps s i next p t (turn_of m) (obey p (mentions_all p.variables t) v m)
  unfolding obey entry_bytes item_bytes groups table_of entries
  obey_keeps Placements v e c = cond_ind (Keeps s i next p t Start) _ _ (ltb max_variables v)
      (λ b. (λ z. omega arith, λ z. omega arith))
      (λ b. (
        record { variables = ltb-false max_variables v b; clauses = d.clauses; literals = d.literals; elements = omega (arith, rw e at d.elements) },
        λ n T a. (
          record {
            clause = [];
            items = a.items;
            strip = λ y. c y ∙ rw (a.strip y, a.variables refl);
            table = a.table;
            variables = λ q. absurd (true_not_false refl q);
            allows = a.allows;
          },
          λ w. w,
        ),
      ))
  obey_keeps Chapter v e c = (
    record { variables = d.variables; clauses = d.clauses; literals = d.literals; elements = omega (arith, d.elements) },
    λ n T a. let o = subst (λ (u : Turn). Left s next u p t n T) e a in (
      record {
        clause = [];
        items = chapter v ∷ o.items;
        strip = λ y. c y ∙ rw (o.strip y);
        table = o.table;
        variables = o.variables;
        allows = o.allows;
      },
      subst (λ (u : Turn). MayEnd u n T → MayEnd Outside n T) (sym e) (λ w. w),
    ),
  )
  obey_keeps Opens v e c = cond_ind (Keeps s i next p t Outside) _ _ (ltb p.clauses max_clauses)
      (λ b. (
        record { variables = d.variables; clauses = omega (arith, ltb-true p.clauses max_clauses b); literals = d.literals; elements = omega (arith, rw e at d.elements) },
        λ n T a. let k = a.allows in (
          record {
            clause = [];
            items = group a.clause ∷ a.items;
            strip = λ y. c y ∙ rw (a.strip y);
            table = a.table;
            variables = a.variables;
            allows = record { variables = k.variables; clauses = omega (arith, k.clauses); literals = k.literals; known = k.known };
          },
          λ w. w,
        ),
      ))
      (λ b. (λ z. omega arith, λ z. omega arith))
  obey_keeps Taken v e c = entered_keeps e (Pos v) (λ y b r q. c y ∙ rw q)
  obey_keeps LeftOut v e c = entered_keeps e (Neg v) (λ y b r q. c y ∙ rw q)
  obey_keeps Closes v e c = (
    record { variables = d.variables; clauses = d.clauses; literals = d.literals; elements = omega (arith, rw e at d.elements) },
    λ n T a. let k = a.allows in (
      record {
        clause = [];
        items = a.items;
        strip = λ y. c y ∙ rw (a.strip y);
        table = a.table ∙ append_assoc t _ _;
        variables = a.variables;
        allows = record { variables = k.variables; clauses = omega (arith, k.clauses); literals = omega (arith, k.literals); known = closed_range n (groups a.items) k.known };
      },
      λ w. w,
    ),
  )
  obey_keeps Ends v e c = cond_ind (Keeps s i next p t Outside) _ _ (mentions_all p.variables t)
      (λ b. (
        record { variables = d.variables; clauses = d.clauses; literals = d.literals; elements = omega (arith, rw e at d.elements) },
        λ n T a. (
          record { clause = []; items = []; strip = λ y. c y ∙ rw (a.strip y); table = a.table; variables = a.variables; allows = a.allows },
          λ _ _. rw (a.variables refl, a.table, append-nil t) b,
        ),
      ))
      (λ b. (λ z. omega arith, λ z. omega arith))
