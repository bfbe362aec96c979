-- What stands in a clause, how often, and what becomes of it in a state.
use mathlib.Core.Path.{◌≡◌, refl, sym, ◌∙◌}
use mathlib.Core.Bool.{true}
use mathlib.Core.Logic.{◌≢◌, ⊎_elim}
use mathlib.Core.List.Memᴰ
use mathlib.Core.List.{[], ◌∷◌, Memᴰ}
use Prim.Native.Nat.{suc, ◌+◌, ◌<◌, ◌≤◌}
use native.Mathlib.Omega.{arith}
use borrow.Author.Tests.{ltb-true, lt-ltb}
use Rattle.literal.specs.declared.Literal.{Literal}
use Rattle.literal.specs.Literal.{FALSE}
use Rattle.theory.specs.Formula.{Clause}
use Rattle.theory.specs.State.{State, value, stand, standing}
use Rattle.theory.specs.Rules.{occurs, stands}
use Rattle.theory.proofs.Literals.{same_refl, same_ne, literal_cases}
use Rattle.theory.proofs.States.{Based, base_false, Refines, refines_value}

-- occurrences ----------------------------------------------------------------------------------------------------

pub occurs_here : (x : Literal) (c : Clause) → occurs x (x ∷ c) ≡ suc (occurs x c)
unfolding occurs
occurs_here x c = rw (same_refl x) (omega arith)

pub occurs_tail : (x l : Literal) (c : Clause) → occurs x c ≤ occurs x (l ∷ c)
unfolding occurs
occurs_tail x l c = omega arith

pub occurs_other : (x l : Literal) (c : Clause) → l ≢ x → occurs x (l ∷ c) ≡ occurs x c
unfolding occurs
occurs_other x l c h = rw (same_ne l x h) (omega arith)

pub mem_occurs : (c : Clause) (x : Literal) → Memᴰ x c → 0 < occurs x c
mem_occurs [] x m = absurd (Memᴰ.not-nil m)
mem_occurs (l ∷ c) x m = ⊎_elim
    (λ e. rw e (omega (arith, occurs_here l c)))
    (λ k. omega (arith, mem_occurs c x k, occurs_tail x l c))
    (Memᴰ.cases_cons m)

pub occurs_mem : (c : Clause) (x : Literal) → 0 < occurs x c → Memᴰ x c
unfolding occurs
occurs_mem [] x h = absurd (omega arith)
occurs_mem (l ∷ c) x h = ⊎_elim
    (λ e. Memᴰ.head (sym e))
    (λ n. Memᴰ.tail (occurs_mem c x (omega (arith, occurs_other x l c n))))
    (literal_cases l x)

pub stands_mem : (c : Clause) (x : Literal) → stands x c ≡ true → Memᴰ x c
stands_mem c x e = occurs_mem c x (ltb-true 0 (occurs x c) e)

pub mem_stands : (c : Clause) (x : Literal) → Memᴰ x c → stands x c ≡ true
mem_stands c x m = lt-ltb 0 (occurs x c) (mem_occurs c x m)

-- a literal in front, unless it is false -------------------------------------------------------------------------

pub stand_ind : (P : Literal → Clause → Type 0) (c : Clause) → P FALSE c → ((l : Literal) → l ≢ FALSE → P l (l ∷ c)) → (l : Literal) → P l (stand l c)
stand_ind P c a b l = ⊎_elim
    (λ (e : l ≡ FALSE). rw e a)
    (λ (h : l ≢ FALSE). rw (same_ne l FALSE h) (b l h))
    (literal_cases l FALSE)

stand_tail : (v : Literal) (c : Clause) (l : Literal) → occurs v c ≤ occurs v (stand l c)
stand_tail v c = stand_ind (λ l d. occurs v c ≤ occurs v d) c (omega arith) (λ l h. occurs_tail v l c)

stand_here : (v : Literal) (c : Clause) → v ≢ FALSE → occurs v (stand v c) ≡ suc (occurs v c)
stand_here v c h = rw (same_ne v FALSE h) (occurs_here v c)

-- clauses as they stand ------------------------------------------------------------------------------------------

-- a literal that stands is the value of one that was written
pub record Stems (s : State) (c : Clause) (l : Literal) : Type 0 where
  pub written : Literal
  pub member : Memᴰ written c
  pub valued : value s written ≡ l
  pub not-false : l ≢ FALSE

pub standing_mem : (s : State) (c : Clause) (l : Literal) → Memᴰ l (standing s c) → Stems s c l
unfolding standing
standing_mem s [] l m = absurd (Memᴰ.not-nil m)
standing_mem s (k ∷ c) l m = go (value s k) refl m (standing_mem s c l)
  where
    further : Stems s c l → Stems s (k ∷ c) l
    further w = record { written = w.written; member = Memᴰ.tail w.member; valued = w.valued; not-false = w.not-false }

    go : (v : Literal) → value s k ≡ v → Memᴰ l (stand v (standing s c)) → (Memᴰ l (standing s c) → Stems s c l) → Stems s (k ∷ c) l
    go v e = stand_ind (λ v d. value s k ≡ v → Memᴰ l d → (Memᴰ l (standing s c) → Stems s c l) → Stems s (k ∷ c) l) (standing s c)
        (λ e m ih. further (ih m))
        (λ v h e m ih. ⊎_elim
        (λ (q : l ≡ v). record { written = k; member = Memᴰ.head refl; valued = e ∙ sym q; not-false = λ z. h (sym q ∙ z) })
        (λ m. further (ih m))
        (Memᴰ.cases_cons m))
        v e

stand_keeps : (l v : Literal) (d : Clause) → Memᴰ l d → Memᴰ l (stand v d)
stand_keeps l v d m = stand_ind (λ v e. Memᴰ l e) d m (λ v h. Memᴰ.tail m) v

stand_front : (v : Literal) (d : Clause) → v ≢ FALSE → Memᴰ v (stand v d)
stand_front v d h = rw (same_ne v FALSE h) (Memᴰ.head refl)

pub mem_standing : (s : State) (c : Clause) (k : Literal) → Memᴰ k c → value s k ≢ FALSE → Memᴰ (value s k) (standing s c)
unfolding standing
mem_standing s [] k m h = absurd (Memᴰ.not-nil m)
mem_standing s (l ∷ c) k m h = ⊎_elim
    (λ (e : k ≡ l). rw (← e) (stand_front (value s k) (standing s c) h))
    (λ n. stand_keeps (value s k) (value s l) (standing s c) (mem_standing s c k n h))
    (Memᴰ.cases_cons m)

-- where v says of what s makes of each literal what u says of the literal, what stands in s stands in v as the clause itself does in u
pub standing_again : {s u v : State} → ((l : Literal) → value v (value s l) ≡ value u l) → Based v → (c : Clause) → standing v (standing s c) ≡ standing u c
unfolding standing
standing_again e b [] = refl
standing_again {s} {u} {v} e b (k ∷ c) = sym (once (value s k)) ∙ rw (e k, standing_again e b c)
  where
    once : (l : Literal) → stand (value v l) (standing v (standing s c)) ≡ standing v (stand l (standing s c))
    once = stand_ind (λ l d. stand (value v l) (standing v (standing s c)) ≡ standing v d) (standing s c)
        (rw (base_false b))
        (λ l h. refl)

-- so in a refinement
pub standing_refines : {s u : State} → Refines s u → Based u → (c : Clause) → standing u (standing s c) ≡ standing u c
standing_refines r b c = standing_again (refines_value r) b c

-- states that say the same of a clause's literals
pub standing_same : (s u : State) (c : Clause) → ((l : Literal) → Memᴰ l c → value s l ≡ value u l) → standing s c ≡ standing u c
unfolding standing
standing_same s u [] h = refl
standing_same s u (l ∷ c) h = rw (h l (Memᴰ.head refl), standing_same s u c (λ k m. h k (Memᴰ.tail m)))

-- a literal of the clause goes with its value, and two literals of one value count twice
module _ (u : State) (v : Literal) (h : v ≢ FALSE) where
  pub occurs_image : (x : Literal) → value u x ≡ v → (c : Clause) → occurs x c ≤ occurs v (standing u c)
  unfolding standing occurs
  occurs_image x e [] = omega arith
  occurs_image x e (l ∷ c) = ⊎_elim
      (λ (q : l ≡ x). rw (q, e, same_refl x) (omega (arith, stand_here v (standing u c) h, occurs_image x e c)))
      (λ (q : l ≢ x). rw (same_ne l x q) (omega (arith, stand_tail v (standing u c) (value u l), occurs_image x e c)))
      (literal_cases l x)

  pub occurs_images : (x y : Literal) → x ≢ y → value u x ≡ v → value u y ≡ v → (c : Clause) → occurs x c + occurs y c ≤ occurs v (standing u c)
  unfolding standing occurs
  occurs_images x y d e f [] = omega arith
  occurs_images x y d e f (l ∷ c) =
      let ih : occurs x c + occurs y c ≤ occurs v (standing u c) = occurs_images x y d e f c in
      ⊎_elim
      (λ (q : l ≡ x). rw (q, e, same_refl x, same_ne x y d) (omega (arith, stand_here v (standing u c) h)))
      (λ (q : l ≢ x). rw (same_ne l x q) (⊎_elim
      (λ (z : l ≡ y). rw (z, f, same_refl y) (omega (arith, stand_here v (standing u c) h)))
      (λ (z : l ≢ y). rw (same_ne l y z) (omega (arith, stand_tail v (standing u c) (value u l))))
      (literal_cases l y)))
      (literal_cases l x)
