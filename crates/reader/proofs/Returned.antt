-- A step of the walks by hand: a call of a function without a `&mut` has returned. The lifetime's token is back, the result is owned, and what the
-- callee ensures of it is known.
use mathlib.Core.List.{List, [], ◌∷◌}
use seplogic.Ra.Ura.{Ura}
use mir.Val.{Val}
use base.Logic.{SProp, ent, ex_e, snd∗, id⊢}
use base.Fml.{Lft, Share, ftrue, flft}
use types.Logic.{Logic, sem}
use contract.Lifetimes.{Lfts}
use contract.Monad.{fact}
use types.Kit.{Goal, Soaks, Item, ‵, raw, ◌⊛◌, mean, some, later, Seq, ◌$◌, move, use1, split, pick, await}
use denote.RattleType.{RattleType}
use denote.Laws.{Is, shows}
use denote.Steps.{peeks, heard}
use denote.Triple.Clauses.{Ended, lasts}
use denote.Triple.Entry.{Args}
use denote.Triple.Spec.{exits}

module _ {M : Type 1} {𝓤 : Ura M} (𝓛 : Logic 𝓤) (T : Ended) (κs : Lfts T.signature.lifetimes) (a : Args T.signature κs) where
  -- a callee that takes a ensures φ, and nothing of last values
  abbrev pub Ensures : Type 0 → SProp 𝓤
  Ensures φ = exits 𝓛 T.signature T.kept κs a (λ _. fact 𝓤 φ)

  ensures_fact : (φ : Type 0) → ent 𝓤 (Ensures φ) (fact 𝓤 φ)
  ensures_fact φ = ex_e 𝓤 _ (λ ws. snd∗ 𝓤 (sem 𝓛 (lasts T κs a ws)) (fact 𝓤 φ))

module _ {M : Type 1} {𝓤 : Ura M} {𝓛 : Logic 𝓤} {K : Type 0} {Γ : List (Item 𝓤)} {G : Goal 𝓤 𝓛.H} where
  pub returned : K → Soaks G → (T : Ended) (κs : Lfts T.signature.lifetimes) (a : Args T.signature κs)
      (R : RattleType) (κ : Lft) (q : Share) (φ : R.Denot → Type 0) (u : Val) →
      ((r : R.Denot) → φ r → Is R r (u ∷ []) → Seq K 𝓛 (‵ (R.own_val r (u ∷ [])) ∷ (‵ (flft κ q) ⊛ ‵ ftrue) ∷ Γ) G) →
      Seq K 𝓛 (raw (mean 𝓛 (later (some (λ (r : R.Denot). ((‵ (flft κ q) ⊛ ‵ ftrue) ⊛ ‵ (R.own_val r (u ∷ []))) ⊛ raw (Ensures 𝓛 T κs a (φ r)))))) ∷ Γ) G
  returned t z T κs a R κ q φ u k =
      use1 𝓛 (later (some (λ (r : R.Denot). ((‵ (flft κ q) ⊛ ‵ ftrue) ⊛ ‵ (R.own_val r (u ∷ []))) ⊛ raw (Ensures 𝓛 T κs a (φ r))))) (id⊢ 𝓤 _) $
      await t z $ pick t (λ r. split t $ move t (1 ∷ []) $ use1 𝓛 (raw (fact 𝓤 (φ r))) (ensures_fact 𝓛 T κs a (φ r)) $ heard t (φ r) (λ e.
      split t $ move t (1 ∷ []) $ peeks t R (Is R) (shows 𝓛 R) r (u ∷ []) (λ is. k r e is)))
