-- One element more of the part is cleared.
use Rattle.std.proofs.Common.{◌≡◌, sym, ℕ, ◌+◌, ◌<◌, List, [], ◌∷◌, ◌++◌, append_assoc, length, get_or, set, replicate, drop}
use Rattle.std.proofs.lemmas.List.{length-replicate, replicate_more, drop_more, set_at}
use Rattle.fill.proofs.clear.Goals as goal

one_more : {A : Type 0} (a : A) (i : ℕ) (old l : List A) → i < length old → l ≡ replicate i a ++ drop i old → set l i a ≡ replicate (i + 1) a ++ drop (i + 1) old
one_more a i old l h e =
    rw (e, drop_more old i a h, set_at (replicate i a) (get_or old i a) (drop (i + 1) old) a i (length-replicate i a), ← replicate_more i a)
    (sym (append_assoc (replicate i a) (a ∷ []) (drop (i + 1) old)))

pub loop-element-preserved : goal.loop-element-preserved
loop-element-preserved g c = one_more c.args.zero _ _ _ c.loop-element-test.true c.loop-element.invariant
