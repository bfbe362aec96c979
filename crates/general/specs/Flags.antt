-- Lists of n numbers, each 0 or 1, of which one at a time is written.
use Rattle.std.specs.Prelude.{◌≡◌, List, ℕ, ◌≤◌, ◌<◌, get_or, length, set, replicate}
use Rattle.std.proofs.Common.{◌∙◌, arith, length-set, get_or-set_same, get_or-set_other}
use Rattle.std.proofs.Math.Decide.{ℕ_discrete as dec_eq}
use Rattle.std.proofs.lemmas.List.{length-replicate}
use Rattle.general.specs.Lists.{get_or_throughout}

pub record Flags (n : ℕ) (l : List ℕ) : Type 0 where
  pub long : length l ≡ n
  pub bits : (i : ℕ) → get_or l i 0 ≤ 1

pub flags_none : (n : ℕ) → Flags n (replicate n 0)
flags_none n = record { long = length-replicate {A = ℕ} n 0; bits = λ i. omega (arith, get_or_throughout {A = ℕ} n i 0) }

module _ {n : ℕ} {l : List ℕ} (f : Flags n l) (k : ℕ) (inside : k < n) where
  pub flag_there : (b : ℕ) → get_or (set l k b) k 0 ≡ b
  flag_there b = get_or-set_same l k b 0 (omega (arith, f.long))

  pub flags_set : (b : ℕ) → b ≤ 1 → Flags n (set l k b)
  flags_set b low = record {
    long = length-set l k b ∙ f.long;
    bits = λ i. elim (dec_eq i k) [ yes e ↦ rw e (omega (arith, flag_there b)) | no e ↦ rw (get_or-set_other l k i b 0 e) (f.bits i) ];
  }

  -- what is 1 stays so where another becomes 1
  pub flag_kept : (i : ℕ) → get_or l i 0 ≡ 1 → get_or (set l k 1) i 0 ≡ 1
  flag_kept i h = elim (dec_eq i k) [ yes e ↦ rw e (flag_there 1) | no e ↦ rw (get_or-set_other l k i 1 0 e) h ]
