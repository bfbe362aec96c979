-- What is printed, made by appending: an outcome, the two lists, and what a search answers.
use mathlib.Core.Path.{◌≡◌}
use mathlib.Core.List.{List, [], map, append_assoc}
use Prim.Native.Nat.{ℕ}
use lib.IntN.{ℤ}
use Rattle.general.specs.Appending.{Appended, append_both}
use Rattle.receipt.specs.declared.Outcome.{Outcome}
use Rattle.text.specs.Text.{codes, decimal, signed, spaced, line}
use Rattle.report.specs.Report.{outcome_words, count_text, lists_text, lists_of, ended_text}

pub outcome_appended : {l l' : List ℕ} {at r : ℕ} (o v : Outcome) → o ≡ v → Appended l at (line (outcome_words v) []) l' r → Appended l at (line (outcome_words o) []) l' r
outcome_appended o v e a = rw e a

pub lists_appended : {l₀ l₁ l₂ l₃ l₄ l₅ : List ℕ} {at p q r s u : ℕ} (plan : List ℕ) (trail : List ℤ) → Appended l₀ at (codes "plan") l₁ p →
    Appended l₁ p (spaced (map decimal plan)) l₂ q → Appended l₂ q (codes "\ntrail") l₃ r → Appended l₃ r (spaced (map signed trail)) l₄ s →
    Appended l₄ s (codes "\n") l₅ u → Appended l₀ at (lists_text plan trail) l₅ u
lists_appended plan trail a b c d e =
    rw (append_assoc (spaced (map decimal plan)) (codes "\n")) (append_both a (append_both b (append_both c (append_both d e))))

pub ended_appended : {l₀ l₁ l₂ l₃ : List ℕ} {at p q r : ℕ} (o : Outcome) (k : ℕ) (plan : List ℕ) (trail : List ℤ) → Appended l₀ at (line (outcome_words o) []) l₁ p →
    Appended l₁ p (count_text k) l₂ q → Appended l₂ q (lists_of o plan trail) l₃ r → Appended l₀ at (ended_text o k plan trail) l₃ r
unfolding ended_text
ended_appended o k plan trail a b c = append_both a (append_both b c)
