-- Saving and reading bring each other back: of the definitions.
use Rattle.receipt.specs.Answers.{reading}
use mathlib.Core.Path.{◌≡◌, ap, sym, ◌∙◌}
use mathlib.Core.List.{List, [], map}
use Prim.Native.Nat.{ℕ, ◌≤◌}
use lib.IntN.{ℤ}
use lib.ListN.{length}
use Rattle.theory.specs.Formula.{Formula, clauses}
use Rattle.theory.specs.Mentions.{Mentioned}
use Rattle.theory.specs.Table.{Accepted}
use Rattle.theory.specs.Strip.{nothing_read, read_strip}
use Rattle.theory.specs.Encoding.{group, encode, groups, saved_strip, Unchaptered, Bytes}
use Rattle.theory.proofs.Encodings.{clauses_table, groups_only, encode_injective, saved_bytes, saved_table, saved_within}
use Rattle.strip.proofs.Ends.{Ended, answered}
use Rattle.strip.proofs.Encoded.{within_reads}

-- "Reading the saved strip brings back n and the same table"
pub saved_reads : (n : ℕ) (t : List ℤ) → Accepted n t → Mentioned n t → (room : ℕ) → length t ≤ room →
    read_strip (saved_strip n t) room ≡ record { reading = reading n (length t); table = t }
saved_reads n t a m room fits =
    let back = saved_table n t a in
    rw back at (within_reads (saved_strip n t) (saved_bytes n t a) room n _ (saved_within n t a m) (rw back fits))

-- "for a strip without chapter marks, reading and then saving brings back the same bytes"
pub read_saves : (s : List ℕ) → Bytes s → Unchaptered s → (room n u : ℕ) → (read_strip s room).reading ≡ reading n u → saved_strip n (read_strip s room).table ≡ s
unfolding saved_strip
read_saves s b c room n u e =
    let a : Ended s room 0 nothing_read [] (reading n u) (read_strip s room).table = rw e at (answered s room) in
    let l = a.3 in
    let items : l.items ≡ map group c.1 = (encode_injective n c.0 l.items (map group c.1) (sym (l.strip b) ∙ c.2)).1 in
    let formula : groups l.items ≡ c.1 = ap groups items ∙ groups_only c.1 in
    let same : clauses (read_strip s room).table ≡ c.1 =
    ap clauses l.table ∙ clauses_table (groups l.items) (λ d k md mk. (l.allows.known d k md mk).0) ∙ formula in
    ap (λ (f : Formula). encode n (map group f)) same ∙ ap (encode n) (sym items) ∙ sym (l.strip b)
