-- A filing typed in decimal: the number of placements, then the table's numbers, each a word between blanks.
use Rattle.std.specs.Prelude.{Bool, not, ◌&&◌, ◌||◌, cond, List, [], ◌∷◌, ◌++◌, ℕ, zero, suc, ◌+◌, ◌*◌, ◌-◌, eqb, leb, ltb, ℤ, pos, negsuc, neg_ℤ, length, get_or, drop, Option, None, Some, option_map, Result, Ok, Err}
use Rattle.general.specs.Parts.{part}
use Rattle.scan.specs.declared.Word.{Word}
use Rattle.scan.specs.declared.WrongWord.{WrongWord}

-- Bytes -----------------------------------------------------------------------------------------------------------

-- a space, or 9 to 13: tab, line feed, vertical tab, form feed, carriage return
abbrev pub is_blank : ℕ → Bool
is_blank b = eqb b 32 || (leb 9 b && leb b 13)

abbrev pub is_digit : ℕ → Bool
is_digit b = leb 48 b && leb b 57

-- Numbers ---------------------------------------------------------------------------------------------------------

-- a value with one digit more
abbrev pub with_digit : ℕ → ℕ → ℕ
with_digit v b = v * 10 + (b - 48)

-- the value of the digits w after the value v; none where a byte is no digit, or where a value passes the limit
unfoldable pub value_from : ℕ → ℕ → List ℕ → Option ℕ
value_from limit v [] = Some v
value_from limit v (b ∷ w) = cond (is_digit b && leb (with_digit v b) limit) (value_from limit (with_digit v b) w) None

-- one or more digits
abbrev pub natural : ℕ → List ℕ → Option ℕ
natural limit w = cond (ltb 0 (length w)) (value_from limit 0 w) None

-- the sizes of the largest and of the smallest number of 16 bits
abbrev pub most : ℕ
most = 32767

abbrev pub most_negative : ℕ
most_negative = 32768

-- a word: digits, with a minus sign before them or none
abbrev pub integer_of : List ℕ → Option ℤ
integer_of w = cond (eqb (get_or w 0 0) 45) (option_map (λ v. neg_ℤ (pos v)) (natural most_negative (drop 1 w))) (option_map pos (natural most w))

-- Words -----------------------------------------------------------------------------------------------------------

-- how many bytes at the front pass a test
unfoldable pub leading : (ℕ → Bool) → List ℕ → ℕ
leading test [] = 0
leading test (b ∷ s) = cond (test b) (suc (leading test s)) 0

-- the index of the first byte from i on that is no blank, and of the first that is one
abbrev pub word_start : List ℕ → ℕ → ℕ
word_start s i = i + leading is_blank (drop i s)

abbrev pub word_end : List ℕ → ℕ → ℕ
word_end s i = i + leading (λ b. not (is_blank b)) (drop i s)

-- a number's word up to index e, or the place of one that is no number
abbrev pub word_of : ℕ → ℕ → Option ℤ → Result Word WrongWord
word_of a e None = Err (record { place = a })
word_of a e (Some v) = Ok (record { number = v; end = e })

-- the same, where a word is there
abbrev pub there : Result Word WrongWord → Result (Option Word) WrongWord
there (Ok w) = Ok (Some w)
there (Err w) = Err w

-- the word from index a to index e
abbrev pub word_between : List ℕ → ℕ → ℕ → Result (Option Word) WrongWord
word_between s a e = cond (eqb a e) (Ok None) (there (word_of a e (integer_of (part a (e - a) s))))

-- the first word from index i on
unfoldable pub word_at : List ℕ → ℕ → Result (Option Word) WrongWord
word_at s i = word_between s (word_start s i) (word_end s (word_start s i))

-- The filing ------------------------------------------------------------------------------------------------------

-- the number of placements and the table, or the place of what is wrong
pub data Filing : Type 0 where
  filing : ℕ → List ℤ → Filing
  wrong : ℕ → Filing

-- one word more, after the numbers of t
abbrev pub table_on : (ℕ → List ℤ → Filing) → ℕ → List ℤ → Result (Option Word) WrongWord → Filing
table_on go n t (Ok (Some w)) = go w.end (t ++ (w.number ∷ []))
table_on go n t (Ok None) = filing n t
table_on go n t (Err w) = wrong w.place

module _ (s : List ℕ) where
  -- the table's numbers from index i on, after those of t, with fuel for k - 1 words
  unfoldable pub table_from : ℕ → ℕ → ℕ → List ℤ → Filing
  table_from n zero i t = wrong i
  table_from n (suc k) i t = table_on (table_from n k) n t (word_at s i)

  -- each word takes a byte, so fuel of one more than the length is enough
  abbrev pub table_at : ℕ → ℕ → Filing
  table_at n i = table_from n (suc (length s)) i []

  -- the first number is the number of placements; where there is none, the place is the text's length
  abbrev pub placements : ℤ → ℕ → Filing
  placements (pos n) next = table_at n next
  placements (negsuc n) next = wrong (word_start s 0)

  abbrev pub placements_on : Result (Option Word) WrongWord → Filing
  placements_on (Ok (Some w)) = placements w.number w.end
  placements_on (Ok None) = wrong (length s)
  placements_on (Err w) = wrong w.place

abbrev pub filing_of : List ℕ → Filing
filing_of s = placements_on s (word_at s 0)
