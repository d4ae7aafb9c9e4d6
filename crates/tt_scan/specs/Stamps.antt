-- No part of the standard: the black columns of a narrow row as one word.
use Rattle.std.specs.Prelude.{◌≡◌, refl, ℕ, ◌-◌, ◌^◌, Bool, true, false, ◌&&◌, ◌==◌, nat_lt, ℤ, negsuc, ◌-ℤ◌, int_le, unsigned_abs, List}
use Rattle.std.specs.Int.{bit_at}
use Rattle.tt_scan_edges.specs.Marks.{covers}
use Rattle.tt_scan_edges.specs.declared.mark.Span.{Span}
use Rattle.tt_scan.specs.declared.word.Stamp.{Stamp}

-- column j of a word, the leftmost in the highest bit; the lowest seven bits show nothing
abbrev pub in_word : ℕ → ℕ → Bool
in_word word j = nat_lt j 57 && (bit_at word (63 - j) == 1)

-- a column is black, by a word whose first column is `low`
abbrev pub shows : ℤ → ℕ → ℤ → Bool
shows low word c = int_le low c && in_word word (unsigned_abs (c -ℤ low))

-- a stamp has the columns that spans cover
abbrev pub IsStampOf : List Span → Stamp → Type 0
IsStampOf ss s = (c : ℤ) → covers ss c ≡ shows s.low s.word c

-- worked values
its_first_column : shows (negsuc 2) (2 ^ 63) (negsuc 2) ≡ true
its_first_column = refl

left_of_it : shows (negsuc 2) (2 ^ 63) (negsuc 3) ≡ false
left_of_it = refl
