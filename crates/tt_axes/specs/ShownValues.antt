-- No part of a standard: a value of 16.16 as a decimal (profile), to the nearest 1/100000 and without zeros at its end.
-- `--axis` reads the decimal as the same value.
use Rattle.std.specs.Prelude.{◌≡◌, refl, ℕ, zero, suc, ◌+◌, ◌<◌, ◌/◌, ◌%◌, ◌^◌, ◌==◌, if◌then◌else◌, ℤ, pos, negsuc, int_lt, unsigned_abs, List, [], ◌∷◌, ◌++◌, map, codes, decimal, Some}
use Rattle.std.specs.Fmt.{digits}
use Rattle.tt_axes.specs.AxisWords.{value_of}
use Rattle.tt_axes.specs.Shares.{portion}

-- a magnitude of 16.16, in 1/100000
abbrev pub hundred_thousandths : ℕ → ℕ
hundred_thousandths n = portion 100000 n 65536

-- the first of n digits behind a point, and the others, without zeros at the end
abbrev pub fraction_digits : ℕ → ℕ → List ℕ
fraction_digits rest zero = []
fraction_digits rest (suc n) = if rest == 0 then [] else (48 + rest / 10 ^ n) ∷ fraction_digits (rest % 10 ^ n) n

abbrev pub shown_fraction : ℕ → List ℕ
shown_fraction rest = if rest == 0 then [] else codes "." ++ fraction_digits rest 5

-- a number of 1/100000
abbrev pub shown_parts : ℕ → List ℕ
shown_parts n = decimal (n / 100000) ++ shown_fraction (n % 100000)

abbrev pub minus : ℤ → List ℕ
minus v = if int_lt v (pos 0) then codes "-" else []

unfoldable pub shown_value : ℤ → List ℕ
shown_value v = minus v ++ shown_parts (hundred_thousandths (unsigned_abs v))

-- the nearest 1/100000 are the nearest to no other value of 16.16
abbrev pub PartsAreRead : Type 0
PartsAreRead = (n : ℕ) → portion 65536 (hundred_thousandths n) 100000 ≡ n

-- so that a value that is shown is read as the same value, but for -32768, whose magnitude is too great
abbrev pub ValuesAreRead : Type 0
ValuesAreRead = (v : ℤ) → unsigned_abs v < 2 ^ 31 → value_of (shown_value v) ≡ Some v

-- worked values: 100, 650.5, -12.25, 0, the least value above 0, and the ends
shown_values : map shown_value (pos 6553600 ∷ pos 42631168 ∷ negsuc 802815 ∷ pos 0 ∷ pos 1 ∷ pos 2147483647 ∷ negsuc 2147483647 ∷ [])
    ≡ codes "100" ∷ codes "650.5" ∷ codes "-12.25" ∷ codes "0" ∷ codes "0.00002" ∷ codes "32767.99998" ∷ codes "-32768" ∷ []
unfolding shown_value digits
shown_values = refl

read_again : map (λ v. value_of (shown_value v)) (pos 1 ∷ negsuc 0 ∷ pos 65535 ∷ pos 5734401 ∷ pos 2147483647 ∷ [])
    ≡ Some (pos 1) ∷ Some (negsuc 0) ∷ Some (pos 65535) ∷ Some (pos 5734401) ∷ Some (pos 2147483647) ∷ []
unfolding shown_value value_of digits
read_again = refl
