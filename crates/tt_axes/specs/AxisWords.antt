-- No part of a standard: the values that `--axis` gives (profile), as `wght=700,wdth=87.5`. Values are separated by
-- commas. Each is a tag of 1 to 4 printed characters of ASCII, an equals sign, and a decimal below 32,768 in magnitude:
-- an optional minus sign, 1 to 5 digits, and optionally a point and 1 to 5 digits. A tag is filled up with blanks.
use Rattle.std.specs.Prelude.{◌≡◌, refl, ℕ, ◌+◌, ◌-◌, ◌*◌, ◌^◌, ◌&&◌, ◌||◌, ◌==◌, nat_lt, nat_le, Bool, if◌then◌else◌, ℤ, pos, negsuc, neg_ℤ, List, [], ◌∷◌, length, drop, map, slice_get, slice_index, unwrap_or, codes, option_map, Option, Some, None}
use Rattle.std.specs.List.{list_all}
use Rattle.tt_axes.specs.declared.values.AxisValue.{AxisValue}
use Rattle.tt_axes.specs.Shares.{portion}
use Rattle.tt_core.specs.Cutting.{after, all_read, before, pieces}

-- the value of a digit
abbrev pub digit_value : ℕ → Option ℕ
digit_value c = if nat_le 48 c && nat_le c 57 then Some (c - 48) else None

-- a number with one more digit
abbrev pub with_digit : ℕ → Option ℕ → Option ℕ
with_digit n None = None
with_digit n (Some d) = Some (10 * n + d)

abbrev pub with_digits : Option ℕ → List ℕ → Option ℕ
with_digits None xs = None
with_digits (Some n) [] = Some n
with_digits (Some n) (x ∷ xs) = with_digits (with_digit n (digit_value x)) xs

-- the number of 1 to 5 digits
abbrev pub by_digits : List ℕ → Option ℕ
by_digits ds = if nat_lt (length ds) 1 || nat_lt 5 (length ds) then None else with_digits (Some 0) ds

-- the weight of the last of n digits behind a point, in 1/100000
abbrev pub last_weight : ℕ → ℕ
last_weight n = 10 ^ (5 - n)

-- the digits behind a point, in 1/100000
abbrev pub fraction_of : Option (List ℕ) → Option ℕ
fraction_of None = Some 0
fraction_of (Some ds) = option_map (λ n. n * last_weight (length ds)) (by_digits ds)

-- a number below 32,768, in 16.16
abbrev pub fixed_by : Option ℕ → Option ℕ → Option ℕ
fixed_by None fraction = None
fixed_by (Some whole) None = None
fixed_by (Some whole) (Some fraction) =
    if nat_lt whole 32768 then Some (portion 65536 (100000 * whole + fraction) 100000) else None

-- a decimal without a sign
abbrev pub unsigned_value : List ℕ → Option ℕ
unsigned_value t = fixed_by (by_digits (before 46 t)) (fraction_of (after 46 t))

-- the decimal of a text, in 16.16
unfoldable pub value_of : List ℕ → Option ℤ
value_of t =
    if slice_index t 0 == 45 then option_map (λ n. neg_ℤ (pos n)) (unsigned_value (drop 1 t))
    else option_map (λ n. pos n) (unsigned_value t)

abbrev pub is_printed : ℕ → Bool
is_printed c = nat_le 0x20 c && nat_le c 0x7E

-- byte i of a tag, or a blank
abbrev pub byte_or_blank : List ℕ → ℕ → ℕ
byte_or_blank t i = unwrap_or (slice_get t i) 0x20

abbrev pub filled : List ℕ → List ℕ
filled t = byte_or_blank t 0 ∷ byte_or_blank t 1 ∷ byte_or_blank t 2 ∷ byte_or_blank t 3 ∷ []

abbrev pub tag_of : List ℕ → Option (List ℕ)
tag_of t = if (nat_le 1 (length t) && nat_le (length t) 4) && list_all is_printed t then Some (filled t) else None

abbrev pub given_by : Option (List ℕ) → Option ℤ → Option AxisValue
given_by None v = None
given_by (Some tag) None = None
given_by (Some tag) (Some v) = Some (record { tag = tag; value = v })

abbrev pub axis_value_by : List ℕ → Option (List ℕ) → Option AxisValue
axis_value_by t None = None
axis_value_by t (Some u) = given_by (tag_of t) (value_of u)

-- the value that a piece gives
abbrev pub axis_value_of : List ℕ → Option AxisValue
axis_value_of t = axis_value_by (before 61 t) (after 61 t)

-- the values that a text gives, if the text is of the right form
unfoldable pub axis_values_of : List ℕ → Option (List AxisValue)
axis_values_of t = all_read axis_value_of (pieces 44 t)

-- worked values
abbrev given : List ℕ → ℤ → AxisValue
given tag v = record { tag = tag; value = v }

two_values : axis_values_of (codes "wght=700,wdth=87.5") ≡ Some (given (codes "wght") (pos 45875200) ∷ given (codes "wdth") (pos 5734400) ∷ [])
unfolding axis_values_of value_of
two_values = refl

below_0 : axis_values_of (codes "slnt=-9.5") ≡ Some (given (codes "slnt") (negsuc 622591) ∷ [])
unfolding axis_values_of value_of
below_0 = refl

tags_filled_up : axis_values_of (codes "a=0,a b=1") ≡ Some (given (codes "a   ") (pos 0) ∷ given (codes "a b ") (pos 65536) ∷ [])
unfolding axis_values_of value_of
tags_filled_up = refl

a_tag_twice : axis_values_of (codes "wght=700,wght=300") ≡ Some (given (codes "wght") (pos 45875200) ∷ given (codes "wght") (pos 19660800) ∷ [])
unfolding axis_values_of value_of
a_tag_twice = refl

roundings : map value_of (codes "1.00001" ∷ codes "0.00001" ∷ codes "32767.99999" ∷ codes "-32767.99999" ∷ codes "-0" ∷ [])
    ≡ Some (pos 65537) ∷ Some (pos 1) ∷ Some (pos 2147483647) ∷ Some (negsuc 2147483646) ∷ Some (pos 0) ∷ []
unfolding value_of
roundings = refl

no_values : map value_of (codes "32768" ∷ codes "-32768" ∷ [] ∷ codes "7x0" ∷ codes "700." ∷ codes ".5" ∷ codes "1.000001" ∷ codes "000700"
    ∷ codes "+700" ∷ codes "--1" ∷ codes " 700" ∷ codes "-" ∷ codes "1.5.5" ∷ [])
    ≡ None ∷ None ∷ None ∷ None ∷ None ∷ None ∷ None ∷ None ∷ None ∷ None ∷ None ∷ None ∷ None ∷ []
unfolding value_of
no_values = refl

not_of_the_form : map axis_values_of (codes "wght=" ∷ codes "wght" ∷ codes "=700" ∷ codes "wght=700," ∷ codes ",wght=700" ∷ codes "wghtx=700"
    ∷ codes "w,x=1" ∷ [] ∷ (0x47 ∷ 0x52 ∷ 0x20 ∷ 0xC3 ∷ 0xA9 ∷ 0x3D ∷ 0x31 ∷ []) ∷ codes "wght=1=2" ∷ [])
    ≡ None ∷ None ∷ None ∷ None ∷ None ∷ None ∷ None ∷ None ∷ None ∷ None ∷ []
unfolding axis_values_of value_of
not_of_the_form = refl
