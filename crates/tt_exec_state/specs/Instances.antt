-- OpenType, "OpenType Font Variations Overview": the place of an instance on each axis of its font, in 2.14, the first
-- axis' first. The default instance has none (profile): a program sees no difference to a font without axes.
use Rattle.std.specs.Prelude.{◌≡◌, ℤ, pos, negsuc, Bool, true, false, List, [], ◌∷◌, take, refl}
use Rattle.std.specs.Int.{int_div_euclid}
use Rattle.tt_exec_state.specs.declared.instance.Instance as declared

abbrev pub instance_of : declared.Instance → List ℤ
instance_of i = take i.axes i.coordinates

abbrev pub has_instance : List ℤ → Bool
has_instance [] = false
has_instance (c ∷ cs) = true

-- a coordinate in 16.16 as 2.14; what 2.14 lacks is cut off, toward -1
abbrev pub f2dot14 : ℤ → ℤ
f2dot14 c = int_div_euclid c (pos 4)

-- worked values: the greatest, a half, -0.8, one part below 0, and three parts above
one : f2dot14 (pos 65536) ≡ pos 16384
one = refl

a_half : f2dot14 (pos 32768) ≡ pos 8192
a_half = refl

not_rounded_up : f2dot14 (negsuc 52428) ≡ negsuc 13107
not_rounded_up = refl

just_below_zero : f2dot14 (negsuc 0) ≡ negsuc 0
just_below_zero = refl

just_above_zero : f2dot14 (pos 3) ≡ pos 0
just_above_zero = refl
