-- OpenType, "fvar: Font Variations Table", "VariationAxisRecord"; "OpenType Font Variations Overview", "Coordinate Scales
-- and Normalization". A coordinate is not rounded to 2.14 (profile).
use Rattle.std.specs.Prelude.{◌≡◌, refl, ℕ, ◌+◌, ℤ, pos, negsuc, neg_ℤ, int_lt, int_le, ◌&&◌, if◌then◌else◌, List, [], ◌∷◌, map, codes, slice_range}
use Rattle.tt_core.specs.Numbers.{signed32, unsigned_at}
use Rattle.tt_axes.specs.declared.axis.VariationAxis.{VariationAxis}
use Rattle.tt_axes.specs.Fvar.{axis_place, weights}
use Rattle.tt_axes.specs.Shares.{distance, portion, whole_share}

-- a signed number of 16.16
abbrev pub fixed_at : List ℕ → ℕ → ℤ
fixed_at bytes at = signed32 (unsigned_at bytes at 4)

-- an axis whose values do not stand in order has its default alone (profile)
abbrev pub in_order : VariationAxis → VariationAxis
in_order a =
    if int_le a.least a.default && int_le a.default a.greatest then a
    else record a { least = a.default; greatest = a.default }

-- the tag of axis i
abbrev pub axis_tag : List ℕ → ℕ → List ℕ
axis_tag fvar i = slice_range fvar (axis_place fvar i) (axis_place fvar i + 4)

-- the record of axis i: its tag, its least value, its default, its greatest value, flags and a name
abbrev pub axis_record : List ℕ → ℕ → VariationAxis
axis_record fvar i = record {
  tag = axis_tag fvar i;
  least = fixed_at fvar (axis_place fvar i + 4);
  default = fixed_at fvar (axis_place fvar i + 8);
  greatest = fixed_at fvar (axis_place fvar i + 12);
  flags = unsigned_at fvar (axis_place fvar i + 16) 2;
  name = unsigned_at fvar (axis_place fvar i + 18) 2;
}

unfoldable pub axis_of : List ℕ → ℕ → VariationAxis
axis_of fvar i = in_order (axis_record fvar i)

-- the coordinate of a place on an axis: 0 at the default, 1 at the greatest value and past it, -1 at the least value and
-- below it
unfoldable pub coordinate_on : VariationAxis → ℤ → ℤ
coordinate_on a v =
    if int_lt a.default v then
    (if int_le a.greatest v then pos 65536 else pos (portion whole_share (distance v a.default) (distance a.greatest a.default)))
    else if int_lt v a.default then
    (if int_le v a.least then negsuc 65535 else neg_ℤ (pos (portion whole_share (distance v a.default) (distance a.least a.default))))
    else pos 0

-- worked values
abbrev axis_from : ℤ → ℤ → ℤ → VariationAxis
axis_from least default greatest = record {
  tag = codes "wght";
  least = least;
  default = default;
  greatest = greatest;
  flags = 0;
  name = 256;
}

the_weight : axis_of weights 0 ≡ axis_from (pos 6553600) (pos 26214400) (pos 58982400)
unfolding axis_of
the_weight = refl

-- 0, 100, 399.99999, 400, 400.00001, 525.5, 650, 900 and 1000
of_weights : map (coordinate_on (axis_from (pos 6553600) (pos 26214400) (pos 58982400)))
    (pos 0 ∷ pos 6553600 ∷ pos 26214399 ∷ pos 26214400 ∷ pos 26214401 ∷ pos 34439168 ∷ pos 42598400 ∷ pos 58982400 ∷ pos 65536000 ∷ [])
    ≡ negsuc 65535 ∷ negsuc 65535 ∷ pos 0 ∷ pos 0 ∷ pos 0 ∷ pos 16450 ∷ pos 32768 ∷ pos 65536 ∷ pos 65536 ∷ []
unfolding coordinate_on
of_weights = refl

-- halves are rounded away from 0
of_halves : map (coordinate_on (axis_from (negsuc 131071) (pos 0) (pos 131072))) (pos 1 ∷ negsuc 0 ∷ pos 3 ∷ negsuc 2 ∷ [])
    ≡ pos 1 ∷ negsuc 0 ∷ pos 2 ∷ negsuc 1 ∷ []
unfolding coordinate_on
of_halves = refl

a_third : coordinate_on (axis_from (pos 0) (pos 0) (pos 196608)) (pos 65536) ≡ pos 21845
unfolding coordinate_on
a_third = refl

-- a least value above the default: the axis stands still, and each place above the default is an end
a_least_value_above_the_default : map (λ v. coordinate_on (in_order (axis_from (pos 3) (pos 2) (pos 4))) v) (pos 1 ∷ pos 2 ∷ pos 3 ∷ [])
    ≡ negsuc 65535 ∷ pos 0 ∷ pos 65536 ∷ []
unfolding coordinate_on
a_least_value_above_the_default = refl
