-- OpenType, "OpenType Font Variations Overview", "Coordinate Scales and Normalization": where all coordinates are 0, the
-- instance is the default's.
use Rattle.std.specs.Prelude.{ℕ, ℤ, pos, Bool, List, unwrap_or, slice_get}
use Rattle.std.specs.List.{list_all}
use Rattle.std.specs.Ordering.{int_eq}

abbrev pub are_zero : List ℤ → Bool
are_zero coordinates = list_all (λ c. int_eq c (pos 0)) coordinates

-- the coordinate of axis i
abbrev pub coordinate_at : List ℤ → ℕ → ℤ
coordinate_at coordinates i = unwrap_or (slice_get coordinates i) (pos 0)
