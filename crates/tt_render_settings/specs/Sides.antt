-- No part of the standard: the words of `--box` (profile). Two numbers, each of at least one digit and below 2^32, stand
-- with `x` between them.
use Rattle.std.specs.Prelude.{◌≡◌, refl, ℕ, ◌+◌, ◌-◌, ◌*◌, ◌&&◌, nat_lt, nat_le, if◌then◌else◌, List, [], ◌∷◌, length, map, codes, Option, Some, None}
use Rattle.tt_core.specs.Cutting.{after, before}
use Rattle.tt_render_settings.specs.declared.sides.BoxSides.{BoxSides}

abbrev pub digit_value : ℕ → Option ℕ
digit_value c = if nat_le 48 c && nat_le c 57 then Some (c - 48) else None

-- a number with one more digit, if that is below 2^32
abbrev pub with_digit : ℕ → Option ℕ → Option ℕ
with_digit n None = None
with_digit n (Some d) = if nat_lt (10 * n + d) 4294967296 then Some (10 * n + d) else None

abbrev pub with_digits : Option ℕ → List ℕ → Option ℕ
with_digits None xs = None
with_digits (Some n) [] = Some n
with_digits (Some n) (x ∷ xs) = with_digits (with_digit n (digit_value x)) xs

-- the number of some digits
abbrev pub side_of : List ℕ → Option ℕ
side_of ds = if nat_lt (length ds) 1 then None else with_digits (Some 0) ds

-- both sides, where both are numbers
abbrev pub side_pair : Option ℕ → Option ℕ → Option BoxSides
side_pair None h = None
side_pair (Some w) None = None
side_pair (Some w) (Some h) = Some (record { width = w; height = h })

abbrev pub sides_by : List ℕ → Option (List ℕ) → Option BoxSides
sides_by w None = None
sides_by w (Some h) = side_pair (side_of w) (side_of h)

-- the sides that some words name
abbrev pub box_words : List ℕ → Option BoxSides
box_words t = sides_by (before 120 t) (after 120 t)

-- worked values
its_sides : map box_words (codes "40x30" ∷ codes "0x5" ∷ codes "007x1" ∷ codes "4294967295x1" ∷ [])
    ≡ Some (record { width = 40; height = 30 }) ∷ Some (record { width = 0; height = 5 })
    ∷ Some (record { width = 7; height = 1 }) ∷ Some (record { width = 4294967295; height = 1 }) ∷ []
its_sides = refl

no_sides : map box_words ([] ∷ codes "40" ∷ codes "x" ∷ codes "40x" ∷ codes "x40" ∷ codes "4x4x4" ∷ codes "4X4" ∷ [])
    ≡ None ∷ None ∷ None ∷ None ∷ None ∷ None ∷ None ∷ []
no_sides = refl

no_numbers : map box_words (codes "+4x4" ∷ codes "4 x4" ∷ codes "4x-4" ∷ codes "4294967296x1" ∷ [])
    ≡ None ∷ None ∷ None ∷ None ∷ []
no_numbers = refl
