-- The search through ranges, one range at a time.
use Rattle.std.proofs.Common.{◌≡◌, refl, ℕ, ◌+◌, ◌<◌, List, ◌∷◌, length, drop, drop-cons, get_or, add-one}
use Rattle.std.specs.Prelude.{◌||◌}
use Rattle.tt_rows.specs.Classes.{in_range, in_ranges}

pub one_range : (rs : List (ℕ × ℕ)) (i c : ℕ) → i < length rs
    → in_ranges (drop i rs) c ≡ (in_range c (get_or rs i (0, 0)) || in_ranges (drop (i + 1) rs) c)
one_range rs i c below =
    let whole : drop i rs ≡ get_or rs i (0, 0) ∷ drop (i + 1) rs = rw add-one (drop-cons rs i (0, 0) below) in
    rw whole refl
