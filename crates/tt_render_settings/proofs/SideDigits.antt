-- The digits of a side, one at a time.
use Rattle.std.proofs.Common.{◌≡◌, ℕ, ◌+◌, ◌<◌, ◌≤◌, List, length, drop, slice_index, Some}
use Rattle.std.proofs.lemmas.List.{at_drop_all, at_drop_more}
use Rattle.tt_render_settings.specs.Sides.{digit_value, with_digit, with_digits}

-- one more digit
pub digits_more : (n : ℕ) (ds : List ℕ) (i : ℕ) → i < length ds
    → with_digits (Some n) (drop i ds) ≡ with_digits (with_digit n (digit_value (slice_index ds i))) (drop (i + 1) ds)
digits_more n ds i below = at_drop_more (with_digits (Some n)) ds i 0 below

pub digits_all : (n : ℕ) (ds : List ℕ) (i : ℕ) → length ds ≤ i → with_digits (Some n) (drop i ds) ≡ Some n
digits_all n ds i past = at_drop_all (with_digits (Some n)) ds i past
