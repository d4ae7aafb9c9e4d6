-- With the grid of a pixel nothing is cut.
use Rattle.std.proofs.Common.{◌≡◌, ℕ, ◌-◌, ◌*◌, ◌/◌, ◌%◌, ◌==◌, if◌then◌else◌, Bool, true, false, ℤ, pos, ◌-ℤ◌, ◌*ℤ◌, refl, arith}
use Rattle.std.proofs.lemmas.Int.{ints}
use Rattle.std.specs.Int.{int_div_euclid}
use Rattle.tt_state.specs.Sround.{Super}
use Rattle.tt_state.specs.Laws.{PixelsAreWhole}

-- the phase for a period of half a pixel, a pixel or two pixels
half_quarters : (k : ℕ) → 8192 * k / 4 / 256 ≡ 8 * k
half_quarters k = omega arith

quarters : (k : ℕ) → 16384 * k / 4 / 256 ≡ 16 * k
quarters k = omega arith

double_quarters : (k : ℕ) → 32768 * k / 4 / 256 ≡ 32 * k
double_quarters k = omega arith

-- the threshold for such a period
half_eighths : (d : ℤ) → int_div_euclid (pos 8192 *ℤ d) (pos 2048) ≡ pos 4 *ℤ d
half_eighths d = grind (arith, ints)

eighths : (d : ℤ) → int_div_euclid (pos 16384 *ℤ d) (pos 2048) ≡ pos 8 *ℤ d
eighths d = grind (arith, ints)

double_eighths : (d : ℤ) → int_div_euclid (pos 32768 *ℤ d) (pos 2048) ≡ pos 16 *ℤ d
double_eighths d = grind (arith, ints)

-- by the tests of the byte: whether bits 7 and 6 are 0, whether they are 2, and whether bits 3 to 0 are 0
by_tests : (zero two none : Bool) (k : ℕ) (d : ℤ) →
    let fine : ℕ = if zero then 8192 else (if two then 32768 else 16384) in
    let whole : ℕ = if zero then 32 else (if two then 128 else 64) in
    let state : Super = record {
      period = fine / 256;
      phase = fine * k / 4 / 256;
      threshold = if none then pos (fine / 256 - 1) else int_div_euclid (pos fine *ℤ d) (pos 2048);
    } in
    state ≡ record {
      period = whole;
      phase = whole / 4 * k;
      threshold = if none then pos (whole - 1) else pos (whole / 8) *ℤ d;
    }
by_tests true two true k d = rw (half_quarters k) refl
by_tests true two false k d = rw (half_quarters k, half_eighths d) refl
by_tests false true true k d = rw (double_quarters k) refl
by_tests false true false k d = rw (double_quarters k, double_eighths d) refl
by_tests false false true k d = rw (quarters k) refl
by_tests false false false k d = rw (quarters k, eighths d) refl

pub whole_states : PixelsAreWhole
whole_states byte =
    by_tests (byte / 64 == 0) (byte / 64 == 2) (byte % 16 == 0) (byte / 16 % 4) (pos (byte % 16) -ℤ pos 4)
