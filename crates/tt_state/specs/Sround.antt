-- Apple TrueType Reference Manual, "Instruction Set" (SROUND, S45ROUND): one rule, by the period of a grid. Distances
-- are in 26.6 pixels; a grid period and any `fine` are in 2.14.
use Rattle.std.specs.Prelude.{◌≡◌, ℕ, ◌+◌, ◌-◌, ◌*◌, ◌/◌, ◌%◌, ◌<◌, ◌≤◌, ◌==◌, nat_le, true, false, if◌then◌else◌, ℤ, pos, negsuc, ◌+ℤ◌, ◌-ℤ◌, ◌*ℤ◌, ◌≤ℤ◌, int_lt, refl, List, [], ◌∷◌, map}
use Rattle.std.specs.Int.{int_div_euclid, int_rem_euclid}
use Rattle.tt_state.specs.declared.sround.GridPeriod.{GridPeriod}
use Rattle.tt_state.specs.declared.sround.GridPeriod.TheVariants as grid_period

-- the grid period of SROUND
abbrev pub a_pixel : ℕ
a_pixel = 16384

-- the grid period of S45ROUND: half the root of 2, cut (profile)
abbrev pub half_a_diagonal : ℕ
half_a_diagonal = 11585

abbrev pub length_of : GridPeriod → ℕ
length_of grid_period.Pixel = a_pixel
length_of grid_period.HalfDiagonal = half_a_diagonal

-- a state of SROUND or S45ROUND
pub record Super : Type 0 where
  pub period : ℕ
  pub phase : ℕ
  pub threshold : ℤ

-- the ranges of such a state
pub record IsSuper (period phase : ℕ) (threshold : ℤ) : Type 0 where
  pub some : 22 ≤ period
  pub few : period ≤ 128
  pub within : phase < period
  pub low : pos 0 ≤ℤ (threshold +ℤ pos period)
  pub high : threshold ≤ℤ pos (2 * period)

-- the greatest multiple of k that is at most n
abbrev pub cut_to : ℕ → ℤ → ℤ
cut_to k n = n -ℤ int_rem_euclid n (pos k)

-- bits 7 and 6 of the byte; the fourth code counts as the second (profile)
abbrev pub fine_period_of : ℕ → ℕ → ℕ
fine_period_of grid byte = if byte / 64 == 0 then grid / 2 else (if byte / 64 == 2 then 2 * grid else grid)

abbrev pub period_of : ℕ → ℕ
period_of fine = fine / 256

-- bits 5 and 4: quarters of the period
abbrev pub phase_of : ℕ → ℕ → ℕ
phase_of fine byte = fine * (byte / 16 % 4) / 4 / 256

-- bits 3 to 0: for 0, the period less one; for any other n, n - 4 eighths of the period, rounded down
abbrev pub threshold_of : ℕ → ℕ → ℤ
threshold_of fine byte =
    if byte % 16 == 0 then pos (period_of fine - 1)
    else int_div_euclid (pos fine *ℤ (pos (byte % 16) -ℤ pos 4)) (pos 2048)

-- the state set by a byte, with a grid period
abbrev pub super_of : ℕ → ℕ → Super
super_of grid byte =
    let fine = fine_period_of grid byte in
    record { period = period_of fine; phase = phase_of fine byte; threshold = threshold_of fine byte }

-- a rounded magnitude, or the phase if the result would be below 0
abbrev pub rounded_by : Super → ℤ → ℤ
rounded_by s m =
    let rounded = cut_to s.period ((m -ℤ pos s.phase) +ℤ s.threshold) +ℤ pos s.phase in
    if int_lt rounded (pos 0) then pos s.phase else rounded

-- worked values
a_byte : super_of a_pixel 0x59 ≡ record { period = 64; phase = 16; threshold = pos 40 }
a_byte = refl

ten : rounded_by (super_of a_pixel 0x59) (pos 10) ≡ pos 16
ten = refl

hundred : rounded_by (super_of a_pixel 0x59) (pos 100) ≡ pos 80
hundred = refl

no_threshold : super_of a_pixel 0xB0 ≡ record { period = 128; phase = 96; threshold = pos 127 }
no_threshold = refl

kept_back : super_of a_pixel 0xC1 ≡ record { period = 64; phase = 0; threshold = negsuc 23 }
kept_back = refl

below_the_phase : rounded_by (super_of a_pixel 0x71) (pos 0) ≡ pos 48
below_the_phase = refl

-- half the root of 2 is the root of a half
not_above_the_root : nat_le (2 * (half_a_diagonal * half_a_diagonal)) (a_pixel * a_pixel) ≡ true
not_above_the_root = refl

next_above_the_root : nat_le (2 * ((half_a_diagonal + 1) * (half_a_diagonal + 1))) (a_pixel * a_pixel) ≡ false
next_above_the_root = refl

-- half a period, no threshold, to the nearest, down, a quarter, three quarters, and kept back
abbrev bytes_at_45 : List ℕ
bytes_at_45 = 0x00 ∷ 0xB0 ∷ 0x48 ∷ 0x41 ∷ 0x58 ∷ 0x78 ∷ 0xC8 ∷ []

periods_at_45 : map (λ byte. (super_of half_a_diagonal byte).period) bytes_at_45
    ≡ 22 ∷ 90 ∷ 45 ∷ 45 ∷ 45 ∷ 45 ∷ 45 ∷ []
periods_at_45 = refl

phases_at_45 : map (λ byte. (super_of half_a_diagonal byte).phase) bytes_at_45
    ≡ 0 ∷ 67 ∷ 0 ∷ 0 ∷ 11 ∷ 33 ∷ 0 ∷ []
phases_at_45 = refl

thresholds_at_45 : map (λ byte. (super_of half_a_diagonal byte).threshold) bytes_at_45
    ≡ pos 21 ∷ pos 89 ∷ pos 22 ∷ negsuc 16 ∷ pos 22 ∷ pos 22 ∷ pos 22 ∷ []
thresholds_at_45 = refl
