-- The ends of up to eight chords, which need no rounding.
use Rattle.std.proofs.Common.{◌≡◌, refl, ℕ, zero, suc, ◌+◌, ◌*◌, ◌/◌, ◌^◌, ◌<◌, ◌≤◌, true, false, nat_eq, ℤ, pos, ◌+ℤ◌, ◌-ℤ◌, ◌*ℤ◌, unsigned_abs, arith}
use Rattle.std.proofs.lemmas.Bool.Decides.{nat_tests}
use Rattle.std.proofs.lemmas.Int.{ints}
use Rattle.tt_core.specs.Numbers.{nearest_quotient}
use Rattle.tt_arc.specs.declared.quadratic.Coordinates.{Coordinates}
use Rattle.tt_arc.specs.declared.quadratic.Differences.{Differences}
use Rattle.tt_arc.specs.declared.quadratic.EdgeEnd.{EdgeEnd}
use Rattle.tt_arc.specs.declared.quadratic.Quadratic.{Quadratic}
use Rattle.tt_arc.specs.declared.rule.ChordRule.{ChordRule}
use Rattle.tt_arc.specs.Chords.{AreDifferences, CoordinatesFit, along_x, along_y, chord_count, chord_end, is_part, signed_bend, sixteenfold}
use Rattle.tt_arc.proofs.Places.{begun, end_is, near, next_ok, value_within}

past_eight : (n : ℕ) → 8 < n → is_part n ≡ true → ⊥
past_eight n past is =
    let a : nat_eq n 1 ≡ false = grind (arith, nat_tests) in
    let b : nat_eq n 2 ≡ false = grind (arith, nat_tests) in
    let c : nat_eq n 4 ≡ false = grind (arith, nat_tests) in
    let d : nat_eq n 8 ≡ false = grind (arith, nat_tests) in
    let none : false ≡ true = rw (a, b, c, d) at is in absurd cc

-- a statement about 1, 2, 4 and 8 holds for each part
pub by_part : (P : ℕ → Type 0) → P 1 → P 2 → P 4 → P 8 → (n : ℕ) → is_part n ≡ true → P n
by_part P a b c d zero is = absurd cc
by_part P a b c d (suc zero) is = a
by_part P a b c d (suc (suc zero)) is = b
by_part P a b c d (suc (suc (suc zero))) is = absurd cc
by_part P a b c d (suc (suc (suc (suc zero)))) is = c
by_part P a b c d (suc (suc (suc (suc (suc zero))))) is = absurd cc
by_part P a b c d (suc (suc (suc (suc (suc (suc zero)))))) is = absurd cc
by_part P a b c d (suc (suc (suc (suc (suc (suc (suc zero))))))) is = absurd cc
by_part P a b c d (suc (suc (suc (suc (suc (suc (suc (suc zero)))))))) is = d
by_part P a b c d (suc (suc (suc (suc (suc (suc (suc (suc (suc n))))))))) is = absurd (past_eight (suc (suc (suc (suc (suc (suc (suc (suc (suc n))))))))) (omega arith) is)

pub part_of_count : (n : ℕ) → is_part n ≡ true → is_part (8 / n) ≡ true
part_of_count = by_part (λ n. is_part (8 / n) ≡ true) refl refl refl refl

pub step_of_count : (n : ℕ) → is_part n ≡ true → 4 * (8 / n) ≡ 32 / n
step_of_count = by_part (λ n. 4 * (8 / n) ≡ 32 / n) refl refl refl refl

pub part_few : (n : ℕ) → is_part n ≡ true → n ≤ 8
part_few = by_part (λ n. n ≤ 8) (omega arith) (omega arith) (omega arith) (omega arith)

pub part_some : (n : ℕ) → is_part n ≡ true → 0 < n
part_some = by_part (λ n. 0 < n) (omega arith) (omega arith) (omega arith) (omega arith)

-- the differences at the start
first_by : (part : ℕ) → is_part part ≡ true → (slope bend : ℤ)
    → pos 16 *ℤ (pos part *ℤ (pos 16 *ℤ slope +ℤ pos part *ℤ bend))
    ≡ pos (4 * part) *ℤ (pos 64 *ℤ slope +ℤ pos (4 * part) *ℤ bend)
first_by = by_part (λ part. (slope bend : ℤ) → pos 16 *ℤ (pos part *ℤ (pos 16 *ℤ slope +ℤ pos part *ℤ bend))
    ≡ pos (4 * part) *ℤ (pos 64 *ℤ slope +ℤ pos (4 * part) *ℤ bend))
    (λ s b. omega (arith, ints)) (λ s b. omega (arith, ints)) (λ s b. omega (arith, ints)) (λ s b. omega (arith, ints))

second_by : (part : ℕ) → is_part part ≡ true → (bend : ℤ) → pos 16 *ℤ (pos 2 *ℤ (pos part *ℤ (pos part *ℤ bend)))
    ≡ pos 2 *ℤ (pos (4 * part) *ℤ (pos (4 * part) *ℤ bend))
second_by = by_part (λ part. (bend : ℤ) → pos 16 *ℤ (pos 2 *ℤ (pos part *ℤ (pos part *ℤ bend)))
    ≡ pos 2 *ℤ (pos (4 * part) *ℤ (pos (4 * part) *ℤ bend)))
    (λ b. omega (arith, ints)) (λ b. omega (arith, ints)) (λ b. omega (arith, ints)) (λ b. omega (arith, ints))

pub exact_start : (b : Coordinates) (part : ℕ) (s : Differences) → CoordinatesFit b → is_part part ≡ true
    → s.value ≡ pos 64 *ℤ b.from
    → s.first ≡ pos part *ℤ (pos 16 *ℤ (pos 2 *ℤ b.control -ℤ b.from) +ℤ pos part *ℤ signed_bend b)
    → s.second ≡ pos 2 *ℤ (pos part *ℤ (pos part *ℤ signed_bend b)) → AreDifferences b (4 * part) 0 (sixteenfold s)
exact_start b part s fits is value first second =
    begun b (4 * part) (sixteenfold s) fits (omega (arith, part_few part is)) (rw value (omega (arith, ints)))
    (rw first (first_by part is (pos 2 *ℤ b.control -ℤ b.from) (signed_bend b)))
    (rw second (second_by part is (signed_bend b)))

-- one chord further
pub exact_next : (r : ChordRule) (c : Quadratic) (k : ℕ) (b : Coordinates) (s t : Differences) → CoordinatesFit b
    → k < chord_count r c → AreDifferences b (32 / chord_count r c) k (sixteenfold s) → t.value ≡ s.value +ℤ s.first
    → t.first ≡ s.first +ℤ s.second → t.second ≡ s.second
    → AreDifferences b (32 / chord_count r c) (k + 1) (sixteenfold t)
exact_next r c k b s t fits below is value first second =
    next_ok r c k b (sixteenfold s) (sixteenfold t) fits below is (omega (arith, ints, value)) (omega (arith, ints, first))
    (omega (arith, ints, second))

-- the end of a chord
exact_place : (v : ℤ) → nearest_quotient (pos 64 *ℤ (pos 16 *ℤ v)) (pos 1024) ≡ v
exact_place v =
    let is = near (pos 64 *ℤ (pos 16 *ℤ v)) 1024 (omega arith) in
    omega (arith, ints, is.low, is.high)

pub exact_end : (r : ChordRule) (c : Quadratic) (k : ℕ) (x y : Differences) (s : EdgeEnd) → k ≤ chord_count r c
    → AreDifferences (along_x c) (32 / chord_count r c) k (sixteenfold x)
    → AreDifferences (along_y c) (32 / chord_count r c) k (sixteenfold y) → s ≡ record { x = x.value; y = y.value }
    → s ≡ chord_end (chord_count r c) c k
exact_end r c k x y s le is_x is_y is =
    end_is r c k (sixteenfold x) (sixteenfold y) s le is_x is_y (rw (is, exact_place x.value, exact_place y.value) refl)

small : (v : ℤ) → unsigned_abs (pos 16 *ℤ v) + 2 ^ 11 ≤ 2 ^ 34 → unsigned_abs v < 2 ^ 30
small v least = omega (arith, ints, least)

pub value_small : (b : Coordinates) (h k : ℕ) (s : Differences) → CoordinatesFit b → h * k ≤ 32
    → AreDifferences b h k (sixteenfold s) → unsigned_abs s.value < 2 ^ 30
value_small b h k s fits le is = small s.value (value_within b h k (sixteenfold s) fits le is)

pub sixteen_less : (v : ℤ) (most : ℕ) → unsigned_abs (pos 16 *ℤ v) < most → unsigned_abs v < most
sixteen_less v most less = omega (arith, ints, less)

pub sixteen_within : (v : ℤ) (most : ℕ) → unsigned_abs (pos 16 *ℤ v) ≤ most → unsigned_abs v ≤ most
sixteen_within v most within = omega (arith, ints, within)
