-- The places of a quadratic at the ends of its chords, rounded to 1/8192 pixel, and the code's sums for them.
use Rattle.std.proofs.Common.{◌≡◌, ◌∙◌, sym, refl, ap, ℕ, ◌+◌, ◌-◌, ◌*◌, ◌/◌, ◌^◌, ◌<◌, ◌≤◌, ℤ, pos, negsuc, ◌+ℤ◌, ◌-ℤ◌, ◌*ℤ◌, unsigned_abs, [], ◌∷◌, ◌++◌, arith, add-one, div-add-mod', mod-lt, mul-le-mul_left}
use Rattle.std.specs.Prelude.{◌≤ℤ◌, ◌<ℤ◌}
use Rattle.std.specs.Int.{int_div_euclid}
use Rattle.std.proofs.lemmas.Int.{ints}
use Rattle.tt_core.specs.Numbers.{nearest_quotient}
use Rattle.tt_core.specs.Products.{mul_assoc_z, mul_diff, mul_sum}
use Rattle.tt_arc.specs.declared.quadratic.Coordinates.{Coordinates}
use Rattle.tt_arc.specs.declared.quadratic.Differences.{Differences}
use Rattle.tt_arc.specs.declared.quadratic.EdgeEnd.{EdgeEnd}
use Rattle.tt_arc.specs.declared.quadratic.Quadratic.{Quadratic}
use Rattle.tt_arc.specs.declared.rule.ChordRule.{ChordRule}
use Rattle.tt_arc.specs.Chords.{AreDifferences, CoordinatesFit, QuadraticFits, along_x, along_y, chord_count, chord_end, chord_place, edge_between, first_chords, signed_bend, weighed}
use Rattle.tt_arc.proofs.Counts.{by_count, divides, few_chords}
use Rattle.tt_arc.proofs.Weights.{bend_within, bent_by, part_within, same_times, second_of, weighed_finer, weighed_within}

-- the floor of a quotient by a positive divisor
record IsFloor (n : ℤ) (d : ℕ) (q : ℤ) : Type 0 where
  low : (pos d *ℤ q) ≤ℤ n
  high : n <ℤ (pos d *ℤ q +ℤ pos d)

floor : (n : ℤ) (d : ℕ) → 0 < d → IsFloor n d (int_div_euclid n (pos d))
floor (pos a) d some =
    let parts = div-add-mod' a d in
    let rest = mod-lt a some in
    record { low = omega (arith, ints, parts, rest); high = omega (arith, ints, parts, rest) }
floor (negsuc a) d some =
    let parts = div-add-mod' a d in
    let rest = mod-lt a some in
    record { low = omega (arith, ints, parts, rest); high = omega (arith, ints, parts, rest) }

-- the nearest whole number
pub record IsNearest (n : ℤ) (d : ℕ) (q : ℤ) : Type 0 where
  pub low : (pos (2 * d) *ℤ q) ≤ℤ (pos 2 *ℤ n +ℤ pos d)
  pub high : (pos 2 *ℤ n +ℤ pos d) <ℤ (pos (2 * d) *ℤ q +ℤ pos (2 * d))

pub near : (n : ℤ) (d : ℕ) → 0 < d → IsNearest n d (nearest_quotient n (pos d))
near n d some =
    let is = floor (pos 2 *ℤ n +ℤ pos d) (2 * d) (omega (arith, some)) in
    record { low = is.low; high = is.high }

-- the ends of n chords are among those of 32, n by n
nested_1 : (w : ℤ) → nearest_quotient (pos 64 *ℤ w) (pos 1) ≡ nearest_quotient (pos 64 *ℤ (pos 1024 *ℤ w)) (pos 1024)
nested_1 w =
    let a = near (pos 64 *ℤ w) 1 (omega arith) in
    let b = near (pos 64 *ℤ (pos 1024 *ℤ w)) 1024 (omega arith) in
    omega (arith, ints, a.low, a.high, b.low, b.high)

nested_2 : (w : ℤ) → nearest_quotient (pos 64 *ℤ w) (pos 4) ≡ nearest_quotient (pos 64 *ℤ (pos 256 *ℤ w)) (pos 1024)
nested_2 w =
    let a = near (pos 64 *ℤ w) 4 (omega arith) in
    let b = near (pos 64 *ℤ (pos 256 *ℤ w)) 1024 (omega arith) in
    omega (arith, ints, a.low, a.high, b.low, b.high)

nested_4 : (w : ℤ) → nearest_quotient (pos 64 *ℤ w) (pos 16) ≡ nearest_quotient (pos 64 *ℤ (pos 64 *ℤ w)) (pos 1024)
nested_4 w =
    let a = near (pos 64 *ℤ w) 16 (omega arith) in
    let b = near (pos 64 *ℤ (pos 64 *ℤ w)) 1024 (omega arith) in
    omega (arith, ints, a.low, a.high, b.low, b.high)

nested_8 : (w : ℤ) → nearest_quotient (pos 64 *ℤ w) (pos 64) ≡ nearest_quotient (pos 64 *ℤ (pos 16 *ℤ w)) (pos 1024)
nested_8 w =
    let a = near (pos 64 *ℤ w) 64 (omega arith) in
    let b = near (pos 64 *ℤ (pos 16 *ℤ w)) 1024 (omega arith) in
    omega (arith, ints, a.low, a.high, b.low, b.high)

nested_16 : (w : ℤ) → nearest_quotient (pos 64 *ℤ w) (pos 256) ≡ nearest_quotient (pos 64 *ℤ (pos 4 *ℤ w)) (pos 1024)
nested_16 w =
    let a = near (pos 64 *ℤ w) 256 (omega arith) in
    let b = near (pos 64 *ℤ (pos 4 *ℤ w)) 1024 (omega arith) in
    omega (arith, ints, a.low, a.high, b.low, b.high)

nested_32 : (w : ℤ) → nearest_quotient (pos 64 *ℤ w) (pos 1024) ≡ nearest_quotient (pos 64 *ℤ (pos 1 *ℤ w)) (pos 1024)
nested_32 w = let same : pos 1 *ℤ w ≡ w = omega (arith, ints) in rw same refl

-- a place of n chords as one of 32 chords
abbrev IsAmong : ℕ → Type 0
IsAmong n = (k : ℕ) (b : Coordinates) → k ≤ n
    → chord_place n k b ≡ nearest_quotient (pos 64 *ℤ weighed 32 (32 / n * k) b) (pos 1024)

among : (r : ChordRule) (c : Quadratic) → IsAmong (chord_count r c)
among = by_count IsAmong
    (λ k b le. nested_1 (weighed 1 k b) ∙ ap (λ w. nearest_quotient (pos 64 *ℤ w) (pos 1024)) (sym (weighed_finer 32 1 k b le)))
    (λ k b le. nested_2 (weighed 2 k b) ∙ ap (λ w. nearest_quotient (pos 64 *ℤ w) (pos 1024)) (sym (weighed_finer 16 2 k b le)))
    (λ k b le. nested_4 (weighed 4 k b) ∙ ap (λ w. nearest_quotient (pos 64 *ℤ w) (pos 1024)) (sym (weighed_finer 8 4 k b le)))
    (λ k b le. nested_8 (weighed 8 k b) ∙ ap (λ w. nearest_quotient (pos 64 *ℤ w) (pos 1024)) (sym (weighed_finer 4 8 k b le)))
    (λ k b le. nested_16 (weighed 16 k b) ∙ ap (λ w. nearest_quotient (pos 64 *ℤ w) (pos 1024)) (sym (weighed_finer 2 16 k b le)))
    (λ k b le. nested_32 (weighed 32 k b) ∙ ap (λ w. nearest_quotient (pos 64 *ℤ w) (pos 1024)) (sym (weighed_finer 1 32 k b le)))

pub end_among : (r : ChordRule) (c : Quadratic) (k : ℕ) → k ≤ chord_count r c → chord_end (chord_count r c) c k ≡ record {
  x = nearest_quotient (pos 64 *ℤ weighed 32 (32 / chord_count r c * k) (along_x c)) (pos 1024);
  y = nearest_quotient (pos 64 *ℤ weighed 32 (32 / chord_count r c * k) (along_y c)) (pos 1024);
}
end_among r c k le = rw (among r c k (along_x c) le, among r c k (along_y c) le) refl

-- the code's sums
square_less : (j h : ℕ) → 32 ≡ j + h → j * j + 64 * h ≡ 1024 + h * h
square_less j h is = omega (arith, ap (λ n. n * n) is, ap (λ n. n * h) is)

middle_by : (j h : ℕ) → 32 ≡ j + h → 4 * h * j + 4 * (h * h) ≡ 128 * h
middle_by j h is = omega (arith, ap (λ n. n * h) is)

started_by : (j h : ℕ) (x y z : ℤ) → 32 ≡ j + h
    → pos 1024 *ℤ x +ℤ pos h *ℤ (pos 64 *ℤ (pos 2 *ℤ y -ℤ x) +ℤ pos h *ℤ ((x -ℤ pos 4 *ℤ y) +ℤ z))
    ≡ (pos (j * j) *ℤ x +ℤ pos (4 * h * j) *ℤ y) +ℤ pos (h * h) *ℤ z
started_by j h x y z is =
    let out = mul_sum (pos h) (pos 64 *ℤ (pos 2 *ℤ y -ℤ x)) (pos h *ℤ ((x -ℤ pos 4 *ℤ y) +ℤ z)) in
    let square = mul_assoc_z (pos h) (pos h) ((x -ℤ pos 4 *ℤ y) +ℤ z) in
    let bent = bent_by (h * h) x y z in
    let line : pos h *ℤ (pos 64 *ℤ (pos 2 *ℤ y -ℤ x)) ≡ pos (h * 128) *ℤ y -ℤ pos (h * 64) *ℤ x =
    let a = mul_diff (pos h) (pos 128 *ℤ y) (pos 64 *ℤ x) in
    let b = mul_assoc_z (pos h) (pos 128) y in
    let c = mul_assoc_z (pos h) (pos 64) x in
    let same : pos 64 *ℤ (pos 2 *ℤ y -ℤ x) ≡ pos 128 *ℤ y -ℤ pos 64 *ℤ x = omega (arith, ints) in
    rw same (omega (arith, ints, a, b, c)) in
    let first = same_times (j * j + 64 * h) (1024 + h * h) x (square_less j h is) in
    let middle = same_times (4 * h * j + 4 * (h * h)) (128 * h) y (middle_by j h is) in
    omega (arith, ints, out, square, bent, line, first, middle)

started : (h : ℕ) (b : Coordinates) → h ≤ 32
    → pos 1024 *ℤ b.from +ℤ pos h *ℤ (pos 64 *ℤ (pos 2 *ℤ b.control -ℤ b.from) +ℤ pos h *ℤ signed_bend b) ≡ weighed 32 h b
started h b le = started_by (32 - h) h b.from b.control b.to (omega (arith, le))

twice : (h : ℕ) (d : ℤ) → pos 2 *ℤ (pos h *ℤ (pos h *ℤ d)) ≡ pos (2 * (h * h)) *ℤ d
twice h d =
    let square = mul_assoc_z (pos h) (pos h) d in
    let two = mul_assoc_z (pos 2) (pos (h * h)) d in
    omega (arith, ints, square, two)

second_within : (b : Coordinates) (h : ℕ) → CoordinatesFit b → h ≤ 32 → unsigned_abs (pos (2 * (h * h)) *ℤ signed_bend b) ≤ 2 ^ 37
second_within b h fits le =
    let one = part_within h (signed_bend b) (2 ^ 26) le (bend_within b fits) in
    let two = part_within h (pos h *ℤ signed_bend b) (2 ^ 31) le (omega (arith, one)) in
    let is = twice h (signed_bend b) in
    rw (← is) (omega (arith, ints, two))

summed : (w0 w1 w2 bent value first : ℤ) → value ≡ w0 → value +ℤ first ≡ w1 → w2 +ℤ w0 ≡ pos 2 *ℤ w1 +ℤ bent
    → (value +ℤ first) +ℤ (first +ℤ bent) ≡ w2
summed w0 w1 w2 bent value first is_value is_end is = omega (arith, ints, is_value, is_end, is)

grown : (a b : ℤ) (k : ℕ) → unsigned_abs a ≤ 2 ^ 37 + 2 ^ 37 * k → unsigned_abs b ≤ 2 ^ 37
    → unsigned_abs (a +ℤ b) ≤ 2 ^ 37 + 2 ^ 37 * (k + 1)
grown a b k old more = omega (arith, ints, old, more)

pub begun : (b : Coordinates) (h : ℕ) (s : Differences) → CoordinatesFit b → h ≤ 32 → s.value ≡ pos 1024 *ℤ b.from
    → s.first ≡ pos h *ℤ (pos 64 *ℤ (pos 2 *ℤ b.control -ℤ b.from) +ℤ pos h *ℤ signed_bend b)
    → s.second ≡ pos 2 *ℤ (pos h *ℤ (pos h *ℤ signed_bend b)) → AreDifferences b h 0 s
begun b h s fits le is_value is_first is_second =
    let bent = bend_within b fits in
    let part = part_within h (signed_bend b) (2 ^ 26) le bent in
    let slope : unsigned_abs (pos 64 *ℤ (pos 2 *ℤ b.control -ℤ b.from)) ≤ 2 ^ 31 =
    let f = fits.from in let c = fits.control in omega (arith, ints) in
    let sum : unsigned_abs (pos 64 *ℤ (pos 2 *ℤ b.control -ℤ b.from) +ℤ pos h *ℤ signed_bend b) ≤ 2 ^ 32 =
    omega (arith, ints, part, slope) in
    let all = part_within h (pos 64 *ℤ (pos 2 *ℤ b.control -ℤ b.from) +ℤ pos h *ℤ signed_bend b) (2 ^ 32) le sum in
    let none : h * 0 ≡ 0 = omega arith in
    let one : h * (0 + 1) ≡ h = omega arith in record {
      value = rw (is_value, none) (omega (arith, ints));
      first = λ within. rw (is_value, is_first, one) (started h b le);
      second = rw is_second (twice h (signed_bend b));
      small = rw is_first (omega (arith, all));
    }

pub one_on : (b : Coordinates) (h k : ℕ) (s t : Differences) → CoordinatesFit b → h * (k + 1) ≤ 32 → h ≤ 32
    → AreDifferences b h k s → t.value ≡ s.value +ℤ s.first → t.first ≡ s.first +ℤ s.second → t.second ≡ s.second
    → AreDifferences b h (k + 1) t
one_on b h k s t fits within le is value first second =
    let end = is.first within in
    let was = is.value in
    let bent = is.second in
    let little = second_within b h fits le in record {
      value = rw value end;
      first = λ less.
          let next : h * ((k + 1) + 1) ≡ h * k + h + h = omega arith in
          let here : h * (k + 1) ≡ h * k + h = omega arith in
          let room : h * k + h + h ≤ 32 = rw next at less in
          let on = second_of (32 - (h * k + h + h)) (h * k) h b (omega (arith, room)) in
          let end_here : s.value +ℤ s.first ≡ weighed 32 (h * k + h) b = rw here at end in
          rw (next, value, first, bent) (summed (weighed 32 (h * k) b) (weighed 32 (h * k + h) b) (weighed 32 (h * k + h + h) b)
          (pos (2 * (h * h)) *ℤ signed_bend b) s.value s.first was end_here on);
      second = rw second bent;
      small = let old = is.small in let more : unsigned_abs s.second ≤ 2 ^ 37 = rw bent little in rw first (grown s.first s.second k old more);
    }

pub value_within : (b : Coordinates) (h k : ℕ) (s : Differences) → CoordinatesFit b → h * k ≤ 32 → AreDifferences b h k s
    → unsigned_abs s.value + 2 ^ 11 ≤ 2 ^ 34
value_within b h k s fits le is = rw is.value (weighed_within (h * k) b fits le)

-- in the code's loop
pub room : (r : ChordRule) (c : Quadratic) (k : ℕ) → k ≤ chord_count r c → 32 / chord_count r c * k ≤ 32
room r c k le = omega (arith, divides r c, mul-le-mul_left (32 / chord_count r c) le)

pub step_few : (r : ChordRule) (c : Quadratic) → 32 / chord_count r c ≤ 32
step_few = by_count (λ n. 32 / n ≤ 32) (omega arith) (omega arith) (omega arith) (omega arith) (omega arith) (omega arith)

pub value_ok : (r : ChordRule) (c : Quadratic) (k : ℕ) (b : Coordinates) (s : Differences) → CoordinatesFit b → k < chord_count r c
    → AreDifferences b (32 / chord_count r c) k s → unsigned_abs s.value < 2 ^ 34
value_ok r c k b s fits below is =
    let least = value_within b (32 / chord_count r c) k s fits (room r c k (omega (arith, below))) is in omega (arith, least)

pub first_ok : (r : ChordRule) (c : Quadratic) (k : ℕ) (b : Coordinates) (s : Differences) → k < chord_count r c
    → AreDifferences b (32 / chord_count r c) k s → unsigned_abs s.first < 2 ^ 43
first_ok r c k b s below is = let few = few_chords r c in let small = is.small in omega (arith, below, few, small)

pub second_ok : (r : ChordRule) (c : Quadratic) (k : ℕ) (b : Coordinates) (s : Differences) → CoordinatesFit b
    → AreDifferences b (32 / chord_count r c) k s → unsigned_abs s.second ≤ 2 ^ 37
second_ok r c k b s fits is = rw is.second (second_within b (32 / chord_count r c) fits (step_few r c))

pub next_ok : (r : ChordRule) (c : Quadratic) (k : ℕ) (b : Coordinates) (s t : Differences) → CoordinatesFit b → k < chord_count r c
    → AreDifferences b (32 / chord_count r c) k s → t.value ≡ s.value +ℤ s.first → t.first ≡ s.first +ℤ s.second → t.second ≡ s.second
    → AreDifferences b (32 / chord_count r c) (k + 1) t
next_ok r c k b s t fits below is value first second =
    one_on b (32 / chord_count r c) k s t fits (room r c (k + 1) (omega (arith, below))) (step_few r c) is value first second

pub coordinates_x : (c : Quadratic) → QuadraticFits c → CoordinatesFit (along_x c)
coordinates_x c fits = record { from = fits.from.x; control = fits.control.x; to = fits.to.x }

pub coordinates_y : (c : Quadratic) → QuadraticFits c → CoordinatesFit (along_y c)
coordinates_y c fits = record { from = fits.from.y; control = fits.control.y; to = fits.to.y }

pub end_is : (r : ChordRule) (c : Quadratic) (k : ℕ) (x y : Differences) (s : EdgeEnd) → k ≤ chord_count r c
    → AreDifferences (along_x c) (32 / chord_count r c) k x → AreDifferences (along_y c) (32 / chord_count r c) k y
    → s ≡ record { x = nearest_quotient (pos 64 *ℤ x.value) (pos 1024); y = nearest_quotient (pos 64 *ℤ y.value) (pos 1024) }
    → s ≡ chord_end (chord_count r c) c k
end_is r c k x y s le is_x is_y is = rw (is, is_x.value, is_y.value) (sym (end_among r c k le))

pub one_chord_more : (n : ℕ) (c : Quadratic) (k : ℕ) → first_chords n c (k + 1) ≡ first_chords n c k ++ edge_between (chord_end n c k)
    (chord_end n c (k + 1)) ∷ []
unfolding first_chords
one_chord_more n c k = rw add-one refl
