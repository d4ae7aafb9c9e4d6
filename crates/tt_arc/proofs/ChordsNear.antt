-- A chord is near its quadratic all along, where there are fewer than 32 chords.
use Rattle.std.proofs.Common.{◌≡◌, ◌∙◌, sym, refl, ap, ap₂, inl, inr, ℕ, suc, ◌+◌, ◌-◌, ◌*◌, ◌<◌, ◌≤◌, ℤ, pos, ◌+ℤ◌, ◌-ℤ◌, ◌*ℤ◌, unsigned_abs, arith, mul-le-mul_left, mul-le-mul_right}
use Rattle.std.proofs.lemmas.Bool.{cases_lt}
use Rattle.std.proofs.lemmas.Int.{ints, unsigned_abs-mul}
use Rattle.tt_core.specs.Products.{mul_assoc_z, mul_diff, mul_sum}
use Rattle.tt_arc.specs.declared.quadratic.Coordinates.{Coordinates}
use Rattle.tt_arc.specs.declared.quadratic.Quadratic.{Quadratic}
use Rattle.tt_arc.specs.declared.rule.ChordRule.TheVariants as rule
use Rattle.tt_arc.specs.Chords.{bend_of, chord_count, chord_place, signed_bend, weighed}
use Rattle.tt_arc.specs.ChordLaws.{ChordsAreNear}
use Rattle.tt_arc.proofs.ChordEnds.{ends_are_near}
use Rattle.tt_arc.proofs.Counts.{counts_are_least}
use Rattle.tt_arc.proofs.Weights.{bent_by, same_times}

-- a factor goes to each weight
scale : (p u v w : ℕ) (x y z : ℤ) → pos p *ℤ ((pos u *ℤ x +ℤ pos v *ℤ y) +ℤ pos w *ℤ z)
    ≡ (pos (p * u) *ℤ x +ℤ pos (p * v) *ℤ y) +ℤ pos (p * w) *ℤ z
scale p u v w x y z =
    let all = mul_sum (pos p) (pos u *ℤ x +ℤ pos v *ℤ y) (pos w *ℤ z) in
    let two = mul_sum (pos p) (pos u *ℤ x) (pos v *ℤ y) in
    let first = mul_assoc_z (pos p) (pos u) x in
    let second = mul_assoc_z (pos p) (pos v) y in
    let third = mul_assoc_z (pos p) (pos w) z in
    omega (arith, ints, all, two, first, second, third)

-- the place of a chord after i of i + j parts, by its ends, and the quadratic's own place there
between_by : (m i j u v w s t o : ℕ) (x y z : ℤ)
    → pos m *ℤ (pos j *ℤ ((pos u *ℤ x +ℤ pos v *ℤ y) +ℤ pos w *ℤ z) +ℤ pos i *ℤ ((pos s *ℤ x +ℤ pos t *ℤ y) +ℤ pos o *ℤ z))
    ≡ (pos (m * j * u + m * i * s) *ℤ x +ℤ pos (m * j * v + m * i * t) *ℤ y) +ℤ pos (m * j * w + m * i * o) *ℤ z
between_by m i j u v w s t o x y z =
    let one = (pos u *ℤ x +ℤ pos v *ℤ y) +ℤ pos w *ℤ z in
    let two = (pos s *ℤ x +ℤ pos t *ℤ y) +ℤ pos o *ℤ z in
    let apart = mul_sum (pos m) (pos j *ℤ one) (pos i *ℤ two) in
    let first = mul_assoc_z (pos m) (pos j) one in
    let second = mul_assoc_z (pos m) (pos i) two in
    let here = scale (m * j) u v w x y z in
    let there = scale (m * i) s t o x y z in
    apart ∙ ap₂ (λ a b. a +ℤ b) (sym first ∙ here) (sym second ∙ there) ∙ omega (arith, ints)

from_weights : (a k i j : ℕ) → (i + j) * j * (suc a * suc a) + (i + j) * i * (a * a) ≡ (a * (i + j) + j) * (a * (i + j) + j) + i * j
from_weights a k i j = omega arith

control_weights : (a k i j : ℕ) → ((i + j) * j * (4 * k * suc a) + (i + j) * i * (4 * (k + 1) * a)) + i * j * 4
    ≡ 4 * (k * (i + j) + i) * (a * (i + j) + j)
control_weights a k i j = omega arith

to_weights : (a k i j : ℕ) → (i + j) * j * (k * k) + (i + j) * i * ((k + 1) * (k + 1)) ≡ (k * (i + j) + i) * (k * (i + j) + i) + i * j
to_weights a k i j = omega arith

differ_by : (u v w s t o d : ℕ) (x y z : ℤ) → u ≡ s + d → v + d * 4 ≡ t → w ≡ o + d
    → (pos u *ℤ x +ℤ pos v *ℤ y) +ℤ pos w *ℤ z
    ≡ ((pos s *ℤ x +ℤ pos t *ℤ y) +ℤ pos o *ℤ z) +ℤ pos d *ℤ ((x -ℤ pos 4 *ℤ y) +ℤ z)
differ_by u v w s t o d x y z is_u is_v is_w =
    let first = same_times u (s + d) x is_u in
    let middle = same_times (v + d * 4) t y is_v in
    let last = same_times w (o + d) z is_w in
    let bent = bent_by d x y z in
    omega (arith, ints, first, middle, last, bent)

-- of n chords, chord k leaves the quadratic by i j times its bend
leaves : (n k i j : ℕ) (b : Coordinates) → k < n
    → pos (i + j) *ℤ (pos j *ℤ weighed n k b +ℤ pos i *ℤ weighed n (k + 1) b)
    ≡ weighed (n * (i + j)) (k * (i + j) + i) b +ℤ pos (i * j) *ℤ signed_bend b
leaves n k i j b below =
    let a = n - (k + 1) in
    let m = i + j in
    let more : n - k ≡ suc a = omega (arith, below) in
    let whole : n ≡ suc a + k = omega (arith, below) in
    let all : n * m ≡ (suc a + k) * m = ap (λ n. n * m) whole in
    let rest : n * m - (k * m + i) ≡ a * m + j = omega (arith, all) in
    rw (more, rest) (between_by m i j (suc a * suc a) (4 * k * suc a) (k * k) (a * a) (4 * (k + 1) * a) ((k + 1) * (k + 1))
    b.from b.control b.to
    ∙ differ_by _ _ _ ((a * m + j) * (a * m + j)) (4 * (k * m + i) * (a * m + j)) ((k * m + i) * (k * m + i)) (i * j)
    b.from b.control b.to (from_weights a k i j) (control_weights a k i j) (to_weights a k i j))

-- four times a product is at most the square of the sum
square_up : (i d : ℕ) → 4 * (i * (i + d)) ≤ (i + (i + d)) * (i + (i + d))
square_up i d = omega arith

four_products : (i j : ℕ) → 4 * (i * j) ≤ (i + j) * (i + j)
four_products i j = elim (cases_lt i j) [
  | inl less ↦
      let is : j ≡ i + (j - i) = omega (arith, less) in
      rw is (square_up i (j - i))
  | inr more ↦
      let is : i ≡ j + (i - j) = omega (arith, more) in
      let up = square_up j (i - j) in
      let turned : 4 * (j * (j + (i - j))) ≡ 4 * (i * j) = ap (λ n. 4 * (j * n)) (sym is) ∙ omega arith in
      let sum : (j + (j + (i - j))) * (j + (j + (i - j))) ≡ (i + j) * (i + j) = ap (λ n. (j + n) * (j + n)) (sym is) ∙ omega arith in
      omega (arith, up, turned, sum)
]

-- the bend of either axis asks for no more chords than there are
enough : (c : Quadratic) (d : ℤ) → unsigned_abs d ≤ bend_of c → chord_count rule.ByBend c < 32
    → 2 * unsigned_abs d ≤ chord_count rule.ByBend c * chord_count rule.ByBend c
enough c d few less = let most = (counts_are_least (bend_of c)).enough less in omega (arith, few, most)

bounded_bend : (n i j : ℕ) (d : ℤ) → 2 * unsigned_abs d ≤ n * n
    → 2 * unsigned_abs (pos 64 *ℤ (pos (i * j) *ℤ d)) ≤ 16 * (n * n * ((i + j) * (i + j)))
bounded_bend n i j d few =
    let size = unsigned_abs-mul (pos (i * j)) d in
    let four : 4 * (i * j) * unsigned_abs d ≤ (i + j) * (i + j) * unsigned_abs d = mul-le-mul_right (unsigned_abs d) (four_products i j) in
    let most : (i + j) * (i + j) * (2 * unsigned_abs d) ≤ (i + j) * (i + j) * (n * n) = mul-le-mul_left ((i + j) * (i + j)) few in
    let scaled : unsigned_abs (pos 64 *ℤ (pos (i * j) *ℤ d)) ≡ 64 * unsigned_abs (pos (i * j) *ℤ d) = unsigned_abs-mul (pos 64) (pos (i * j) *ℤ d) in
    omega (arith, size, four, most, scaled)

-- the rounded ends, weighed by the parts
no_more : (u m : ℕ) (a : ℤ) → 2 * unsigned_abs a ≤ m → 2 * unsigned_abs (pos u *ℤ a) ≤ u * m
no_more u m a few =
    let size = unsigned_abs-mul (pos u) a in
    let most : u * (2 * unsigned_abs a) ≤ u * m = mul-le-mul_left u few in
    omega (arith, size, most)

apart : (u q : ℕ) (e v : ℤ) → pos u *ℤ (pos q *ℤ e -ℤ pos 64 *ℤ v) ≡ pos (u * q) *ℤ e -ℤ pos 64 *ℤ (pos u *ℤ v)
apart u q e v =
    let less = mul_diff (pos u) (pos q *ℤ e) (pos 64 *ℤ v) in
    let first = mul_assoc_z (pos u) (pos q) e in
    let second = mul_assoc_z (pos u) (pos 64) v in
    let third = mul_assoc_z (pos 64) (pos u) v in
    omega (arith, ints, less, first, second, third)

together : (a b : ℤ) (s t n : ℕ) → 2 * unsigned_abs a ≤ s → 2 * unsigned_abs b ≤ t → s + t ≡ n → 2 * unsigned_abs (a +ℤ b) ≤ n
together a b s t n one two is = omega (arith, ints, one, two, is)

near_enough : (q m : ℕ) (e v w d : ℤ) → v ≡ w +ℤ d → 2 * unsigned_abs (e -ℤ pos 64 *ℤ v) ≤ q * (m * m)
    → 2 * unsigned_abs (pos 64 *ℤ d) ≤ 16 * (q * (m * m)) → 2 * unsigned_abs (e -ℤ pos 64 *ℤ w) ≤ 17 * (q * (m * m))
near_enough q m e v w d is near bent = omega (arith, ints, is, near, bent)

rounded_by : (q m i j : ℕ) (e f v w : ℤ) → m ≡ i + j → 2 * unsigned_abs (pos q *ℤ e -ℤ pos 64 *ℤ v) ≤ q
    → 2 * unsigned_abs (pos q *ℤ f -ℤ pos 64 *ℤ w) ≤ q
    → 2 * unsigned_abs (pos (q * m) *ℤ (pos j *ℤ e +ℤ pos i *ℤ f) -ℤ pos 64 *ℤ (pos m *ℤ (pos j *ℤ v +ℤ pos i *ℤ w))) ≤ q * (m * m)
rounded_by q m i j e f v w is near_e near_f =
    let one = no_more (m * j) q (pos q *ℤ e -ℤ pos 64 *ℤ v) near_e in
    let two = no_more (m * i) q (pos q *ℤ f -ℤ pos 64 *ℤ w) near_f in
    let is_one = apart (m * j) q e v in
    let is_two = apart (m * i) q f w in
    let ends = mul_sum (pos (q * m)) (pos j *ℤ e) (pos i *ℤ f) in
    let first = mul_assoc_z (pos (q * m)) (pos j) e in
    let second = mul_assoc_z (pos (q * m)) (pos i) f in
    let places = mul_sum (pos m) (pos j *ℤ v) (pos i *ℤ w) in
    let third = mul_assoc_z (pos m) (pos j) v in
    let fourth = mul_assoc_z (pos m) (pos i) w in
    let same_e = same_times (q * m * j) (m * j * q) e (omega arith) in
    let same_f = same_times (q * m * i) (m * i * q) f (omega arith) in
    let sum : m * j * q + m * i * q ≡ q * (m * m) = omega (arith, ap (λ n. n * (m * q)) is) in
    let whole : pos (q * m) *ℤ (pos j *ℤ e +ℤ pos i *ℤ f) -ℤ pos 64 *ℤ (pos m *ℤ (pos j *ℤ v +ℤ pos i *ℤ w))
    ≡ pos (m * j) *ℤ (pos q *ℤ e -ℤ pos 64 *ℤ v) +ℤ pos (m * i) *ℤ (pos q *ℤ f -ℤ pos 64 *ℤ w) =
    omega (arith, ints, is_one, is_two, ends, first, second, places, third, fourth, same_e, same_f) in
    rw whole (together (pos (m * j) *ℤ (pos q *ℤ e -ℤ pos 64 *ℤ v)) (pos (m * i) *ℤ (pos q *ℤ f -ℤ pos 64 *ℤ w))
    (m * j * q) (m * i * q) (q * (m * m)) one two sum)

pub chords_are_near : ChordsAreNear
chords_are_near c k i j b few less below =
    let n = chord_count rule.ByBend c in
    let m = i + j in
    let q = n * n in
    let here = ends_are_near rule.ByBend c k b (omega (arith, below)) in
    let there = ends_are_near rule.ByBend c (k + 1) b (omega (arith, below)) in
    let ends = rounded_by q m i j (chord_place n k b) (chord_place n (k + 1) b) (weighed n k b) (weighed n (k + 1) b) refl here there in
    let bent = bounded_bend n i j (signed_bend b) (enough c (signed_bend b) few less) in
    near_enough q m (pos (q * m) *ℤ (pos j *ℤ chord_place n k b +ℤ pos i *ℤ chord_place n (k + 1) b))
    (pos m *ℤ (pos j *ℤ weighed n k b +ℤ pos i *ℤ weighed n (k + 1) b))
    (weighed (n * m) (k * m + i) b) (pos (i * j) *ℤ signed_bend b) (leaves n k i j b below) ends bent
