-- The weights of a quadratic's coordinates at k / n: their sum, their second difference, and places by more chords.
use Rattle.std.proofs.Common.{◌≡◌, ◌∙◌, sym, ap, ℕ, ◌+◌, ◌-◌, ◌*◌, ◌^◌, ◌≤◌, ℤ, pos, ◌+ℤ◌, ◌-ℤ◌, ◌*ℤ◌, unsigned_abs, arith, mul-le-mul_left}
use Rattle.std.proofs.lemmas.Int.{ints, unsigned_abs-mul}
use Rattle.tt_core.specs.Products.{mul_assoc_z, mul_diff, mul_sum}
use Rattle.tt_arc.specs.declared.quadratic.Coordinates.{Coordinates}
use Rattle.tt_arc.specs.Chords.{CoordinatesFit, signed_bend, weighed}

weights_by : (n j k : ℕ) → n ≡ j + k → 2 * (j * j) + 4 * k * j + 2 * (k * k) ≡ 2 * (n * n)
weights_by n j k is = rw is (omega arith)

pub weights : (n k : ℕ) → k ≤ n → 2 * ((n - k) * (n - k)) + 4 * k * (n - k) + 2 * (k * k) ≡ 2 * (n * n)
weights n k le = weights_by n (n - k) k (omega arith)

pub same_times : (x y : ℕ) (a : ℤ) → x ≡ y → pos x *ℤ a ≡ pos y *ℤ a
same_times x y a is = ap (λ n. pos n *ℤ a) is

-- moved: a coordinate moves by d in 26.6, an end by 2 d in 1/128 pixel
abbrev pub coordinates_moved : ℤ → Coordinates → Coordinates
coordinates_moved d b = record { from = b.from +ℤ pos 2 *ℤ d; control = b.control +ℤ d; to = b.to +ℤ pos 2 *ℤ d }

shift : (u v w : ℕ) (a b c d : ℤ)
    → (pos u *ℤ (a +ℤ pos 2 *ℤ d) +ℤ pos v *ℤ (b +ℤ d)) +ℤ pos w *ℤ (c +ℤ pos 2 *ℤ d)
    ≡ ((pos u *ℤ a +ℤ pos v *ℤ b) +ℤ pos w *ℤ c) +ℤ pos (2 * u + v + 2 * w) *ℤ d
shift u v w a b c d =
    let first = mul_sum (pos u) a (pos 2 *ℤ d) in
    let second = mul_sum (pos v) b d in
    let third = mul_sum (pos w) c (pos 2 *ℤ d) in
    let twice_u = mul_assoc_z (pos u) (pos 2) d in
    let twice_w = mul_assoc_z (pos w) (pos 2) d in
    omega (arith, ints, first, second, third, twice_u, twice_w)

pub weighed_moved : (n k : ℕ) (d : ℤ) (b : Coordinates) → k ≤ n
    → weighed n k (coordinates_moved d b) ≡ weighed n k b +ℤ pos (2 * (n * n)) *ℤ d
weighed_moved n k d b le =
    shift ((n - k) * (n - k)) (4 * k * (n - k)) (k * k) b.from b.control b.to d
    ∙ ap (λ z. weighed n k b +ℤ z) (same_times (2 * ((n - k) * (n - k)) + 4 * k * (n - k) + 2 * (k * k)) (2 * (n * n)) d (weights n k le))

-- walked back
abbrev pub coordinates_back : Coordinates → Coordinates
coordinates_back b = record { from = b.to; control = b.control; to = b.from }

back_by : (j k : ℕ) (x y z : ℤ) → (pos (k * k) *ℤ x +ℤ pos (4 * j * k) *ℤ y) +ℤ pos (j * j) *ℤ z
    ≡ (pos (j * j) *ℤ z +ℤ pos (4 * k * j) *ℤ y) +ℤ pos (k * k) *ℤ x
back_by j k x y z = let middle = same_times (4 * j * k) (4 * k * j) y (omega arith) in omega (arith, ints, middle)

pub weighed_back : (n k : ℕ) (b : Coordinates) → k ≤ n → weighed n k (coordinates_back b) ≡ weighed n (n - k) b
weighed_back n k b le =
    let back : n - (n - k) ≡ k = omega arith in
    rw back (sym (back_by (n - k) k b.from b.control b.to))

-- of h times as many chords, h times as many lead to the same place
finer_by : (h j k : ℕ) (x y z : ℤ)
    → (pos ((h * j) * (h * j)) *ℤ x +ℤ pos (4 * (h * k) * (h * j)) *ℤ y) +ℤ pos ((h * k) * (h * k)) *ℤ z
    ≡ pos (h * h) *ℤ ((pos (j * j) *ℤ x +ℤ pos (4 * k * j) *ℤ y) +ℤ pos (k * k) *ℤ z)
finer_by h j k x y z =
    let all = mul_sum (pos (h * h)) (pos (j * j) *ℤ x +ℤ pos (4 * k * j) *ℤ y) (pos (k * k) *ℤ z) in
    let two = mul_sum (pos (h * h)) (pos (j * j) *ℤ x) (pos (4 * k * j) *ℤ y) in
    let first = mul_assoc_z (pos (h * h)) (pos (j * j)) x in
    let second = mul_assoc_z (pos (h * h)) (pos (4 * k * j)) y in
    let third = mul_assoc_z (pos (h * h)) (pos (k * k)) z in
    let one : pos ((h * j) * (h * j)) *ℤ x ≡ pos (h * h * (j * j)) *ℤ x = same_times _ _ x (omega arith) in
    let mid : pos (4 * (h * k) * (h * j)) *ℤ y ≡ pos (h * h * (4 * k * j)) *ℤ y = same_times _ _ y (omega arith) in
    let last : pos ((h * k) * (h * k)) *ℤ z ≡ pos (h * h * (k * k)) *ℤ z = same_times _ _ z (omega arith) in
    omega (arith, ints, all, two, first, second, third, one, mid, last)

pub weighed_finer : (h n k : ℕ) (b : Coordinates) → k ≤ n → weighed (h * n) (h * k) b ≡ pos (h * h) *ℤ weighed n k b
weighed_finer h n k b le =
    let parts : n ≡ (n - k) + k = omega (arith, le) in
    let whole : h * n ≡ h * ((n - k) + k) = ap (λ (m : ℕ). h * m) parts in
    let less : h * n - h * k ≡ h * (n - k) = omega (arith, whole) in
    rw less (finer_by h (n - k) k b.from b.control b.to)

-- the second difference is the same all along
pub bent_by : (s : ℕ) (x y z : ℤ) → pos s *ℤ ((x -ℤ pos 4 *ℤ y) +ℤ z) ≡ (pos s *ℤ x -ℤ pos (s * 4) *ℤ y) +ℤ pos s *ℤ z
bent_by s x y z =
    let all = mul_sum (pos s) (x -ℤ pos 4 *ℤ y) z in
    let less = mul_diff (pos s) x (pos 4 *ℤ y) in
    let four = mul_assoc_z (pos s) (pos 4) y in
    omega (arith, ints, all, less, four)

second_by : (u v w u1 v1 w1 u2 v2 w2 s : ℕ) (x y z : ℤ)
    → u2 + u ≡ 2 * u1 + s → v2 + v + s * 4 ≡ 2 * v1 → w2 + w ≡ 2 * w1 + s
    → ((pos u2 *ℤ x +ℤ pos v2 *ℤ y) +ℤ pos w2 *ℤ z) +ℤ ((pos u *ℤ x +ℤ pos v *ℤ y) +ℤ pos w *ℤ z)
    ≡ pos 2 *ℤ ((pos u1 *ℤ x +ℤ pos v1 *ℤ y) +ℤ pos w1 *ℤ z) +ℤ pos s *ℤ ((x -ℤ pos 4 *ℤ y) +ℤ z)
second_by u v w u1 v1 w1 u2 v2 w2 s x y z is_u is_v is_w =
    let first = same_times (u2 + u) (2 * u1 + s) x is_u in
    let middle = same_times (v2 + v + s * 4) (2 * v1) y is_v in
    let last = same_times (w2 + w) (2 * w1 + s) z is_w in
    let bent = bent_by s x y z in
    omega (arith, ints, first, middle, last, bent)

pub second_of : (j m h : ℕ) (b : Coordinates) → 32 ≡ j + (m + h + h)
    → weighed 32 (m + h + h) b +ℤ weighed 32 m b
    ≡ pos 2 *ℤ weighed 32 (m + h) b +ℤ pos (2 * (h * h)) *ℤ signed_bend b
second_of j m h b is =
    let two : 32 - (m + h + h) ≡ j = omega (arith, is) in
    let one : 32 - (m + h) ≡ j + h = omega (arith, is) in
    let none : 32 - m ≡ j + h + h = omega (arith, is) in
    rw (two, one, none) (second_by ((j + h + h) * (j + h + h)) (4 * m * (j + h + h)) (m * m)
    ((j + h) * (j + h)) (4 * (m + h) * (j + h)) ((m + h) * (m + h)) (j * j) (4 * (m + h + h) * j) ((m + h + h) * (m + h + h))
    (2 * (h * h)) b.from b.control b.to (omega arith) (omega arith) (omega arith))

-- bounds
scaled : (u m : ℕ) (a : ℤ) → unsigned_abs a ≤ m → unsigned_abs (pos u *ℤ a) ≤ u * m
scaled u m a few = rw (unsigned_abs-mul (pos u) a) (mul-le-mul_left u few)

bounded : (u v w m : ℕ) (a b c : ℤ) → unsigned_abs a ≤ 2 * m → unsigned_abs b ≤ m → unsigned_abs c ≤ 2 * m
    → unsigned_abs ((pos u *ℤ a +ℤ pos v *ℤ b) +ℤ pos w *ℤ c) ≤ (2 * u + v + 2 * w) * m
bounded u v w m a b c few_a few_b few_c =
    let one = scaled u (2 * m) a few_a in
    let two = scaled v m b few_b in
    let three = scaled w (2 * m) c few_c in
    omega (arith, ints, one, two, three)

pub weighed_within : (k : ℕ) (b : Coordinates) → CoordinatesFit b → k ≤ 32 → unsigned_abs (weighed 32 k b) + 2 ^ 11 ≤ 2 ^ 34
weighed_within k b fits le =
    let most = bounded ((32 - k) * (32 - k)) (4 * k * (32 - k)) (k * k) (2 ^ 23 - 1) b.from b.control b.to
    (omega (arith, fits.from)) (omega (arith, fits.control)) (omega (arith, fits.to)) in
    let sum : (2 * ((32 - k) * (32 - k)) + 4 * k * (32 - k) + 2 * (k * k)) * (2 ^ 23 - 1) ≡ 2 * (32 * 32) * (2 ^ 23 - 1) =
    ap (λ n. n * (2 ^ 23 - 1)) (weights 32 k le) in
    omega (arith, most, sum)

pub bend_within : (b : Coordinates) → CoordinatesFit b → unsigned_abs (signed_bend b) ≤ 2 ^ 26
bend_within b fits = let f = fits.from in let c = fits.control in let t = fits.to in omega (arith, ints)

pub part_within : (h : ℕ) (a : ℤ) (m : ℕ) → h ≤ 32 → unsigned_abs a ≤ m → unsigned_abs (pos h *ℤ a) ≤ 32 * m
part_within h a m le few =
    let one = scaled h m a few in
    let more : h * m ≤ 32 * m = omega (arith, mul-le-mul_left m le) in
    omega (arith, one, more)
