-- Coordinates of places on an axis, by their sides of the default.
use Rattle.std.proofs.Common.{◌≡◌, ℕ, ◌+◌, ◌*◌, ◌/◌, ◌≤◌, ℤ, pos, negsuc, Bool, true, false, refl, arith, mul-le-mul_left}
use Rattle.std.specs.Prelude.{int_lt, int_le, neg_ℤ, ◌≤ℤ◌, unsigned_abs, if◌then◌else◌}
use Rattle.std.proofs.lemmas.Int.{ints}
use Rattle.tt_axes.proofs.Portions.{portion_less}
use Rattle.tt_axes.specs.Axes.{coordinate_on}
use Rattle.tt_axes.specs.declared.axis.VariationAxis.{VariationAxis}
use Rattle.tt_axes.specs.Shares.{distance, portion, whole_share}

less-quotient : (m n d : ℕ) → m ≤ n → m / d ≤ n / d
less-quotient m n d less = grind arith

portion-more : (s m n k : ℕ) → m ≤ n → portion s m k ≤ portion s n k
portion-more s m n k less = less-quotient (2 * (s * m) + k) (2 * (s * n) + k) (2 * k) (omega (arith, mul-le-mul_left s less))

itself : (v : ℤ) → int_lt v v ≡ false
itself v = grind (arith, ints)

pub default-zero : (a : VariationAxis) → coordinate_on a a.default ≡ pos 0
unfolding coordinate_on
default-zero a = rw (itself a.default) refl

-- above the default

abbrev upper : VariationAxis → ℤ → ℤ
upper a v = if int_le a.greatest v then pos 65536 else pos (portion whole_share (distance v a.default) (distance a.greatest a.default))

abbrev lower : VariationAxis → ℤ → ℤ
lower a v = if int_le v a.least then negsuc 65535 else neg_ℤ (pos (portion whole_share (distance v a.default) (distance a.least a.default)))

part-above : (a : VariationAxis) (v : ℤ) → int_lt a.default v ≡ true → int_le a.greatest v ≡ false
    → portion whole_share (distance v a.default) (distance a.greatest a.default) ≤ 65536
part-above a v more most =
    portion_less whole_share (distance v a.default) (distance a.greatest a.default) (grind (arith, ints)) (grind (arith, ints))

part-below : (a : VariationAxis) (v : ℤ) → int_lt v a.default ≡ true → int_le v a.least ≡ false
    → portion whole_share (distance v a.default) (distance a.least a.default) ≤ 65536
part-below a v less least =
    portion_less whole_share (distance v a.default) (distance a.least a.default) (grind (arith, ints)) (grind (arith, ints))

upper-low : (a : VariationAxis) (v : ℤ) (most : Bool) → int_le a.greatest v ≡ most → pos 0 ≤ℤ upper a v
upper-low a v true em = rw em (omega (arith, ints))
upper-low a v false em = rw em (omega (arith, ints))

upper-high : (a : VariationAxis) (v : ℤ) (most : Bool) → int_lt a.default v ≡ true → int_le a.greatest v ≡ most → upper a v ≤ℤ pos 65536
upper-high a v true more em = rw em (omega (arith, ints))
upper-high a v false more em = let part = part-above a v more em in rw em (omega (arith, ints, part))

lower-high : (a : VariationAxis) (v : ℤ) (least : Bool) → int_le v a.least ≡ least → lower a v ≤ℤ pos 0
lower-high a v true el = rw el (omega (arith, ints))
lower-high a v false el = rw el (omega (arith, ints))

lower-low : (a : VariationAxis) (v : ℤ) (least : Bool) → int_lt v a.default ≡ true → int_le v a.least ≡ least → negsuc 65535 ≤ℤ lower a v
lower-low a v true less el = rw el (omega (arith, ints))
lower-low a v false less el = let part = part-below a v less el in rw el (omega (arith, ints, part))

further : (d v w : ℤ) → int_lt d v ≡ true → v ≤ℤ w → distance v d ≤ distance w d
further d v w more order = grind (arith, ints)

nearer : (d v w : ℤ) → int_lt w d ≡ true → v ≤ℤ w → distance w d ≤ distance v d
nearer d v w less order = grind (arith, ints)

still : (g v w : ℤ) → int_le g v ≡ true → v ≤ℤ w → int_le g w ≡ true
still g v w most order = grind (arith, ints)

upper-rises : (a : VariationAxis) (v w : ℤ) (first second : Bool) → int_lt a.default v ≡ true → int_lt a.default w ≡ true → v ≤ℤ w
    → int_le a.greatest v ≡ first → int_le a.greatest w ≡ second → upper a v ≤ℤ upper a w
upper-rises a v w true second more more2 order ef es = rw (ef, still a.greatest v w ef order) (omega (arith, ints))
upper-rises a v w false true more more2 order ef es = rw es (upper-high a v false more ef)
upper-rises a v w false false more more2 order ef es =
    let rest = portion-more whole_share (distance v a.default) (distance w a.default) (distance a.greatest a.default)
    (further a.default v w more order) in
    rw (ef, es) (omega (arith, ints, rest))

lower-rises : (a : VariationAxis) (v w : ℤ) (first second : Bool) → int_lt v a.default ≡ true → int_lt w a.default ≡ true → v ≤ℤ w
    → int_le v a.least ≡ first → int_le w a.least ≡ second → lower a v ≤ℤ lower a w
lower-rises a v w true second less less2 order ef es = rw ef (lower-low a w second less2 es)
lower-rises a v w false true less less2 order ef es = absurd (grind (arith, ints))
lower-rises a v w false false less less2 order ef es =
    let rest = portion-more whole_share (distance w a.default) (distance v a.default) (distance a.least a.default)
    (nearer a.default v w less2 order) in
    rw (ef, es) (omega (arith, ints, rest))

near-by : (a : VariationAxis) (v : ℤ) (more less : Bool) → int_lt a.default v ≡ more → int_lt v a.default ≡ less → unsigned_abs (coordinate_on a v) ≤ 65536
unfolding coordinate_on
near-by a v true less em el =
    let low = upper-low a v (int_le a.greatest v) refl in
    let high = upper-high a v (int_le a.greatest v) em refl in
    rw em (omega (arith, ints, low, high))
near-by a v false true em el =
    let low = lower-low a v (int_le v a.least) el refl in
    let high = lower-high a v (int_le v a.least) refl in
    rw (em, el) (omega (arith, ints, low, high))
near-by a v false false em el = rw (em, el) (omega arith)

pub coordinate-near : (a : VariationAxis) (v : ℤ) → unsigned_abs (coordinate_on a v) ≤ 65536
coordinate-near a v = near-by a v (int_lt a.default v) (int_lt v a.default) refl refl

rises-by : (a : VariationAxis) (v w : ℤ) (m l n k : Bool) → v ≤ℤ w → int_lt a.default v ≡ m → int_lt v a.default ≡ l → int_lt a.default w ≡ n
    → int_lt w a.default ≡ k → coordinate_on a v ≤ℤ coordinate_on a w
unfolding coordinate_on
rises-by a v w true l true k order em el en ek =
    rw (em, en) (upper-rises a v w (int_le a.greatest v) (int_le a.greatest w) em en order refl refl)
rises-by a v w true l false k order em el en ek = absurd (grind (arith, ints))
rises-by a v w false true true k order em el en ek =
    let high = lower-high a v (int_le v a.least) refl in
    let low = upper-low a w (int_le a.greatest w) refl in
    rw (em, el, en) (omega (arith, ints, high, low))
rises-by a v w false true false true order em el en ek =
    rw (em, el, en, ek) (lower-rises a v w (int_le v a.least) (int_le w a.least) el ek order refl refl)
rises-by a v w false true false false order em el en ek = rw (em, el, en, ek) (lower-high a v (int_le v a.least) refl)
rises-by a v w false false true k order em el en ek = rw (em, el, en) (upper-low a w (int_le a.greatest w) refl)
rises-by a v w false false false true order em el en ek = absurd (grind (arith, ints))
rises-by a v w false false false false order em el en ek = rw (em, el, en, ek) (omega (arith, ints))

pub coordinate-rises : (a : VariationAxis) (v w : ℤ) → v ≤ℤ w → coordinate_on a v ≤ℤ coordinate_on a w
coordinate-rises a v w order =
    rises-by a v w (int_lt a.default v) (int_lt v a.default) (int_lt a.default w) (int_lt w a.default) order refl refl refl refl
