-- An edge from row to row, by a column and a rest.
use Rattle.std.proofs.Common.{◌≡◌, ℕ, ◌^◌, ◌<◌, ◌≤◌, refl, ◌&&◌, unsigned_abs, arith}
use Rattle.std.specs.Prelude.{ℤ, pos, ◌+ℤ◌, ◌-ℤ◌, ◌*ℤ◌, neg_ℤ, ◌≤ℤ◌, ◌<ℤ◌, int_lt}
use Rattle.std.proofs.lemmas.Int.{ints, by_lt_z}
use lib.IntN.{*ℤ_comm}
use Rattle.tt_core.specs.Limits.{margin_limit}
use Rattle.tt_core.specs.Products.{mul_assoc_z, mul_sum, mul_neg, mul_diff, mul_mono, floor_above, floor_below}
use Rattle.tt_scan_edges.specs.declared.edge.Edge.{Edge}
use Rattle.tt_scan_edges.specs.declared.quotient.Quotient.{Quotient}
use Rattle.tt_scan_edges.specs.Walks.{divisor_of, number_at, StandsAt, IsStep}
use Rattle.tt_scan_edges.specs.Winding.{EdgeFits, column_x, side, is_zero}
use Rattle.tt_scan_edges.proofs.Floors.{at_floor, below_floor}
use Rattle.tt_scan_edges.proofs.Sides.{side_at}

-- one row down

number_below : (e : Edge) (m : ℕ) (y : ℤ) → number_at e m (y -ℤ pos 8192) ≡ number_at e m y -ℤ pos 8192 *ℤ (e.bx -ℤ e.ax)
number_below e m y =
    let height : (y -ℤ pos 8192) -ℤ e.ay ≡ (y -ℤ e.ay) -ℤ pos 8192 = omega (arith, ints) in
    rw height (omega (arith, ints, mul_diff (e.bx -ℤ e.ax) (y -ℤ e.ay) (pos 8192), *ℤ_comm (e.bx -ℤ e.ax) (pos 8192)))

less : (d whole rest off left n run : ℤ) → d *ℤ whole +ℤ rest ≡ n → d *ℤ off +ℤ left ≡ run → d *ℤ (whole -ℤ off) +ℤ (rest -ℤ left) ≡ n -ℤ run
less d whole rest off left n run is step = omega (arith, ints, mul_diff d whole off)

times_one : (d : ℤ) → d *ℤ pos 1 ≡ d
times_one d = omega (arith, ints)

one_less : (d whole rest n : ℤ) → d *ℤ whole +ℤ rest ≡ n → d *ℤ (whole -ℤ pos 1) +ℤ (rest +ℤ d) ≡ n
one_less d whole rest n is = omega (arith, ints, mul_diff d whole (pos 1), times_one d)

pub goes_down : (e : Edge) (m : ℕ) (y : ℤ) (at step to : Quotient) → StandsAt e m y at → IsStep e step
    → to.whole ≡ at.whole -ℤ step.whole → to.rest ≡ at.rest -ℤ step.rest → pos 0 ≤ℤ to.rest → StandsAt e m (y -ℤ pos 8192) to
goes_down e m y at step to is off whole rest low = record {
  exact = rw (whole, rest, number_below e m y)
      (less (divisor_of e) at.whole at.rest step.whole step.rest (number_at e m y) (pos 8192 *ℤ (e.bx -ℤ e.ax)) is.exact off.exact);
  low = low;
  high = let top = is.high in let left = off.low in omega (arith, ints);
}

pub goes_left : (e : Edge) (m : ℕ) (y : ℤ) (at step to : Quotient) → StandsAt e m y at → IsStep e step
    → to.whole ≡ (at.whole -ℤ step.whole) -ℤ pos 1 → to.rest ≡ (at.rest -ℤ step.rest) +ℤ divisor_of e → (at.rest -ℤ step.rest) <ℤ pos 0
    → StandsAt e m (y -ℤ pos 8192) to
goes_left e m y at step to is off whole rest below = record {
  exact = rw (whole, rest, number_below e m y)
      (one_less (divisor_of e) (at.whole -ℤ step.whole) (at.rest -ℤ step.rest) (number_at e m y -ℤ pos 8192 *ℤ (e.bx -ℤ e.ax))
      (less (divisor_of e) at.whole at.rest step.whole step.rest (number_at e m y) (pos 8192 *ℤ (e.bx -ℤ e.ax)) is.exact off.exact));
  low = let bottom = is.low in let left = off.high in omega (arith, ints);
  high = omega (arith, ints);
}

-- the centres on the edge there, and those right of it

pub side_there : (e : Edge) (m : ℕ) (y c : ℤ) → side e (column_x m c) y ≡ number_at e m y -ℤ divisor_of e *ℤ c
side_there e m y c = side_at e m y (e.ax -ℤ column_x m (pos 0)) c (number_at e m y) (divisor_of e) refl refl refl

pub on_there : (e : Edge) (m : ℕ) (y c : ℤ) (q : Quotient) → StandsAt e m y q
    → is_zero (side e (column_x m c) y) ≡ (is_zero q.rest && is_zero (q.whole -ℤ c))
on_there e m y c q is = rw (side_there e m y c) (at_floor (divisor_of e) q.whole q.rest (number_at e m y) c is.low is.high is.exact)

pub right_there : (e : Edge) (m : ℕ) (y c : ℤ) (q : Quotient) → StandsAt e m y q
    → int_lt (side e (column_x m c) y) (pos 0) ≡ int_lt q.whole c
right_there e m y c q is = rw (side_there e m y c) (below_floor (divisor_of e) q.whole q.rest (number_at e m y) c is.low is.high is.exact)

-- bounds on a quotient

pub quotient_within : (k : ℕ) (d q rest n : ℤ) → pos 0 <ℤ d → pos 0 ≤ℤ rest → rest <ℤ d → d *ℤ q +ℤ rest ≡ n
    → (d *ℤ neg_ℤ (pos k)) ≤ℤ n → n ≤ℤ (d *ℤ pos k) → unsigned_abs q ≤ k
quotient_within k d q rest n large low high is from to =
    by_lt_z q (neg_ℤ (pos k))
    (λ far.
    let under = floor_above d q rest n (neg_ℤ (pos k)) low high is far in
    absurd (omega (arith, ints, under, from)))
    (λ near. by_lt_z (pos k) q
    (λ far.
    let above = floor_below d q rest n (pos k +ℤ pos 1) (omega (arith, ints)) low is (omega (arith, ints, far)) in
    let more = mul_sum d (pos k) (pos 1) in
    let one = times_one d in
    absurd (omega (arith, ints, above, to, more, one)))
    (λ within. omega (arith, ints, near, within)))

-- an edge of several rows loses at most 2 ^ 20 columns in a row
pub step_small : (e : Edge) (s : Quotient) → EdgeFits e → pos 8192 ≤ℤ (e.by -ℤ e.ay) → IsStep e s → unsigned_abs s.whole ≤ 2 ^ 20
step_small e s fits tall is =
    let much = mul_mono (pos 1048576) (pos 67108864) (divisor_of e) (omega (arith, ints)) (omega (arith, ints, tall)) in
    let turned = mul_neg (divisor_of e) (pos 1048576) in
    let same = *ℤ_comm (divisor_of e) (pos 1048576) in
    quotient_within 1048576 (divisor_of e) s.whole s.rest (pos 8192 *ℤ (e.bx -ℤ e.ax)) (omega (arith, ints, tall)) is.low is.high is.exact
    (omega (arith, ints, fits.ax, fits.bx, much, turned, same)) (omega (arith, ints, fits.ax, fits.bx, much, same))

pub column_fits : (e : Edge) (whole rest : ℤ) → EdgeFits e → e.ay <ℤ e.by → pos 0 ≤ℤ rest → rest <ℤ divisor_of e
    → divisor_of e *ℤ whole +ℤ rest ≡ pos 8192 *ℤ (e.bx -ℤ e.ax) → unsigned_abs whole < 2 ^ 31
column_fits e whole rest fits rises low high exact =
    let much = mul_mono (pos 2147483647) (pos 8192) (divisor_of e) (omega (arith, ints)) (omega (arith, ints, rises)) in
    let turned = mul_neg (divisor_of e) (pos 2147483647) in
    let same = *ℤ_comm (divisor_of e) (pos 2147483647) in
    let within = quotient_within 2147483647 (divisor_of e) whole rest (pos 8192 *ℤ (e.bx -ℤ e.ax)) (omega (arith, ints, rises)) low high exact
    (omega (arith, ints, fits.ax, fits.bx, much, turned, same)) (omega (arith, ints, fits.ax, fits.bx, much, same)) in
    omega (arith, within)

-- where 8192 divides the dividend and the divisor, it divides the rest
whole_rest : (rise whole rest times run : ℤ) → (pos 8192 *ℤ rise) *ℤ whole +ℤ rest ≡ pos 8192 *ℤ run → (pos 8192 *ℤ times) ≤ℤ rest
    → rest <ℤ (pos 8192 *ℤ (times +ℤ pos 1)) → pos 8192 *ℤ times ≡ rest
whole_rest rise whole rest times run exact low high = omega (arith, ints, exact, low, high, mul_assoc_z (pos 8192) rise whole)

pub step_split : (e : Edge) (whole rest times : ℤ) → divisor_of e *ℤ whole +ℤ rest ≡ pos 8192 *ℤ (e.bx -ℤ e.ax) → pos 0 ≤ℤ rest
    → rest <ℤ divisor_of e → (pos 8192 *ℤ times) ≤ℤ rest → rest <ℤ (pos 8192 *ℤ (times +ℤ pos 1))
    → IsStep e (record { whole = whole; rest = pos 8192 *ℤ times })
step_split e whole rest times exact low high from to =
    let same = whole_rest (e.by -ℤ e.ay) whole rest times (e.bx -ℤ e.ax) exact from to in
    record { exact = rw same exact; low = rw same low; high = rw same high }

-- the column of an edge lies between those of its ends

part_of_rise : (a h rise : ℤ) → unsigned_abs a ≤ 2 ^ 31 → pos 0 ≤ℤ h → h ≤ℤ rise
    → ((rise *ℤ neg_ℤ (pos 2147483648)) ≤ℤ (a *ℤ h)) × ((a *ℤ h) ≤ℤ (rise *ℤ pos 2147483648))
part_of_rise a h rise small low high =
    let most = mul_mono h a (pos 2147483648) low (omega (arith, ints, small)) in
    let least = mul_mono h (neg_ℤ (pos 2147483648)) a low (omega (arith, ints, small)) in
    let whole = mul_mono (pos 2147483648) h rise (omega (arith, ints)) high in
    let turned_h = mul_neg h (pos 2147483648) in
    let turned = mul_neg rise (pos 2147483648) in
    let one = *ℤ_comm a h in
    let two = *ℤ_comm h (pos 2147483648) in
    let three = *ℤ_comm rise (pos 2147483648) in
    (omega (arith, ints, least, whole, turned_h, turned, one, two, three), omega (arith, ints, most, whole, one, two, three))

pub column_near : (e : Edge) (m : ℕ) (y : ℤ) (q : Quotient) → EdgeFits e → m ≤ margin_limit → e.ay <ℤ e.by → e.ay ≤ℤ y → y ≤ℤ e.by
    → StandsAt e m y q → unsigned_abs q.whole < 2 ^ 20
column_near e m y q fits margin rises low high is =
    let rise = e.by -ℤ e.ay in
    let run = part_of_rise (e.bx -ℤ e.ax) (y -ℤ e.ay) (e.by -ℤ e.ay) (omega (arith, ints, fits.ax, fits.bx)) (omega (arith, ints, low)) (omega (arith, ints, high)) in
    let left = part_of_rise (e.ax -ℤ column_x m (pos 0)) (e.by -ℤ e.ay) (e.by -ℤ e.ay) (omega (arith, ints, fits.ax, margin)) (omega (arith, ints, rises)) (omega (arith, ints)) in
    let turn = *ℤ_comm (e.ax -ℤ column_x m (pos 0)) (e.by -ℤ e.ay) in
    let many = *ℤ_comm (e.by -ℤ e.ay) (pos 2147483648) in
    let over = mul_neg (e.by -ℤ e.ay) (pos 2147483648) in
    let far = *ℤ_comm (divisor_of e) (pos 524288) in
    let back = mul_neg (divisor_of e) (pos 524288) in
    let within = quotient_within 524288 (divisor_of e) q.whole q.rest (number_at e m y) (omega (arith, ints, rises)) is.low is.high is.exact
    (omega (arith, ints, run.0, left.0, turn, many, over, far, back)) (omega (arith, ints, run.1, left.1, turn, many, far)) in
    omega (arith, within)
