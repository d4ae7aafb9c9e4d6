-- An edge followed from row to row, and its crossing in each row.
use Rattle.std.proofs.Common.{◌≡◌, ◌≢◌, ℕ, ◌≤◌, unsigned_abs, true, ◌&&◌, refl, arith}
use Rattle.std.specs.Prelude.{ℤ, pos, negsuc, ◌+ℤ◌, ◌-ℤ◌, ◌*ℤ◌, ◌≤ℤ◌, ◌<ℤ◌, IfSome}
use Rattle.std.proofs.lemmas.Int.{ints, by_lt_z}
use Rattle.tt_core.specs.Limits.{margin_limit}
use Rattle.tt_scan_edges.specs.declared.edge.Cross.{Cross}
use Rattle.tt_scan_edges.specs.declared.edge.Edge.{Edge}
use Rattle.tt_scan_edges.specs.declared.quotient.Quotient.{Quotient}
use Rattle.tt_scan_edges.specs.declared.walk.Walk.{Walk}
use Rattle.tt_scan_edges.specs.Crossing.{spans, IsCross}
use Rattle.tt_scan_edges.specs.Walks.{StandsAt, IsWalk, IsWalkUp, WalkFits, at_of, step_of, turned_round}
use Rattle.tt_scan_edges.specs.Winding.{EdgeFits, is_between, is_zero}
use Rattle.tt_scan_edges.proofs.Crosses.{rising_cross, round_cross, from_lower, to_upper, from_lower_turned, to_upper_turned}
use Rattle.tt_scan_edges.proofs.Walks.{on_there, right_there, goes_down, goes_left, column_near, step_small}

-- a rising edge, where the row above meets it too
up_crosses : (u : Edge) (m : ℕ) (y : ℤ) (q : Quotient) (r : Cross) → StandsAt u m y q → u.ay ≤ℤ y → y <ℤ u.by
    → ((c : ℤ) → spans r.touch c ≡ (is_zero q.rest && is_zero (q.whole -ℤ c))) → IfSome r.touch (λ t. t.0 ≤ℤ t.1)
    → r.turn ≡ pos 1 → r.first ≡ q.whole +ℤ pos 1 → IsCross u m y r
up_crosses u m y q r is low high touch order turn first =
    rising_cross u m y r q.whole (λ (c : ℤ). is_zero q.rest && is_zero (q.whole -ℤ c)) low high
    (λ c. on_there u m y c q is) (λ c. right_there u m y c q is) touch order turn first

pub walk_crosses : (e : Edge) (m : ℕ) (y : ℤ) (w : Walk) (r : Cross) → IsWalk e m y w → e.ay ≢ e.by → is_between e.ay e.by y ≡ true
    → is_between e.ay e.by (y +ℤ pos 8192) ≡ true
    → ((c : ℤ) → spans r.touch c ≡ (is_zero (at_of w).rest && is_zero (w.column -ℤ c))) → IfSome r.touch (λ t. t.0 ≤ℤ t.1)
    → r.turn ≡ w.turn → r.first ≡ w.column +ℤ pos 1 → IsCross e m y r
walk_crosses e m y w r is sloped here above touch order turn first =
    by_lt_z e.ay e.by
    (λ up.
    let low = from_lower e.ay e.by y up here in
    let high = to_upper e.ay e.by (y +ℤ pos 8192) up above in
    up_crosses e m y (at_of w) r (is.rises up).at low (omega (arith, ints, high)) touch order (rw (turn, (is.rises up).turn) refl) first)
    (λ more. by_lt_z e.by e.ay
    (λ down.
    let low = from_lower_turned e.ay e.by y down here in
    let high = to_upper_turned e.ay e.by (y +ℤ pos 8192) down above in
    let one : Cross = record { touch = r.touch; turn = pos 1; first = r.first; bound = omega arith; near = r.near } in
    let falls = (is.falls down).turn in
    round_cross e (turned_round e) m y one r refl refl refl refl
    (up_crosses (turned_round e) m y (at_of w) one (is.falls down).at low (omega (arith, ints, high)) touch order refl first)
    refl (rw (turn, falls) refl) refl)
    (λ other. absurd (sloped (omega (arith, ints)))))

-- the numbers of a walked edge are small

times_low : (a part : ℤ) → pos 0 ≤ℤ (pos 8192 *ℤ a +ℤ part) → part <ℤ pos 8192 → pos 0 ≤ℤ a
times_low a part low high = omega (arith, ints, low, high)

times_low_alone : (a : ℤ) → pos 0 ≤ℤ (pos 8192 *ℤ a) → pos 0 ≤ℤ a
times_low_alone a low = omega (arith, ints, low)

up_fits : (u : Edge) (m : ℕ) (z turn : ℤ) (w : Walk) → EdgeFits u → m ≤ margin_limit → pos 8192 ≤ℤ (u.by -ℤ u.ay) → u.ay ≤ℤ z → z ≤ℤ u.by
    → IsWalkUp u m z turn w → WalkFits w
up_fits u m z turn w fits margin tall low high is =
    let rise = is.rise in
    record {
      column = column_near u m z (at_of w) fits margin (omega (arith, ints, tall)) low high is.at;
      rest = times_low w.rest w.part is.at.low is.part_high;
      part = is.part_low;
      step = step_small u (step_of w) fits tall is.step;
      step_rest = times_low_alone w.step_rest is.step.low;
      rise = omega (arith, ints, rise, tall);
    }

-- an edge that meets a row and the row above, at any height that it meets
pub walk_fits : (e : Edge) (m : ℕ) (y z : ℤ) (w : Walk) → EdgeFits e → m ≤ margin_limit → e.ay ≢ e.by → is_between e.ay e.by y ≡ true
    → is_between e.ay e.by (y +ℤ pos 8192) ≡ true → is_between e.ay e.by z ≡ true → IsWalk e m z w → WalkFits w
walk_fits e m y z w fits margin sloped here above there is =
    by_lt_z e.ay e.by
    (λ up.
    let low = from_lower e.ay e.by y up here in
    let high = to_upper e.ay e.by (y +ℤ pos 8192) up above in
    up_fits e m z (pos 1) w fits margin (omega (arith, ints, low, high)) (from_lower e.ay e.by z up there) (to_upper e.ay e.by z up there) (is.rises up))
    (λ more. by_lt_z e.by e.ay
    (λ down.
    let low = from_lower_turned e.ay e.by y down here in
    let high = to_upper_turned e.ay e.by (y +ℤ pos 8192) down above in
    up_fits (turned_round e) m z (negsuc 0) w (record { ax = fits.bx; ay = fits.by; bx = fits.ax; by = fits.ay }) margin
    (omega (arith, ints, low, high)) (from_lower_turned e.ay e.by z down there) (to_upper_turned e.ay e.by z down there) (is.falls down))
    (λ other. absurd (sloped (omega (arith, ints)))))

pub turn_small : (e : Edge) (m : ℕ) (y : ℤ) (w : Walk) → e.ay ≢ e.by → IsWalk e m y w → unsigned_abs w.turn ≤ 1
turn_small e m y w sloped is =
    by_lt_z e.ay e.by
    (λ up. let one = (is.rises up).turn in omega (arith, ints, one))
    (λ more. by_lt_z e.by e.ay
    (λ down. let one = (is.falls down).turn in omega (arith, ints, one))
    (λ other. absurd (sloped (omega (arith, ints)))))

pub turn_some : (e : Edge) (m : ℕ) (y : ℤ) (w : Walk) → e.ay ≢ e.by → IsWalk e m y w → w.turn ≢ pos 0
turn_some e m y w sloped is = λ none.
    by_lt_z e.ay e.by
    (λ up. let one = (is.rises up).turn in absurd (omega (arith, ints, one, none)))
    (λ more. by_lt_z e.by e.ay
    (λ down. let one = (is.falls down).turn in absurd (omega (arith, ints, one, none)))
    (λ other. absurd (sloped (omega (arith, ints)))))

pub back_up : (e : Edge) (m : ℕ) (y : ℤ) (w : Walk) → IsWalk e m ((y +ℤ pos 8192) -ℤ pos 8192) w → IsWalk e m y w
back_up e m y w is = let same : (y +ℤ pos 8192) -ℤ pos 8192 ≡ y = omega (arith, ints) in rw same at is

-- a row down

pub goes_down_up : (e : Edge) (m : ℕ) (y turn : ℤ) (w v : Walk) → IsWalkUp e m y turn w → v.step ≡ w.step → v.step_rest ≡ w.step_rest → v.rise ≡ w.rise
    → v.part ≡ w.part → v.turn ≡ w.turn
    → (w.step_rest ≤ℤ w.rest → (v.column ≡ w.column -ℤ w.step) × (v.rest ≡ w.rest -ℤ w.step_rest))
    → (w.rest <ℤ w.step_rest → (v.column ≡ (w.column -ℤ w.step) -ℤ pos 1)
    × (v.rest ≡ (w.rest -ℤ w.step_rest) +ℤ w.rise))
    → IsWalkUp e m (y -ℤ pos 8192) turn v
goes_down_up e m y turn w v is step step_rest rise part turns down left =
    let low = is.part_low in
    let high = is.part_high in
    let tall = is.rise in
    record {
      at = by_lt_z w.rest w.step_rest
          (λ less. goes_left e m y (at_of w) (step_of w) (at_of v) is.at is.step (left less).0
          (rw ((left less).1, part) (omega (arith, ints, tall))) (omega (arith, ints, less, high)))
          (λ more. goes_down e m y (at_of w) (step_of w) (at_of v) is.at is.step (down more).0
          (rw ((down more).1, part) (omega (arith, ints))) (rw ((down more).1, part) (omega (arith, ints, more, low))));
      step = rw (step, step_rest) is.step;
      rise = rw rise is.rise;
      part_low = rw part is.part_low;
      part_high = rw part is.part_high;
      turn = rw turns is.turn;
    }
