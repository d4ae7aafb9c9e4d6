-- The side of an edge on which the centre of a column lies.
use Rattle.std.proofs.Common.{◌≡◌, ℕ, ◌^◌, ◌<◌, ap, ◌∙◌, true, refl, unsigned_abs, SFits, w64, arith}
use Rattle.std.specs.Prelude.{ℤ, pos, ◌+ℤ◌, ◌-ℤ◌, ◌*ℤ◌, neg_ℤ, ◌≤ℤ◌, ◌<ℤ◌}
use Rattle.std.proofs.lemmas.Int.{ints, by_lt_z}
use lib.IntN.{*ℤ_comm}
use Rattle.tt_core.specs.Products.{mul_diff, neg_mul, mul_neg, mul_assoc_z, mul_mono, cancel_le}
use Rattle.tt_scan_edges.specs.declared.edge.Edge.{Edge}
use Rattle.tt_scan_edges.specs.Winding.{EdgeFits, column_x, side, is_zero, is_between}

-- the numbers computed for a rising edge at a height of its range fit
pub record Computed (e : Edge) (y : ℤ) : Type 0 where
  pub run : SFits w64 (e.bx -ℤ e.ax)
  pub rise : SFits w64 (e.by -ℤ e.ay)
  pub height : SFits w64 (y -ℤ e.ay)
  pub divisor : SFits w64 (pos 8192 *ℤ (e.by -ℤ e.ay))
  pub above : pos 2 ≤ℤ (pos 8192 *ℤ (e.by -ℤ e.ay))

pub computed : (e : Edge) (y : ℤ) → EdgeFits e → e.ay <ℤ e.by → e.ay ≤ℤ y → y ≤ℤ e.by → Computed e y
computed e y fits rises low high = record {
  run = omega (arith, ints);
  rise = omega (arith, ints);
  height = omega (arith, ints);
  divisor = omega (arith, ints);
  above = omega (arith, ints);
}

pub sum_fits : (a b : ℤ) → unsigned_abs a < 2 ^ 62 → unsigned_abs b < 2 ^ 62 → SFits w64 (a +ℤ b)
sum_fits a b left right = omega (arith, ints)

-- the rest of a number after the column's multiples of a divisor
side_is : (run h rise at c : ℤ) → run *ℤ h -ℤ rise *ℤ (pos 8192 *ℤ c -ℤ at) ≡ (run *ℤ h +ℤ rise *ℤ at) -ℤ (pos 8192 *ℤ rise) *ℤ c
side_is run h rise at c = omega (arith, ints, mul_diff rise (pos 8192 *ℤ c) at, mul_assoc_z rise (pos 8192) c, *ℤ_comm rise (pos 8192), ap (λ (z : ℤ). z *ℤ c) (*ℤ_comm rise (pos 8192)))

pub side_at : (e : Edge) (m : ℕ) (y at c n d : ℤ) → at ≡ e.ax -ℤ column_x m (pos 0) → n ≡ (e.bx -ℤ e.ax) *ℤ (y -ℤ e.ay) +ℤ (e.by -ℤ e.ay) *ℤ at → d ≡ pos 8192 *ℤ (e.by -ℤ e.ay) → side e (column_x m c) y ≡ n -ℤ d *ℤ c
side_at e m y at c n d is_at is_n is_d =
    let far : column_x m c -ℤ e.ax ≡ pos 8192 *ℤ c -ℤ at = omega (arith, ints) in
    rw (far, is_n, is_d) (side_is (e.bx -ℤ e.ax) (y -ℤ e.ay) (e.by -ℤ e.ay) at c)

-- a point of the line through an edge, at a height of the edge's range, is in the edge's range of x
box_right : (run rise h t : ℤ) → pos 0 <ℤ rise → pos 0 ≤ℤ h → h ≤ℤ rise → run *ℤ h ≡ rise *ℤ t → pos 0 ≤ℤ run → (pos 0 ≤ℤ t) × (t ≤ℤ run)
box_right run rise h t up low high on right =
    let zero = mul_mono run (pos 0) h right low in
    let top = mul_mono run h rise right high in (
      cancel_le rise (pos 0) t up (omega (arith, ints, *ℤ_comm run (pos 0), *ℤ_comm rise (pos 0))),
      cancel_le rise t run up (omega (arith, ints, *ℤ_comm run rise)),
    )

box_left : (run rise h t : ℤ) → pos 0 <ℤ rise → pos 0 ≤ℤ h → h ≤ℤ rise → run *ℤ h ≡ rise *ℤ t → run <ℤ pos 0 → (run ≤ℤ t) × (t ≤ℤ pos 0)
box_left run rise h t up low high on left =
    let turned = box_right (neg_ℤ run) rise h (neg_ℤ t) up low high (omega (arith, ints, neg_mul run h, mul_neg rise t)) (omega (arith, ints)) in
    (omega (arith, ints, turned.1), omega (arith, ints, turned.0))

in_box : (ax bx x run rise h t : ℤ) → run ≡ bx -ℤ ax → t ≡ x -ℤ ax → pos 0 <ℤ rise → pos 0 ≤ℤ h → h ≤ℤ rise → run *ℤ h ≡ rise *ℤ t → is_between ax bx x ≡ true
in_box ax bx x run rise h t is_run is_t up low high on =
    by_lt_z run (pos 0)
    (λ left. let box = box_left run rise h t up low high on left in grind (arith, ints, box.0, box.1))
    (λ right. let box = box_right run rise h t up low high on right in grind (arith, ints, box.0, box.1))

zero_means : (a b : ℤ) → is_zero (a -ℤ b) ≡ true → a ≡ b
zero_means a b h = grind (arith, ints)

pub on_rising : (e : Edge) (x y : ℤ) → e.ay <ℤ e.by → e.ay ≤ℤ y → y ≤ℤ e.by → is_zero (side e x y) ≡ true → is_between e.ax e.bx x ≡ true
on_rising e x y rises low high on =
    in_box e.ax e.bx x (e.bx -ℤ e.ax) (e.by -ℤ e.ay) (y -ℤ e.ay) (x -ℤ e.ax) refl refl (omega (arith, ints)) (omega (arith, ints)) (omega (arith, ints))
    (zero_means ((e.bx -ℤ e.ax) *ℤ (y -ℤ e.ay)) ((e.by -ℤ e.ay) *ℤ (x -ℤ e.ax)) on)

-- at the height of a level edge every point is on the line through it
times_zero : (a : ℤ) → a *ℤ pos 0 ≡ pos 0
times_zero a = omega (arith, ints)

pub side_level : (e : Edge) (x y : ℤ) → e.ay ≡ e.by → y ≡ e.ay → is_zero (side e x y) ≡ true
side_level e x y level here =
    let height : y -ℤ e.ay ≡ pos 0 = omega (arith, ints) in
    let rise : e.by -ℤ e.ay ≡ pos 0 = omega (arith, ints) in
    let one = ap (λ (z : ℤ). (e.bx -ℤ e.ax) *ℤ z) height ∙ times_zero (e.bx -ℤ e.ax) in
    let two = ap (λ (z : ℤ). z *ℤ (x -ℤ e.ax)) rise ∙ *ℤ_comm (pos 0) (x -ℤ e.ax) ∙ times_zero (x -ℤ e.ax) in
    grind (arith, ints)

-- the other side, seen from b to a
turned_round : (run h rise t : ℤ) → neg_ℤ run *ℤ (h -ℤ rise) -ℤ neg_ℤ rise *ℤ (t -ℤ run) ≡ neg_ℤ (run *ℤ h -ℤ rise *ℤ t)
turned_round run h rise t = omega (arith, ints, neg_mul run (h -ℤ rise), mul_diff run h rise, neg_mul rise (t -ℤ run), mul_diff rise t run, *ℤ_comm run rise)

pub side_reversed : (e u : Edge) (x y : ℤ) → u.ax ≡ e.bx → u.ay ≡ e.by → u.bx ≡ e.ax → u.by ≡ e.ay → side u x y ≡ neg_ℤ (side e x y)
side_reversed e u x y ax ay bx by =
    let run : u.bx -ℤ u.ax ≡ neg_ℤ (e.bx -ℤ e.ax) = omega (arith, ints) in
    let rise : u.by -ℤ u.ay ≡ neg_ℤ (e.by -ℤ e.ay) = omega (arith, ints) in
    let height : y -ℤ u.ay ≡ (y -ℤ e.ay) -ℤ (e.by -ℤ e.ay) = omega (arith, ints) in
    let far : x -ℤ u.ax ≡ (x -ℤ e.ax) -ℤ (e.bx -ℤ e.ax) = omega (arith, ints) in
    rw (run, rise, height, far) (turned_round (e.bx -ℤ e.ax) (y -ℤ e.ay) (e.by -ℤ e.ay) (x -ℤ e.ax))
