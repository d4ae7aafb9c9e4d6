use Rattle.std.proofs.Common.{◌≡◌, ◌∙◌, ◌+ℤ◌, ◌-ℤ◌, ◌*ℤ◌, ◌<ℤ◌, pos, ℤ, SFits, w32, w64, refl, rules, arith}
use Rattle.std.proofs.lemmas.Int.{ints, to_z-of_z}
use Rattle.tt_scan_edges.specs.Walks.{number_at}
use Rattle.tt_scan_edges.specs.Winding.{column_x, side}
use Rattle.tt_scan_edges.proofs.Floors.{at_floor, below_floor}
use Rattle.tt_scan_edges.proofs.Sides.{Computed, computed, sum_fits, side_at}
use Rattle.tt_scan_edges.proofs.Walks.{column_near}
use Rattle.tt_scan_edges.proofs.crossing.standing.Goals as goal

pub overflow_add-sum : goal.overflow_add-sum
overflow_add-sum c =
    let one : SFits w64 c.product.result = search rules in
    let two : SFits w64 c.product-2.result = search rules in
    simp to_z-of_z (sum_fits c.product.result c.product-2.result c.product.ensures.bound c.product-2.ensures.bound)

pub overflow_mul-rise : goal.overflow_mul-rise
overflow_mul-rise c =
    let rise : SFits w64 c.rise-rise.result = search rules in
    simp to_z-of_z (omega (arith, ints, c.rise-rise.ensures.bound))

pub divided-requires : goal.divided-requires
divided-requires c =
    let p : Computed c.args.up.edge c.args.at.y =
    computed c.args.up.edge c.args.at.y c.args.up.fits c.args.up.rises c.requires.low c.requires.high in
    let rise : SFits w64 c.rise-rise.result = search rules in
    let divisor : SFits w64 (pos 8192 *ℤ c.rise-rise.result) = omega (arith, ints, c.rise-rise.ensures.bound) in
    record { divisor = simp to_z-of_z (rw c.rise-rise.ensures.exact p.above) }

pub product-requires-clause-right : goal.product-requires-clause-right
product-requires-clause-right c =
    let p : Computed c.args.up.edge c.args.at.y =
    computed c.args.up.edge c.args.at.y c.args.up.fits c.args.up.rises c.requires.low c.requires.high in
    let ay : SFits w32 c.args.up.edge.ay = search rules in
    let y : SFits w64 c.args.at.y = search rules in
    let from : SFits w64 c.from.result = search rules in
    let is_from = simp to_z-of_z at c.from.ensures in
    let height : SFits w64 (c.args.at.y -ℤ c.from.result) = rw is_from p.height in
    simp to_z-of_z (rw is_from (omega (arith, ints, c.requires.low, c.requires.high, c.args.up.fits.ay, c.args.up.fits.by)))

-- the dividend and the divisor
abbrev number : goal.After-divided → ℤ
number c = c.product.result +ℤ c.product-2.result

abbrev divisor : goal.After-divided → ℤ
divisor c = pos 8192 *ℤ (c.args.up.edge.by -ℤ c.args.up.edge.ay)

number_is : (c : goal.After-divided) → number c ≡ number_at c.args.up.edge c.args.at.frame.margin c.args.at.y
number_is c =
    let ax : SFits w32 c.args.up.edge.ax = search rules in
    let ay : SFits w32 c.args.up.edge.ay = search rules in
    let y : SFits w64 c.args.at.y = search rules in
    let p : Computed c.args.up.edge c.args.at.y =
    computed c.args.up.edge c.args.at.y c.args.up.fits c.args.up.rises c.requires.low c.requires.high in
    let run : SFits w64 c.run.result = search rules in
    let rise : SFits w64 c.rise-rise.result = search rules in
    let from : SFits w64 c.from.result = search rules in
    let is_from = simp to_z-of_z at c.from.ensures in
    let height : SFits w64 (c.args.at.y -ℤ c.from.result) = rw is_from p.height in
    let far : SFits w64 c.from_centre.result = search rules in
    let at = simp to_z-of_z at c.from_centre.ensures.exact in
    let left = simp to_z-of_z at c.product.ensures.exact in
    let right = simp to_z-of_z at c.product-2.ensures.exact in
    rw (left, right, at, is_from, c.run.ensures.exact, c.rise-rise.ensures.exact) refl

parts : (c : goal.After-divided) (k : ℤ) → (side c.args.up.edge (column_x c.args.at.frame.margin k) c.args.at.y ≡ number c -ℤ divisor c *ℤ k) × (divisor c *ℤ c.divided.result.whole +ℤ c.divided.result.rest ≡ number c) × (c.divided.result.rest <ℤ divisor c)
parts c k =
    let rise : SFits w64 c.rise-rise.result = search rules in
    let one : SFits w64 c.product.result = search rules in
    let two : SFits w64 c.product-2.result = search rules in
    let sum : SFits w64 (c.product.result +ℤ c.product-2.result) = sum_fits c.product.result c.product-2.result c.product.ensures.bound c.product-2.ensures.bound in
    let divisor : SFits w64 (pos 8192 *ℤ c.rise-rise.result) = omega (arith, ints, c.rise-rise.ensures.bound) in (
      side_at c.args.up.edge c.args.at.frame.margin c.args.at.y (c.args.up.edge.ax -ℤ column_x c.args.at.frame.margin (pos 0)) k (number c) (pos 8192 *ℤ (c.args.up.edge.by -ℤ c.args.up.edge.ay)) refl (number_is c) refl,
      rw c.rise-rise.ensures.exact at (simp to_z-of_z at c.divided.ensures.exact),
      rw c.rise-rise.ensures.exact at (simp to_z-of_z at c.divided.ensures.high),
    )

pub returns-clause-on : goal.returns-clause-on
returns-clause-on c = λ k.
    let p = parts c k in
    rw p.0 (at_floor (divisor c) c.divided.result.whole c.divided.result.rest (number c) k c.divided.ensures.low p.2 p.1)

pub returns-clause-right : goal.returns-clause-right
returns-clause-right c = λ k.
    let p = parts c k in
    rw p.0 (below_floor (divisor c) c.divided.result.whole c.divided.result.rest (number c) k c.divided.ensures.low p.2 p.1)

pub returns-clause-stands : goal.returns-clause-stands
returns-clause-stands c =
    let p = parts c (pos 0) in
    record { exact = p.1 ∙ number_is c; low = c.divided.ensures.low; high = p.2 }

pub returns-clause-near : goal.returns-clause-near
returns-clause-near c =
    let p = parts c (pos 0) in
    column_near c.args.up.edge c.args.at.frame.margin c.args.at.y c.divided.result c.args.up.fits c.args.at.fits.margin c.args.up.rises
    c.requires.low c.requires.high
    (record { exact = p.1 ∙ number_is c; low = c.divided.ensures.low; high = p.2 })
