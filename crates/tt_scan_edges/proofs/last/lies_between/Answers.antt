use Rattle.std.proofs.Common.{◌≡◌, true, ℤ, SFits, w32, rules, arith}
use Rattle.std.specs.Prelude.{int_le}
use Rattle.std.specs.Int.{int_max, int_min}
use Rattle.std.proofs.lemmas.Int.{ints, to_z-of_z}
use Rattle.tt_scan_edges.specs.Winding.{is_between}
use Rattle.tt_scan_edges.proofs.last.lies_between.Goals as goal

-- a place no less than the lesser of two lies between them where it is no more than the greater
within : (a b z : ℤ) → int_le (int_min a b) z ≡ true → int_le z (int_max a b) ≡ is_between a b z
within a b z least = grind (arith, ints)

pub returns-then-min-z : goal.returns-then-min-z
returns-then-min-z c =
    let a : SFits w32 c.args.a = search rules in
    let b : SFits w32 c.args.b = search rules in
    let z : SFits w32 c.args.z = search rules in
    let low : SFits w32 c.min.result = search rules in
    let high : SFits w32 c.max.result = search rules in
    let is_low : c.min.result ≡ int_min c.args.a c.args.b = simp to_z-of_z at c.min.ensures.value in
    let is_high : c.max.result ≡ int_max c.args.a c.args.b = simp to_z-of_z at c.max.ensures.value in
    let least : int_le (int_min c.args.a c.args.b) c.args.z ≡ true = rw (← is_low) (simp to_z-of_z at c.if-min-z.true) in
    simp to_z-of_z (rw is_high (within c.args.a c.args.b c.args.z least))
