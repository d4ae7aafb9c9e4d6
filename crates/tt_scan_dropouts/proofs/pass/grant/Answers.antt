use Rattle.std.proofs.Common.{◌≡◌, false, SFits, w32, w64, rules, arith}
use Rattle.std.proofs.lemmas.Int.{ints, to_z-of_z}
use Rattle.tt_scan_gaps.specs.Gaps.{is_odd}
use Rattle.tt_scan_dropouts.proofs.PassSteps.{granted}
use Rattle.tt_scan_dropouts.proofs.pass.grant.Goals as goal

pub returns-in_ok-push : goal.returns-in_ok-push
returns-in_ok-push c = λ p j.
    let gives : is_odd c.args.wish.before ≡ false = grind (arith, c.if-wish-ne1.true) in
    let line : SFits w32 c.args.wish.line = search rules in
    let pixel : SFits w64 c.args.wish.pixel = search rules in
    let wide : SFits w64 c.args.wish.line = omega (arith, ints, line) in
    let row : c.from.result ≡ c.args.wish.line = simp to_z-of_z at c.from.ensures in
    let from : SFits w64 c.from.result = rw row wide in
    rw (c.in_ok-push.ensures.items, gives) (simp to_z-of_z (rw row (granted c.args.added.now.items (record { column = c.args.wish.pixel; row = c.args.wish.line }) p j)))
