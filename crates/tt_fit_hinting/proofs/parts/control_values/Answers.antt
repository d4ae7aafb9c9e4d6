use Rattle.std.proofs.Common.{refl, rules, SFits, w32, arith}
use Rattle.std.proofs.lemmas.Int.{to_z-of_z}
use Rattle.std.proofs.lemmas.List.FromFn.{map-range_with_len_more}
use Rattle.tt_fit_hinting.specs.Parts.{control_value}
use Rattle.tt_fit_outline.specs.Views.{size_view}
use Rattle.tt_fit_hinting.proofs.parts.control_values.Goals as goal

pub loop-i-preserved : goal.loop-i-preserved
loop-i-preserved c =
    let f = control_value (size_view c.args.size) c.args.cvt.now in
    let more = map-range_with_len_more f 0 c.loop-i.i c.loop-i.i (omega arith) in
    let fits : SFits w32 c.control_value.result = search rules in
    let pushed = simp to_z-of_z at c.in_ok-push.ensures.items in
    rw (pushed, c.loop-i.invariant, c.control_value.ensures, more) refl
