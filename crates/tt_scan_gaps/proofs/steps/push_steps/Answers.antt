use Rattle.std.proofs.Common.{List, refl, ◌≡◌, append_assoc, arith, SFits, w32, rules}
use Rattle.std.proofs.lemmas.Int.{to_z-of_z}
use Rattle.tt_scan_gaps.specs.Crossings.{lines_crossed}
use Rattle.tt_scan_gaps.specs.declared.mark.Step.{Step}
use Rattle.tt_scan_gaps.proofs.Walks.{more_steps}
use Rattle.tt_scan_gaps.proofs.steps.push_steps.Goals as goal

pub loop-k-preserved : goal.loop-k-preserved
loop-k-preserved c =
    let more = more_steps c.args.edge c.loop-k.k in
    rw (c.in_ok-push.ensures.items, c.loop-k.invariant, c.crossing.ensures, more, append_assoc) refl

pub returns : goal.returns
returns c =
    let all : c.loop-k.k ≡ lines_crossed c.args.edge = omega (arith, c.lines_crossed-k-end.ensures.exact) in
    let height : SFits w32 c.args.edge.by = search rules in
    let pushed = simp to_z-of_z at c.in_ok-push-2.ensures.items in
    rw (pushed, c.loop-k.invariant, all, append_assoc) (refl {A = List Step})
