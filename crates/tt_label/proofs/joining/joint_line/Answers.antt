use Rattle.std.proofs.Common.{refl, get_or, SFits, w32, arith}
use Rattle.std.proofs.lemmas.Int.{ints, to_z-of_z}
use Rattle.tt_label.proofs.Joined.{glyphs_joined, joint_is}
use Rattle.tt_label.proofs.Larger.{pens_within}
use Rattle.tt_label.proofs.Drawn.{joint_glyphs}
use Rattle.tt_label.specs.Views.{placements_of}
use Rattle.tt_label.proofs.joining.joint_line.Goals as goal

pub returns-clause-line : goal.returns-clause-line
returns-clause-line c =
    let first = get_or c.args.lines.now 0 c.index-lines-0.result in
    let risen = first.line.risen in
    let rows = first.line.high.1 in
    let fits : SFits w32 first.line.rise = omega (arith, ints, risen, rows) in
    rw (joint_is c.args.lines.now c.index-lines-0.result c.requires.1.some, c.in_ok-glyphs.ensures) (simp to_z-of_z refl)

pub invariant_of-line-clause-few : goal.invariant_of-line-clause-few
invariant_of-line-clause-few c =
    rw (c.in_ok-glyphs.ensures, ← glyphs_joined c.args.lines.now, ← joint_glyphs (placements_of c.args.lines.now)) c.requires.1.few

pub invariant_of-line-clause-pens : goal.invariant_of-line-clause-pens
invariant_of-line-clause-pens c =
    rw c.in_ok-glyphs.ensures (pens_within c.args.lines.now c.index-lines-0.result c.requires.1.some c.requires.1.alike)
