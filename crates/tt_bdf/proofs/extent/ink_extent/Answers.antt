use Rattle.std.proofs.Common.{◌∙◌, sym, arith}
use Rattle.std.proofs.lemmas.List.{at_drop_all, at_drop_more}
use Rattle.tt_bdf.specs.Extent.{joined_from}
use Rattle.tt_bdf.proofs.Near.{both_near}
use Rattle.tt_bdf.proofs.Nothing.{none}
use Rattle.tt_bdf.proofs.extent.ink_extent.Goals as goal

pub loop-c-preserved : goal.loop-c-preserved
loop-c-preserved c =
    let rest = at_drop_more (joined_from c.loop-c.all) c.args.characters.now c.loop-c.c-index none c.loop-c-test.true in
    record {
      box = rw (c.joined-all.ensures, c.box_of.ensures.exact) (sym rest ∙ c.loop-c.invariant.box);
      near = rw c.joined-all.ensures (both_near c.loop-c.all c.box_of.result c.loop-c.invariant.near c.box_of.ensures.near);
    }

pub returns-clause-exact : goal.returns-clause-exact
returns-clause-exact c =
    let none_left = at_drop_all (joined_from c.loop-c.all) c.args.characters.now c.loop-c.c-index (omega (arith, c.loop-c-test.false)) in
    sym none_left ∙ c.loop-c.invariant.box
