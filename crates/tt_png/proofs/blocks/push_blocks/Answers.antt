use Rattle.std.proofs.Common.{rules, ◌∙◌, arith}
use Rattle.tt_png.proofs.Joined.{block_more, last_block}
use Rattle.tt_png.proofs.blocks.push_blocks.Goals as goal

pub loop-rest-preserved : goal.loop-rest-preserved
loop-rest-preserved c = record {
  whole = rw (c.in_ok-push_block.ensures, c.split_at.ensures.front, c.split_at.ensures.back)
      (block_more c.loop-rest.file.items c.loop-rest.front.now c.loop-rest.rest.now c.args.sum (omega (arith, c.loop-rest-test.true)))
      ∙ c.loop-rest.invariant.whole;
  front = search rules;
}

pub returns : goal.returns
returns c =
    c.in_ok-push_block-2.ensures
    ∙ last_block c.loop-rest.file.items c.loop-rest.front.now c.loop-rest.rest.now c.args.sum (omega (arith, c.loop-rest-test.false))
    ∙ c.loop-rest.invariant.whole
