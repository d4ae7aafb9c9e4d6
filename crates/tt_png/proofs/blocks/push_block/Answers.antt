use Rattle.std.proofs.Common.{◌≡◌, ◌+◌, ◌++◌, codes, length, ◌∙◌}
use Rattle.tt_png.specs.Blocks.{stored}
use Rattle.tt_png.proofs.Joined.{many, parts}
use Rattle.tt_png.proofs.Parts.{ended}
use Rattle.tt_png.proofs.blocks.push_block.Goals as goal

pub returns : goal.returns
returns c =
    let content = c.args.front.now ++ (stored c.args.last c.args.block.now ++ c.args.sum.now) in
    let begun = c.begin_chunk.new.file.items in
    let more : c.extend_from_slice-4.new.self.items ≡ begun ++ content =
    rw (c.in_ok-extend_from_slice-4.ensures.items, c.in_ok-extend_from_slice-3.ensures.items, c.in_ok-extend_from_slice-2.ensures.items, c.in_ok-extend_from_slice.ensures.items, c.stored_head-head.ensures)
    (parts begun c.args.front.now c.args.block.now c.args.sum.now c.args.last) in
    c.in_ok-end_chunk.ensures
    ∙ ended c.args.file.now.items (codes "IDAT") content begun _
    (length c.args.front.now + 5 + length c.args.block.now + length c.args.sum.now) c.in_ok-at.at
    (many c.args.front.now c.args.block.now c.args.sum.now c.args.last)
    c.in_ok-at.ensures.place c.in_ok-at.ensures.begun more
