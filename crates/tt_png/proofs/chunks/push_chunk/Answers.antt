use Rattle.std.proofs.Common.{length, refl, ◌∙◌}
use Rattle.tt_png.proofs.Parts.{ended}
use Rattle.tt_png.proofs.chunks.push_chunk.Goals as goal

pub returns : goal.returns
returns c =
    c.in_ok-end_chunk.ensures
    ∙ ended c.args.file.now.items c.args.kind c.args.content.now _ _ (length c.args.content.now) c.in_ok-at.at refl
    c.in_ok-at.ensures.place c.in_ok-at.ensures.begun c.in_ok-extend_from_slice.ensures.items
