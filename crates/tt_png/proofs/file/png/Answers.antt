use Rattle.std.proofs.Common.{append_assoc, length, refl, ap, ◌∙◌}
use Rattle.tt_png.specs.Chunks.{chunk}
use Rattle.tt_png.specs.Png.{png_text}
use Rattle.tt_png.proofs.Lengths.{lengths}
use Rattle.tt_png.proofs.file.png.Goals as goal

pub returns-clause-exact : goal.returns-clause-exact
unfolding png_text chunk
returns-clause-exact c =
    rw (c.in_ok-push_chunk-3.ensures, c.in_ok-push_blocks.ensures, c.in_ok-push_chunk-2.ensures, c.in_ok-push_chunk.ensures, c.in_ok-extend_from_slice.ensures.items, c.in_ok-file.ensures.items, c.header_data.ensures, c.to_be_bytes-sum.ensures, c.adler_32.ensures, c.as_slice-content.ensures.value, c.in_ok-filtered.ensures.exact)
    (simp append_assoc refl)

pub returns-clause-len : goal.returns-clause-len
returns-clause-len c =
    ap length (returns-clause-exact c) ∙ lengths c.args.width c.args.height c.args.rows.now c.requires.bytes
