use Rattle.std.proofs.Common.{◌≡◌, ◌++◌, ◌≤◌, length}
use Rattle.tt_png.specs.Blocks.{chunks_from, image_chunks}
use Rattle.tt_png.proofs.blocks.push_blocks.Given as goal

-- the file so far, and then the chunks of the rest
abbrev pub invariant-loop-rest : goal.invariant-loop-rest
invariant-loop-rest l = record {
  whole : l.file.items ++ chunks_from l.front l.rest l.sum ≡ l.fn.file.items ++ image_chunks l.content l.sum;
  front : length l.front ≤ 2;
}

abbrev pub decreases-loop-rest : goal.decreases-loop-rest
decreases-loop-rest l = length l.rest
