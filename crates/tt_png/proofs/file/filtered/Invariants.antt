use Rattle.std.proofs.Common.{◌≡◌, ◌++◌, ◌*◌, length}
use Rattle.tt_png.specs.Png.{filtered}
use Rattle.tt_png.proofs.file.filtered.Given as goal

-- the data so far, and then the remaining rows
abbrev pub invariant-loop-left : goal.invariant-loop-left
invariant-loop-left l = record {
  whole : l.content.items ++ filtered l.bytes l.left l.rest ≡ filtered l.bytes l.height l.rows;
  rest : length l.rest ≡ l.bytes * l.left;
}

abbrev pub decreases-loop-left : goal.decreases-loop-left
decreases-loop-left l = l.left
