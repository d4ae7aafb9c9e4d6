use Rattle.std.proofs.Common.{◌≤◌}
use Rattle.tt_cmap.specs.Ranges.{subtable_view, IfSegments}
use Rattle.tt_cmap.proofs.Halves.{not-beyond}
use Rattle.tt_cmap.proofs.subtable.Subtable.glyph.Goals as goal

pub returns-in-Some-clause-beyond : goal.returns-in-Some-clause-beyond
returns-in-Some-clause-beyond c =
    let s = subtable_view c.args.self.now in
    let plane : IfSegments s (c.args.c ≤ 65535) = rw c.in-Some.is at c.search.ensures.plane in
    not-beyond s c.args.c c.glyph_by.result plane
