use Rattle.std.proofs.Common.{◌<◌, ◌≤◌, length, refl}
use Rattle.tt_metrics.specs.Metrics.{loca_format_of, glyphs_of}
use Rattle.tt_glyf.specs.Loca.{loca_size}
use Rattle.tt_glyf.proofs.Locations.{locations-refused, locations-given, locations-whole}
use Rattle.tt_glyf.proofs.loca.Loca.open.Goals as goal

short : (c : goal.After-new)
    → length c.args.loca.now < loca_size (loca_format_of c.args.metrics.now) (glyphs_of c.args.metrics.now)
short c =
    rw (c.from.ensures, c.entry_size.ensures.exact, c.loca_format-format.ensures, c.glyphs-glyphs.ensures.exact)
    at c.if-loca-entry_size.true

pub returns-then-loca-entry_size-clause-exact : goal.returns-then-loca-entry_size-clause-exact
returns-then-loca-entry_size-clause-exact c = rw c.new.ensures (locations-refused c.args.loca.now c.args.metrics.now (short c))

pub returns-then-loca-entry_size-clause-fault : goal.returns-then-loca-entry_size-clause-fault
returns-then-loca-entry_size-clause-fault c = (short c, c.new.ensures)

pub returns-clause-whole : goal.returns-clause-whole
returns-clause-whole c = rw (c.loca_format-format.ensures, c.glyphs-glyphs.ensures.exact) refl

pub returns-clause-exact : goal.returns-clause-exact
returns-clause-exact c =
    let m = c.args.metrics.now in
    let room : loca_size (loca_format_of m) (glyphs_of m) ≤ length c.args.loca.now =
    rw (c.from.ensures, c.entry_size.ensures.exact, c.loca_format-format.ensures, c.glyphs-glyphs.ensures.exact)
    at c.if-loca-entry_size.false in
    rw (c.loca_format-format.ensures, c.glyphs-glyphs.ensures.exact) (locations-given c.args.loca.now m room)

pub returns-clause-sound : goal.returns-clause-sound
returns-clause-sound c = locations-whole c.args.loca.now c.args.metrics.now _ (returns-clause-exact c)
