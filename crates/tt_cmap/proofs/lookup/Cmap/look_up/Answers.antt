use Rattle.std.proofs.Common.{◌≡◌, rules}
use Rattle.tt_cmap.specs.Lookup.{glyph_of, glyph_follows_ranges}
use Rattle.tt_cmap.proofs.lookup.Cmap.look_up.Goals as goal

pub returns-clause-ranges : goal.returns-clause-ranges
returns-clause-ranges c =
    let meaning : c.glyph-glyph.result ≡ glyph_of c.args.self.now c.args.c = search rules in
    rw meaning (glyph_follows_ranges c.args.self.now c.args.c)
