use Rattle.std.proofs.Common.{rules}
use Rattle.tt_cmap.specs.WideLookup.{wide_cmap_of}
use Rattle.tt_cmap.proofs.WideWhole.{wide-cmap-whole}
use Rattle.tt_cmap.proofs.lookup.wide.WideCmap.open.Goals as goal

pub returns-clause-exact : goal.returns-clause-exact
unfolding wide_cmap_of
returns-clause-exact c = search rules

pub returns-clause-sound : goal.returns-clause-sound
returns-clause-sound c = wide-cmap-whole c.args.table.now c.args.glyphs _ (returns-clause-exact c)
