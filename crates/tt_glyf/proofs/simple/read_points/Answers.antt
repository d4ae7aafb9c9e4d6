use Rattle.std.proofs.Common.{rules}
use Rattle.tt_glyf.specs.InPlace.{placed_of}
use Rattle.tt_glyf.proofs.InPlace.{placed-are}
use Rattle.tt_glyf.proofs.simple.read_points.Goals as goal

pub returns-in_err-list : goal.returns-in_err-list
unfolding placed_of
returns-in_err-list c = rw (← placed-are c.args.glyph.now c.args.at c.args.count) (search rules)

pub returns-in_err-read_along : goal.returns-in_err-read_along
unfolding placed_of
returns-in_err-read_along c = rw (← placed-are c.args.glyph.now c.args.at c.args.count) (search rules)

pub returns-in_err-read_along-2 : goal.returns-in_err-read_along-2
unfolding placed_of
returns-in_err-read_along-2 c = rw (← placed-are c.args.glyph.now c.args.at c.args.count) (search rules)

pub returns : goal.returns
unfolding placed_of
returns c = rw (← placed-are c.args.glyph.now c.args.at c.args.count) (search rules)
