use Rattle.std.proofs.Common.{SFits, w32}
use Rattle.std.proofs.lemmas.Int.{to_z-of_z}
use Rattle.tt_line.proofs.pixels.step.Goals as goal

pub returns-clause-exact : goal.returns-clause-exact
returns-clause-exact c =
    let kerning : SFits w32 c.args.kerning = c.ranges.kerning in
    rw (c.advance.ensures) at (simp to_z-of_z at c.step_of_units.ensures.exact)
