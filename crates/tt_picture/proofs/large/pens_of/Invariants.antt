use Rattle.std.proofs.Common.{◌≡◌, ◌++◌, drop}
use Rattle.tt_picture.specs.Large.{pens_in}
use Rattle.tt_picture.proofs.large.pens_of.Given as goal

-- the pens so far, and then those of the places that are left, are all
abbrev pub invariant-loop-placed : goal.invariant-loop-placed
invariant-loop-placed l = l.pens.items ++ pens_in l.number (drop l.placed-index l.line) ≡ pens_in l.number l.line
