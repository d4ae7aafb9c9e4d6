use Rattle.std.proofs.Common.{◌≡◌, drop, None, IfSome}
use Rattle.tt_bdf.specs.Extent.{IsNear, joined_from}
use Rattle.tt_bdf.proofs.extent.ink_extent.Given as goal

-- the box so far, enlarged by the remaining characters, is the box of all
abbrev pub invariant-loop-c : goal.invariant-loop-c
invariant-loop-c l = record {
  box : joined_from l.all (drop l.c-index l.characters) ≡ joined_from None l.characters;
  near : IfSome l.all IsNear;
}
