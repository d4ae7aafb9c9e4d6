use Rattle.std.proofs.Common.{◌≡◌, drop}
use Rattle.tt_glyf.specs.Composite.{has_program}
use Rattle.tt_glyf.proofs.composite.has_program.Given as goal

abbrev pub invariant-loop-part : goal.invariant-loop-part
invariant-loop-part l = has_program (drop l.part-index l.records) ≡ has_program l.records
