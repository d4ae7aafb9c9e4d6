-- No part of the standard: an outline with its chord rule, the rules for filling its dropouts, and the fault that makes it
-- unfitted.
use Rattle.std.specs.Prelude.{Option}
use Rattle.tt_arc.specs.declared.rule.ChordRule.{ChordRule}
use Rattle.tt_core.specs.Faults.{Fault}
use Rattle.tt_fit.specs.outline.Outline.{Outline}
use Rattle.tt_scan_dropouts.specs.declared.boxed.BoxedRules.{BoxedRules}

pub record RuledOutline : Type 0 where
  pub outline : Outline
  pub rule : ChordRule
  pub filled : Option BoxedRules
  pub unfitted : Option Fault
