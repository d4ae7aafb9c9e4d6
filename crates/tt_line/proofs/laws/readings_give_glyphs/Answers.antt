use Rattle.tt_line.proofs.Texts.{strict-texts, plain-texts-keep}
use Rattle.tt_line.proofs.laws.readings_give_glyphs.Goals as goal

pub returns-clause-strict : goal.returns-clause-strict
returns-clause-strict c = strict-texts

pub returns-clause-wide : goal.returns-clause-wide
returns-clause-wide c = plain-texts-keep
