use Rattle.tt_bdf.proofs.ListedCodes.{codes_belong, codes_rise, none_is_left_out}
use Rattle.tt_bdf.proofs.laws.codes_rise.Goals as goal

pub returns-clause-rise : goal.returns-clause-rise
returns-clause-rise c = codes_rise

pub returns-clause-belong : goal.returns-clause-belong
returns-clause-belong c = codes_belong

pub returns-clause-whole : goal.returns-clause-whole
returns-clause-whole c = none_is_left_out
