use Rattle.tt_c_calls.proofs.OffsetLaws.{offsets_cut_texts, offsets_rise}
use Rattle.tt_c_calls.proofs.laws.offsets_cut_texts.Goals as goal

pub returns-clause-rise : goal.returns-clause-rise
returns-clause-rise c = offsets_rise

pub returns-clause-cut : goal.returns-clause-cut
returns-clause-cut c = offsets_cut_texts
