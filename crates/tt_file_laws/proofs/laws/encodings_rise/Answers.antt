use Rattle.tt_file_laws.proofs.Composing.{encodings_rise}
use Rattle.tt_file_laws.proofs.laws.encodings_rise.Goals as goal

pub returns : goal.returns
returns c = encodings_rise c.codes_rise.ensures.rise
