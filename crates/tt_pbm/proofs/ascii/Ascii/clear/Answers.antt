use Rattle.std.proofs.Common.{rules}
use Rattle.std.proofs.lemmas.List.{drop_all}
use Rattle.tt_pbm.proofs.ascii.Ascii.clear.Goals as goal

pub returns : goal.returns
returns c = record { exact = drop_all 160 c.self.inside.bytes (search rules) }
