use Rattle.std.proofs.Common.{rules}
use Rattle.tt_glyphs.proofs.request.test_count.Goals as goal

pub returns-clause-few : goal.returns-clause-few
returns-clause-few c = search rules
