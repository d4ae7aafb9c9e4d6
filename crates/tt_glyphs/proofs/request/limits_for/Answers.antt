use Rattle.std.proofs.Common.{refl}
use Rattle.tt_glyphs.proofs.request.limits_for.Goals as goal

pub returns-clause-bounded : goal.returns-clause-bounded
returns-clause-bounded c = λ is. rw c.crossings_allowed.ensures.exact refl
