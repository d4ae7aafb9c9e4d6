use Rattle.tt_fit.proofs.WorkApart.{glyphs-take-work-alone, charges-take-work-alone, fitters-renew, work-is-apart}
use Rattle.tt_fit.proofs.laws.only_work_changes.Goals as goal

pub returns-clause-glyphs : goal.returns-clause-glyphs
returns-clause-glyphs c = glyphs-take-work-alone

pub returns-clause-charges : goal.returns-clause-charges
returns-clause-charges c = charges-take-work-alone

pub returns-clause-renewed : goal.returns-clause-renewed
returns-clause-renewed c = fitters-renew

pub returns-clause-alike : goal.returns-clause-alike
returns-clause-alike c = work-is-apart
