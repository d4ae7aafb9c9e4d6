use Rattle.tt_label.proofs.OneLineDrawn.{one_line_has_pixels, one_line_is_grown, one_line_reports}
use Rattle.tt_label.proofs.laws.one_line_is_grown.Goals as goal

pub returns-clause-picture : goal.returns-clause-picture
returns-clause-picture c = one_line_is_grown

pub returns-clause-report : goal.returns-clause-report
returns-clause-report c = one_line_reports

pub returns-clause-pixels : goal.returns-clause-pixels
returns-clause-pixels c = one_line_has_pixels
