use Rattle.std.proofs.Common.{refl}
use Rattle.tt_render_texts.specs.Reports.{sign_words}
use Rattle.tt_render_texts.proofs.label_reports.sign_words.Goals as goal

pub returns-then-c-eq9 : goal.returns-then-c-eq9
unfolding sign_words
returns-then-c-eq9 c = rw (c.in-Control.is, c.if-c-eq9.true) refl
