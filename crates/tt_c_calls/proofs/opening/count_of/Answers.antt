use Rattle.tt_render_settings.proofs.FirstFaces.{count-stands, count-whole}
use Rattle.tt_c_calls.proofs.opening.count_of.Goals as goal

pub returns-in-Ok-clause-defects : goal.returns-in-Ok-clause-defects
returns-in-Ok-clause-defects c = count-whole c.args.font.now c.in-Ok.count c.in-Ok.ensures.exact

pub returns-in-Err-clause-defects : goal.returns-in-Err-clause-defects
returns-in-Err-clause-defects c = count-stands c.args.font.now c.in-Err.fault c.in-Err.ensures.exact
