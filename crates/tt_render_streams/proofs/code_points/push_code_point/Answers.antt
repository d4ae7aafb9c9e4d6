use Rattle.std.proofs.Common.{refl, arith}
use Rattle.tt_render_streams.proofs.Text.{four_are, five_are, six_are}
use Rattle.tt_render_streams.proofs.code_points.push_code_point.Goals as goal

pub returns-then-code-ge1048576-clause-text : goal.returns-then-code-ge1048576-clause-text
returns-then-code-ge1048576-clause-text c =
    rw (six_are c.args.code (omega arith) c.requires.code, c.push_digit-then-code-ge1048576.ensures.text, c.push_digit-then-code-ge65536.ensures.text, c.push_digit-4.ensures.text, c.push_digit-3.ensures.text, c.push_digit-2.ensures.text, c.push_digit.ensures.text)
    refl

pub returns-else-code-ge1048576-clause-text : goal.returns-else-code-ge1048576-clause-text
returns-else-code-ge1048576-clause-text c =
    rw (five_are c.args.code (omega arith) (omega arith), c.push_digit-then-code-ge65536.ensures.text, c.push_digit-4.ensures.text, c.push_digit-3.ensures.text, c.push_digit-2.ensures.text, c.push_digit.ensures.text)
    refl

pub returns-else-code-ge65536-clause-text : goal.returns-else-code-ge65536-clause-text
returns-else-code-ge65536-clause-text c =
    rw (four_are c.args.code (omega arith), c.push_digit-4.ensures.text, c.push_digit-3.ensures.text, c.push_digit-2.ensures.text, c.push_digit.ensures.text)
    refl
