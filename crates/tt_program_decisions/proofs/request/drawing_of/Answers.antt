use Rattle.std.proofs.Common.{rules}
use Rattle.tt_program_decisions.proofs.request.drawing_of.Goals as goal

pub returns-then-lines : goal.returns-then-lines
returns-then-lines g c =
    (c.ruled_setting_of-setting.result, c.is_set-lines.result, c.ruled_setting_of-setting.ensures, c.is_set-lines.ensures, search rules)

pub returns-then-not-lines : goal.returns-then-not-lines
returns-then-not-lines g c =
    (c.ruled_setting_of-setting.result, c.is_set-lines.result, c.ruled_setting_of-setting.ensures, c.is_set-lines.ensures, search rules)

pub returns-else-lines : goal.returns-else-lines
returns-else-lines g c =
    (c.ruled_setting_of-setting.result, c.is_set-lines.result, c.ruled_setting_of-setting.ensures, c.is_set-lines.ensures, search rules)

pub returns-else-not-lines : goal.returns-else-not-lines
returns-else-not-lines g c =
    (c.ruled_setting_of-setting.result, c.is_set-lines.result, c.ruled_setting_of-setting.ensures, c.is_set-lines.ensures, search rules)
