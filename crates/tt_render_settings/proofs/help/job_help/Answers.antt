use Rattle.tt_render_settings.proofs.help.job_help.Goals as goal

pub returns-in_ok-head-in-SizeRange : goal.returns-in_ok-head-in-SizeRange
returns-in_ok-head-in-SizeRange c =
    rw c.in-SizeRange.is (rw c.in_ok-head-in-SizeRange.ensures at c.format.ensures.ok)

pub returns-in_ok-head-in-MarginRange : goal.returns-in_ok-head-in-MarginRange
returns-in_ok-head-in-MarginRange c =
    rw c.in-MarginRange.is (rw c.in_ok-head-in-MarginRange.ensures at c.format-in-MarginRange.ensures.ok)
