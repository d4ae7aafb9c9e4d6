use Rattle.std.proofs.Common.{subst}
use Rattle.tt_core.specs.Outcomes.{Gives}
use Rattle.tt_strike.specs.Job.{Job, tested}
use Rattle.tt_bitmap_font.proofs.font_file.FontFile.test.Goals as goal

pub returns-clause-exact : goal.returns-clause-exact
returns-clause-exact c =
    let by_setting = subst (λ (j : Job). Gives (λ u. u) c.test_job.result (tested j)) c.job.ensures.exact c.test_job.ensures.exact in
    rw c.setting-setting.ensures at by_setting
