use Rattle.std.proofs.Common.{◌≡◌, ℕ, List, Ok, refl}
use Rattle.tt_face.specs.declared.rules.Opening.{Opening}
use Rattle.tt_fit.specs.declared.programs.Fit.{Fit}
use Rattle.tt_render_settings.specs.declared.setting.Setting.{Setting}
use Rattle.tt_render_settings.specs.Settings.{job_by, plain_setting}
use Rattle.tt_strike.specs.Job.{Job}
use Rattle.tt_c_calls.specs.declared.asked.CJob.{CJob}
use Rattle.tt_c_calls.specs.Asked.{asked, job_fit, text_asked}
use Rattle.tt_c_calls.proofs.asked.job_of.Goals as goal

-- a plain setting makes the requested job
asked_is : (j : CJob) (text t : List ℕ) (how : Fit) (r : Opening) (s : Setting) (a : Job) → job_fit j ≡ Ok how
    → text_asked text ≡ Ok t → s ≡ plain_setting j.size j.margin how r → a ≡ job_by s t → asked j text ≡ Ok a
unfolding asked
asked_is j text t how r s a fits is_text plain made = rw (fits, is_text, made, plain) refl

pub returns-clause-exact : goal.returns-clause-exact
returns-clause-exact c =
    asked_is c.args.job.now c.args.text.now c.in_ok-text.text.now c.in_ok-fit.fit _ c.plain.result _ c.in_ok-fit.ensures.exact
    c.in_ok-text.ensures.exact c.plain.ensures c.job.ensures.exact
