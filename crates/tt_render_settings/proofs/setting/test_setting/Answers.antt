use Rattle.std.proofs.Common.{◌≡◌, refl, Result, Ok, Err, [], subst}
use Rattle.std.proofs.lemmas.Str.{chars-nil}
use Rattle.tt_core.specs.declared.fault.JobFault.{JobFault}
use Rattle.tt_core.specs.Outcomes.{◌>>=◌, Gives}
use Rattle.tt_strike.specs.Job.{Job, margin_tested, size_tested, tested, text_tested}
use Rattle.tt_render_settings.specs.Settings.{job_by, setting_tested}
use Rattle.tt_render_settings.proofs.setting.test_setting.Goals as goal

-- a passing test adds nothing behind others
passes_behind : (r : Result (Unit {0}) JobFault) → (r >>= λ u. Ok tt) ≡ r
passes_behind (Ok u) = refl
passes_behind (Err j) = refl

-- a text of no characters passes its test
same_tests : (a : Job) → a.text ≡ []
    → tested a ≡ (size_tested a.ppem >>= λ u. margin_tested a.margin)
unfolding tested text_tested
same_tests a none = rw (none, chars-nil, passes_behind (margin_tested a.margin)) refl

pub returns : goal.returns
unfolding setting_tested
returns c =
    rw (← same_tests (job_by c.args.setting.now []) refl)
    (subst (λ (j : Job). Gives (λ u. u) c.test_job.result (tested j)) c.job.ensures.exact c.test_job.ensures.exact)
