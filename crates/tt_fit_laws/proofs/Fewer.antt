-- No step increases the job's remaining work.
use Rattle.std.proofs.Common.{◌≡◌, ℕ, Option, Some, Result, Ok, Err, refl, arith}
use Rattle.tt_core.specs.Faults.{Fault}
use Rattle.tt_core.specs.Limits.{work_limit}
use Rattle.tt_core.specs.Outcomes.{◌>>=◌}
use Rattle.tt_exec.proofs.RunCosts.{falls}
use Rattle.tt_exec.specs.Work.{Worked, enough, spent}
use Rattle.tt_face.specs.Faces.{FaceInstance}
use Rattle.tt_glyf.specs.Loca.{Glyf}
use Rattle.tt_metrics.specs.Metrics.{Metrics}
use Rattle.tt_fit.proofs.GlyphCosts.{of-glyph, of-programs}
use Rattle.tt_fit_hinting.proofs.ProgramCosts.{where-run}
use Rattle.tt_fit.specs.declared.programs.Fit.TheVariants as fit
use Rattle.tt_fit.specs.Fallback.{Fallback, never, where_refused, everywhere}
use Rattle.tt_fit.specs.Fitting.{Fitter, glyph_work, left_after_glyph, after_glyph}
use Rattle.tt_fit_hinting.specs.Hinting.{Hinting, off}
use Rattle.tt_fit.specs.Laws.{Fewer, WorkFalls, BestIsBounded}
use Rattle.tt_fit.specs.Preparation.{programs_work, begun_at, left_at, work_from, work_at, prepared_by, prepared, fitter_with, fitter_of}
use Rattle.tt_fit.specs.Rules.{runs_programs}
use Rattle.tt_fit.proofs.Falling.{Besides, besides, filled}

-- after a glyph
left-by : (fallback : Fallback) (worked : Worked) (left : ℕ)
    → ((after : Option ℕ) → worked ≡ enough after → Fewer left after)
    → Fewer left (left_after_glyph fallback worked (Some left))
left-by never worked left each = (left, refl, omega arith)
left-by where_refused (enough after) left each = each after refl
left-by where_refused (spent f) left each = (0, refl, omega arith)
left-by (everywhere f) worked left each = (left, refl, omega arith)

pub work-falls : WorkFalls
unfolding after_glyph
work-falls s g left is =
    rw is
    (left-by s.fallback (glyph_work s g (Some left)) left (falls (glyph_work s g) (of-glyph s g) left))

-- before the first glyph
abbrev begun : Metrics → Glyf → Option FaceInstance → ℕ → Besides → Hinting → Fallback → Option ℕ → Fitter
begun m tables instance ppem who hinting fallback work =
    filled who (fitter_with m tables instance ppem fit.Best hinting fallback work)

begun-by : (m : Metrics) (tables : Glyf) (instance : Option FaceInstance) (ppem : ℕ) (who : Besides) (s : Fitter) (worked : Worked)
    (left : Result Hinting Fault) → ((after : Option ℕ) → worked ≡ enough after → Fewer work_limit after)
    → (prepared_by fit.Best worked left >>= λ p. Ok (begun m tables instance ppem who p.hinting p.fallback p.work)) ≡ Ok s
    → Fewer work_limit s.work
begun-by m tables instance ppem who s (enough after) (Ok hinting) each is =
    let same : begun m tables instance ppem who hinting where_refused after ≡ s = cc in rw (← same) (each after refl)
begun-by m tables instance ppem who s (enough after) (Err f) each is =
    let same : begun m tables instance ppem who off (everywhere f) after ≡ s = cc in rw (← same) (each after refl)
begun-by m tables instance ppem who s (spent f) left each is =
    let same : begun m tables instance ppem who off (everywhere f) (Some 0) ≡ s = cc in
    rw (← same) (0, refl, omega arith)

pub best-is-bounded : BestIsBounded
unfolding fitter_of prepared
best-is-bounded m tables programs instance ppem s is =
    let who = besides instance programs fit.Best in
    let parts = begun_at m programs instance ppem fit.Best in
    begun-by m tables instance ppem who s (work_at m programs instance ppem fit.Best) (left_at m programs instance ppem fit.Best)
    (falls (work_from m programs instance ppem fit.Best)
    (where-run (runs_programs fit.Best programs.fpgm programs.prep) (programs_work parts programs)
    (of-programs parts programs)) work_limit) is
