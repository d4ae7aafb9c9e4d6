-- A line changes nothing of a fitter but its work, which is then set back.
use Rattle.std.proofs.Common.{◌≡◌, ◌≢◌, ◌∙◌, ℕ, ◌*◌, false, List, Option, None, Ok, sym}
use Rattle.tt_fit.proofs.WorkApart.{charges-take-work-alone, fitters-renew}
use Rattle.tt_fit.specs.Fitting.{Fitter, with_work}
use Rattle.tt_fit.specs.GlyphCost.{without_work}
use Rattle.tt_fit.specs.Laws.{OthersAreUnbounded, UnboundedStays}
use Rattle.tt_face.specs.Programs.{ProgramTables}
use Rattle.tt_fit.specs.Preparation.{fitter_of}
use Rattle.tt_fit.specs.declared.programs.Fit.{Fit}
use Rattle.tt_fit.specs.declared.programs.Fit.TheVariants as fit
use Rattle.tt_glyf.specs.Loca.{Glyf}
use Rattle.tt_metrics.specs.Metrics.{Metrics}
use Rattle.tt_picture.specs.Distinct.{distinct, fitter_after}
use Rattle.tt_picture.proofs.Cached.{after_alike, for_alike}
use Rattle.tt_picture.proofs.Unbounded.{uncharged, unchanged}
use Rattle.tt_strike.specs.Makers.{IsMaker, IsSetting}
use Rattle.tt_face.specs.Faces.{Face, FaceInstance}
use Rattle.tt_strike.specs.Work.{asked_work, is_bounded, line_fitter, started}
use Rattle.tt_strike.specs.declared.maker.Maker.{Maker}
use Rattle.tt_strike.specs.declared.maker.Maker.TheVariants as maker

not_best : (how : Fit) → is_bounded how ≡ false → how ≢ fit.Best
not_best how other is = absurd (let wrong = rw is at other in cc)

pub unbounded : OthersAreUnbounded → (m : Metrics) (tables : Glyf) (programs : ProgramTables) (i : Option FaceInstance) (ppem : ℕ)
    (how : Fit) (s : Fitter) → fitter_of m tables programs i ppem how ≡ Ok s → is_bounded how ≡ false → s.work ≡ None
unbounded law m tables programs i ppem how s made other =
    (law m tables programs i ppem how s (not_best how other) made).0

-- a fitter with unbounded work is unchanged after a cost and some glyphs
pub unspent : UnboundedStays → (s t u : Fitter) (gs numbers : List ℕ) → t ≡ started s gs → u ≡ fitter_after t numbers
    → s.work ≡ None → u ≡ s
unspent stays s t u gs numbers begun after none =
    let same : t ≡ s = begun ∙ uncharged s (asked_work s gs) none in
    let then : u ≡ fitter_after s numbers = rw same at after in
    then ∙ unchanged stays s numbers none

-- nothing is charged to unbounded work
pub not_started : (s : Fitter) (gs : List ℕ) → s.work ≡ None → s ≡ started s gs
not_started s gs none = sym (uncharged s (asked_work s gs) none)

-- the points, the deltas and the glyphs of a line change nothing but the remaining work
pub started_alike : (s : Fitter) (gs : List ℕ) → without_work (started s gs) ≡ without_work s
started_alike s gs = charges-take-work-alone s (asked_work s gs)

pub line_alike : (s : Fitter) (gs numbers : List ℕ) → without_work (fitter_after (started s gs) numbers) ≡ without_work s
line_alike s gs numbers = after_alike (started s gs) numbers ∙ started_alike s gs

pub maker_alike : (s : Fitter) (gs : List ℕ) (n : ℕ) → without_work (line_fitter s gs n) ≡ without_work s
maker_alike s gs n = for_alike (started s gs) (distinct gs) n ∙ started_alike s gs

-- so a fitter that is given back with the work that it had is the one before the line
pub given_back : (face : Face) (ppem : ℕ) (how : Fit) (s u : Fitter) (work : Option ℕ) (after : Maker)
    → IsSetting face ppem how s → without_work u ≡ without_work s → work ≡ s.work
    → after ≡ maker.Ready (with_work u work) → IsMaker face ppem how after
given_back face ppem how s u work after set alike begun is = rw (is, begun, fitters-renew s u alike) set
