-- Glyphs and costs leave a fitter with unbounded work unchanged.
use Rattle.std.proofs.Common.{◌≡◌, ℕ, List, [], ◌∷◌, Option, None, ap, refl}
use Rattle.tt_fit.specs.Fitting.{Fitter, charged_fitter, work_less}
use Rattle.tt_fit.specs.Laws.{UnboundedStays}
use Rattle.tt_picture.specs.Distinct.{fitter_after}

pub unchanged : UnboundedStays → (s : Fitter) (gs : List ℕ) → s.work ≡ None → fitter_after s gs ≡ s
unchanged stays s [] none = refl
unchanged stays s (g ∷ gs) none = rw (stays s g none).1 (unchanged stays s gs none)

-- no cost changes unbounded work
pub uncharged : (s : Fitter) (cost : ℕ) → s.work ≡ None → charged_fitter s cost ≡ s
uncharged s cost none =
    let same : work_less cost s.work ≡ s.work = rw none refl in
    ap (λ (w : Option ℕ). record s { work = w }) same
