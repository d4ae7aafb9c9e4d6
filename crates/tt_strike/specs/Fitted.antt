-- No part of the standard: some units whose glyphs are fitted before they are laid out and drawn.
use Rattle.std.specs.Prelude.{◌≡◌, ℕ, List, Result, Ok}
use Rattle.tt_core.specs.Outcomes.{◌>>=◌}
use Rattle.tt_face.specs.Faces.{Face}
use Rattle.tt_fit.specs.Fitting.{Fitter}
use Rattle.tt_fit.specs.declared.programs.Fit.{Fit}
use Rattle.tt_fit.specs.outline.Outline.{Outline}
use Rattle.tt_picture.specs.Distinct.{distinct}
use Rattle.tt_picture.specs.Fitted.{AreFitted, fitted_numbers}
use Rattle.tt_picture.specs.Glyphs.{ArePlaces}
use Rattle.tt_strike.specs.declared.fitting.FittedUnits.{FittedUnits}
use Rattle.tt_strike.specs.Makers.{IsSetting}
use Rattle.tt_strike.specs.Picture.{outlines_in, outlines_tested, setting}
use Rattle.tt_strike.specs.Refusals.{Refused, as_font}
use Rattle.tt_strike.specs.Work.{asked_tested, line_fitter, work_left}

-- the outlines of some units by a font's tables, or the first refusal
abbrev pub outlines_made : Face → ℕ → Fit → List ℕ → Result (List Outline) Refused
outlines_made face ppem how gs = as_font (setting face ppem how) >>= λ s. outlines_tested s how gs

-- the distinct glyphs of some units are fitted by this fitter: these, with the table of their places, and this much work
-- remains
pub record AreFittedUnits (face : Face) (ppem : ℕ) (how : Fit) (gs : List ℕ) (t : FittedUnits) (s : Fitter) : Type 0 where
  pub setting : IsSetting face ppem how s
  pub points : asked_tested how s gs ≡ Ok tt
  pub outlines : (os : List Outline) × (outlines_in s gs ≡ Ok os)
  pub places : ArePlaces t.places.items (fitted_numbers t.fitted.items)
  pub numbers : fitted_numbers t.fitted.items ≡ distinct gs
  pub fitted : AreFitted (line_fitter s gs) t.fitted.items
  pub work : t.left ≡ work_left s gs

abbrev pub HasFittedUnits : Face → ℕ → Fit → List ℕ → FittedUnits → Type 0
HasFittedUnits face ppem how gs t = (s : Fitter) × AreFittedUnits face ppem how gs t s
