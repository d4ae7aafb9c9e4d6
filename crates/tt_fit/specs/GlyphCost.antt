-- No part of the standard: what a glyph costs of a job's work (profile). A glyph whose programs had enough work is made
-- the same wherever there is enough, and the rest remains.
use Rattle.std.specs.Prelude.{◌≡◌, ℕ, ◌+◌, ◌<◌, Bool, true, false, ⊤, codes, Option, Some, None, Ok, refl}
use Rattle.tt_core.specs.Faults.{Fault, fault_at}
use Rattle.tt_core.specs.declared.fault.Why.TheVariants as why
use Rattle.tt_fit_hinting.specs.machine.RunCost.{IsCost}
use Rattle.tt_fit.specs.Dropouts.{dropouts_of}
use Rattle.tt_fit.specs.Fallback.{Fallback, never, where_refused, everywhere}
use Rattle.tt_fit.specs.Fitting.{Fitter, after_glyph, charged_fitter, fitted_outline, glyph_work, unfitted_fault, with_work}
use Rattle.tt_fit_outline.specs.Outline.{Outline}

-- the work of which so much remains after a cost; work that is not bounded pays every cost
abbrev pub work_more : ℕ → Option ℕ → Option ℕ
work_more cost None = None
work_more cost (Some rest) = Some (rest + cost)

-- a bound of which nothing remains, or no bound
abbrev pub all_used : Option ℕ → Option ℕ
all_used None = None
all_used (Some left) = Some 0

-- What of a fitter is the same for all glyphs: all but its remaining work. Whether its work is bounded is the same too.
abbrev pub without_work : Fitter → Fitter
without_work s = with_work s (all_used s.work)

-- This fitter makes a glyph into this outline, and this is the fault that makes the glyph unfitted. The other fitter is
-- the one for later glyphs.
pub record IsMade (s : Fitter) (g : ℕ) (o : Outline) (reason : Option Fault) (next : Fitter) : Type 0 where
  pub outline : fitted_outline s g ≡ Ok o
  pub unfitted : unfitted_fault s g ≡ reason
  pub after : after_glyph s g ≡ next

-- The glyph is made so at this cost, wherever so much remains.
abbrev pub IsMadeFor : Fitter → ℕ → ℕ → Outline → Option Fault → Type 0
IsMadeFor s g cost o reason = (rest : Option ℕ) → all_used rest ≡ all_used s.work
    → IsMade (with_work s (work_more cost rest)) g o reason (with_work s rest)

-- The glyph did not lack work: it is fitted, or unfitted by another fault than StepLimit. A fitter that does not fall
-- back glyph by glyph asks for no work.
abbrev pub HadWork : Fallback → Option Fault → Type 0
HadWork never reason = ⊤
HadWork where_refused None = ⊤
HadWork where_refused (Some fault) = fault.why ≡ why.StepLimit → ⊥
HadWork (everywhere fault) reason = ⊤

-- A cost is paid from a fitter's work, and the rest remains. Where less remains, nothing changes.
abbrev pub Pays : ℕ → Fitter → Bool → Fitter → Type 0
Pays cost old true new = (rest : Option ℕ) × (old.work ≡ work_more cost rest) × (new ≡ with_work old rest)
Pays cost old false new = (new ≡ old) × (left : ℕ) × (old.work ≡ Some left) × (left < cost)

-- the laws of a glyph's cost

-- the work of a glyph's programs has one cost, whatever remains
abbrev pub GlyphsHaveCosts : Type 0
GlyphsHaveCosts = (s : Fitter) (g : ℕ) → (cost : ℕ) × IsCost cost (glyph_work s g)

-- a glyph that did not lack work is made so at the cost that it took
abbrev pub GlyphsAreMadeFor : Type 0
GlyphsAreMadeFor = (s : Fitter) (g cost : ℕ) (rest : Option ℕ) (o : Outline) → fitted_outline s g ≡ Ok o
    → HadWork s.fallback (unfitted_fault s g) → s.work ≡ work_more cost rest → (after_glyph s g).work ≡ rest
    → IsMadeFor s g cost o (unfitted_fault s g)

-- it is, whatever of the work was used by other glyphs
abbrev pub CostsStay : Type 0
CostsStay = (s t : Fitter) (g cost : ℕ) (o : Outline) (reason : Option Fault) → without_work t ≡ without_work s
    → IsMadeFor s g cost o reason → IsMadeFor t g cost o reason

-- where its cost is paid, the glyph would be made so, and the work that remains is what making it would leave
abbrev pub PaidIsMade : Type 0
PaidIsMade = (s new : Fitter) (g cost : ℕ) (o : Outline) (reason : Option Fault) → IsMadeFor s g cost o reason
    → Pays cost s true new → IsMade s g o reason new

-- the laws of what a glyph leaves as it was

-- a glyph and a charge change nothing but the remaining work
abbrev pub GlyphsTakeWorkAlone : Type 0
GlyphsTakeWorkAlone = (s : Fitter) (g : ℕ) → without_work (after_glyph s g) ≡ without_work s

abbrev pub ChargesTakeWorkAlone : Type 0
ChargesTakeWorkAlone = (s : Fitter) (cost : ℕ) → without_work (charged_fitter s cost) ≡ without_work s

-- a fitter that has the same but for its work is the same again, once its work is set back
abbrev pub FittersRenew : Type 0
FittersRenew = (s t : Fitter) → without_work t ≡ without_work s → with_work t s.work ≡ s

-- two fitters have the same glyph data, instance, size and levels, fill dropouts by the same rules, and bound work alike
pub record AreAlike (s t : Fitter) : Type 0 where
  pub tables : t.tables ≡ s.tables
  pub metrics : t.metrics ≡ s.metrics
  pub instance : t.instance ≡ s.instance
  pub control_deltas : t.control_deltas ≡ s.control_deltas
  pub ppem : t.ppem ≡ s.ppem
  pub levels : t.levels ≡ s.levels
  pub bound : all_used t.work ≡ all_used s.work
  pub dropouts : (unfitted : Option Fault) (o : Outline) → dropouts_of t unfitted o ≡ dropouts_of s unfitted o

abbrev pub WorkIsApart : Type 0
WorkIsApart = (s t : Fitter) → without_work t ≡ without_work s → AreAlike s t

-- worked values: a cost of 40 paid from 100, from 40, and from work that is not bounded
sixty_remain : work_more 40 (Some 60) ≡ Some 100
sixty_remain = refl

none_remain : work_more 40 (Some 0) ≡ Some 40
none_remain = refl

not_bounded : work_more 40 None ≡ None
not_bounded = refl

-- a glyph whose own program is refused did not lack work; whether one with StepLimit did is not known
abbrev refused : Fault
refused = fault_at (codes "glyf") 14 why.OffProfile

refused_had_work : HadWork where_refused (Some refused)
refused_had_work is = absurd cc

fitted_had_work : HadWork where_refused None
fitted_had_work = tt
