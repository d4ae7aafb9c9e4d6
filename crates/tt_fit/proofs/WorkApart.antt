-- Glyphs and charges change nothing of a fitter but its remaining work.
use Rattle.std.proofs.Common.{◌≡◌, ◌∙◌, sym, ap, ℕ, Option, Some, None, refl}
use Rattle.tt_core.specs.Faults.{Fault}
use Rattle.tt_fit_hinting.proofs.machine.RunCosts.{rest_is}
use Rattle.tt_fit_hinting.specs.machine.Work.{Worked, enough, spent}
use Rattle.tt_fit.proofs.Falling.{unbounded-is-enough}
use Rattle.tt_fit.proofs.GlyphCosts.{of-glyph}
use Rattle.tt_fit.specs.Dropouts.{dropouts_of}
use Rattle.tt_fit.specs.Fallback.{Fallback, never, where_refused, everywhere}
use Rattle.tt_fit.specs.Fitting.{Fitter, glyph_work, unfitted_fault, fitted_outline, left_after_glyph, after_glyph, with_work, work_less}
use Rattle.tt_fit.specs.GlyphCost.{work_more, all_used, without_work, CostsStay, PaidIsMade, GlyphsTakeWorkAlone, ChargesTakeWorkAlone, FittersRenew, WorkIsApart}

-- work that is bounded stays bounded
bound-by : (fallback : Fallback) (worked : Worked) (left : Option ℕ)
    → ((after : Option ℕ) → worked ≡ enough after → all_used after ≡ all_used left)
    → ((f : Fault) → worked ≡ spent f → all_used left ≡ Some 0)
    → all_used (left_after_glyph fallback worked left) ≡ all_used left
bound-by never worked left rest over = refl
bound-by where_refused (enough after) left rest over = rest after refl
bound-by where_refused (spent f) left rest over = sym (over f refl)
bound-by (everywhere f) worked left rest over = refl

rest-bound : (s : Fitter) (g : ℕ) (left after : Option ℕ) → glyph_work s g left ≡ enough after
    → all_used after ≡ all_used left
rest-bound s g None after e = let free = unbounded-is-enough s g in let same : after ≡ None = cc in ap all_used same
rest-bound s g (Some left) after e =
    let has = of-glyph s g in
    let (rest, is, sum) = rest_is has.cost left (glyph_work s g (Some left)) after (has.each left) e in
    ap all_used is

spent-bound : (s : Fitter) (g : ℕ) (left : Option ℕ) (f : Fault) → glyph_work s g left ≡ spent f
    → all_used left ≡ Some 0
spent-bound s g None f e = let free = unbounded-is-enough s g in absurd cc
spent-bound s g (Some left) f e = refl

pub glyphs-take-work-alone : GlyphsTakeWorkAlone
unfolding after_glyph
glyphs-take-work-alone s g =
    ap (with_work s)
    (bound-by s.fallback (glyph_work s g s.work) s.work (λ after e. rest-bound s g s.work after e)
    (λ f e. spent-bound s g s.work f e))

less-bound : (cost : ℕ) (left : Option ℕ) → all_used (work_less cost left) ≡ all_used left
less-bound cost None = refl
less-bound cost (Some left) = refl

pub charges-take-work-alone : ChargesTakeWorkAlone
charges-take-work-alone s cost = ap (with_work s) (less-bound cost s.work)

-- two fitters that have the same but for their work
with-left : (s t : Fitter) (left : Option ℕ) → without_work t ≡ without_work s → with_work t left ≡ with_work s left
with-left s t left same = ap (λ f. with_work f left) same

pub fitters-renew : FittersRenew
fitters-renew s t same = with-left s t s.work same

bound-alike : (s t : Fitter) → without_work t ≡ without_work s → all_used t.work ≡ all_used s.work
bound-alike s t same = ap (λ (f : Fitter). f.work) same

pub work-is-apart : WorkIsApart
work-is-apart s t same = record {
  tables = ap (λ (f : Fitter). f.tables) same;
  metrics = ap (λ (f : Fitter). f.metrics) same;
  instance = ap (λ (f : Fitter). f.instance) same;
  control_deltas = ap (λ (f : Fitter). f.control_deltas) same;
  ppem = ap (λ (f : Fitter). f.ppem) same;
  levels = ap (λ (f : Fitter). f.levels) same;
  bound = bound-alike s t same;
  dropouts = λ unfitted o. ap (λ f. dropouts_of f unfitted o) same;
}

pub costs-stay : CostsStay
costs-stay s t g cost o reason same is rest alike =
    let made = is rest (alike ∙ bound-alike s t same) in
    let more = with-left s t (work_more cost rest) same in
    record {
      outline = ap (λ f. fitted_outline f g) more ∙ made.outline;
      unfitted = ap (λ f. unfitted_fault f g) more ∙ made.unfitted;
      after = ap (λ f. after_glyph f g) more ∙ made.after ∙ sym (with-left s t rest same);
    }

-- paid work
pub more-bound : (cost : ℕ) (rest : Option ℕ) → all_used (work_more cost rest) ≡ all_used rest
more-bound cost None = refl
more-bound cost (Some r) = refl

pub own-work : (s : Fitter) (left : Option ℕ) → s.work ≡ left → with_work s left ≡ s
own-work s left is = rw (← is) refl

pub paid-is-made : PaidIsMade
paid-is-made s new g cost o reason is (rest, at, after) =
    let made = is rest (sym (ap all_used at ∙ more-bound cost rest)) in
    let here = sym (own-work s (work_more cost rest) at) in
    record {
      outline = ap (λ f. fitted_outline f g) here ∙ made.outline;
      unfitted = ap (λ f. unfitted_fault f g) here ∙ made.unfitted;
      after = ap (λ f. after_glyph f g) here ∙ made.after ∙ sym after;
    }
