use Rattle.std.proofs.Common.{◌≡◌, ◌∙◌, ap, ℕ, List, [], map, refl, Ok}
use Rattle.std.proofs.lemmas.Result.{err_from_is_err_and}
use Rattle.tt_fit.specs.Fitting.{Fitter}
use Rattle.tt_picture.specs.Distinct.{distinct}
use Rattle.tt_picture.specs.Fitted.{AreFitted, fitted_numbers}
use Rattle.tt_picture.proofs.Among.{all_among}
use Rattle.tt_picture.proofs.Cached.{cached_stays}
use Rattle.tt_picture.proofs.Listing.{distinct_differ}
use Rattle.tt_picture.proofs.Outlines.{shapes_of_line}
use Rattle.tt_strike.specs.Defects.{IsMadeDefect}
use Rattle.tt_strike.specs.Makers.{job_at}
use Rattle.tt_strike.specs.Strikes.{SizedFace}
use Rattle.tt_strike.specs.Work.{asked_tested, line_fitter, started}
use Rattle.tt_strike.proofs.Caches.{of_fitter}
use Rattle.tt_strike.proofs.Fitted.{outlines_stop_units, setting_stops_units}
use Rattle.tt_strike.proofs.Placed.{of-job}
use Rattle.tt_strike.proofs.Setting.{given_back, line_alike, started_alike}
use Rattle.tt_strike.proofs.Stepped.{outline_stops_outlines, outlines_tell_defect, points_stop_outlines}
use Rattle.tt_strike.proofs.Stopped.{font_tells}
use Rattle.tt_strike.proofs.Telling.{setting_tells}
use Rattle.tt_strike.proofs.TextSteps.{sound_line}
use Rattle.tt_strike.proofs.sized.SizedFace.fit_units.Goals.{In_ok-charge_asked, In_ok-fitted, In_ok-met}
use Rattle.tt_strike.proofs.sized.SizedFace.fit_units.Goals as goal

abbrev numbers_of : List (ℕ × ℕ) → List ℕ
numbers_of gs = map (λ (g : ℕ × ℕ). g.0) gs

-- the distinct glyphs are those of the units
numbers_are : (c : In_ok-met) → c.in_ok-met.met.numbers.items ≡ distinct (numbers_of c.args.units.now)
numbers_are c = c.in_ok-met.ensures.numbers

-- their points are few, and charged
few_points : (c : In_ok-charge_asked) → c.in_ok-met.met.numbers.items ≡ distinct (numbers_of c.args.units.now)
    → asked_tested c.self.inside.source.fit c.in_ok-fitter.fitter (numbers_of c.args.units.now) ≡ Ok tt
few_points c are =
    of-job (asked_tested c.self.inside.source.fit c.in_ok-fitter.fitter (numbers_of c.args.units.now)) tt
    (rw (c.deref.ensures.value, are) at c.in_ok-charge_asked.ensures.exact)

charged_is : (c : In_ok-charge_asked) → c.in_ok-met.met.numbers.items ≡ distinct (numbers_of c.args.units.now)
    → c.charge_asked.new.fitter ≡ started c.in_ok-fitter.fitter (numbers_of c.args.units.now)
charged_is c are = rw (c.deref.ensures.value, are) at c.in_ok-charge_asked.ensures.charged

-- they are fitted
fitted_are : (c : In_ok-fitted) → c.in_ok-met.met.numbers.items ≡ distinct (numbers_of c.args.units.now)
    → c.charge_asked.new.fitter ≡ started c.in_ok-fitter.fitter (numbers_of c.args.units.now)
    → AreFitted (line_fitter c.in_ok-fitter.fitter (numbers_of c.args.units.now)) c.in_ok-fitted.fitted.items
fitted_are c are charged = rw (c.deref-2.ensures.value, are, charged) at c.in_ok-fitted.ensures.fitted

fitted_numbers_are : (c : In_ok-fitted) → c.in_ok-met.met.numbers.items ≡ distinct (numbers_of c.args.units.now)
    → fitted_numbers c.in_ok-fitted.fitted.items ≡ distinct (numbers_of c.args.units.now)
fitted_numbers_are c are = rw (c.deref-2.ensures.value, are) at c.in_ok-fitted.ensures.numbers

pub charge_asked-requires-clause-cache : goal.charge_asked-requires-clause-cache
charge_asked-requires-clause-cache c =
    let z : SizedFace = record { face = c.self.inside.source.face.now; ppem = c.self.inside.source.ppem; fit = c.self.inside.source.fit } in
    of_fitter z c.in_ok-fitter.fitter c.args.cache.now c.in_ok-fitter.ensures.setting (rw (← c.self.view_is) at c.requires.cache)

pub charge_asked-requires-clause-bounded : goal.charge_asked-requires-clause-bounded
charge_asked-requires-clause-bounded c = rw (← c.self.view_is) at c.requires.bounded

pub fit_glyphs-requires-clause-cache : goal.fit_glyphs-requires-clause-cache
fit_glyphs-requires-clause-cache c =
    let z : SizedFace = record { face = c.self.inside.source.face.now; ppem = c.self.inside.source.ppem; fit = c.self.inside.source.fit } in
    let s = c.in_ok-fitter.fitter in
    let all = goal.at.fit_glyphs-requires-clause-cache c in
    rw (charged_is all.In_ok-charge_asked (numbers_are all.In_ok-met)) (cached_stays s (started s (numbers_of c.args.units.now)) c.args.cache.now
    (started_alike s (numbers_of c.args.units.now))
    (of_fitter z s c.args.cache.now c.in_ok-fitter.ensures.setting (rw (← c.self.view_is) at c.requires.cache)))

pub fit_glyphs-requires-clause-differ : goal.fit_glyphs-requires-clause-differ
fit_glyphs-requires-clause-differ c =
    rw (c.deref-2.ensures.value, c.in_ok-met.ensures.numbers) (distinct_differ [] (numbers_of c.args.units.now) refl)

pub returns-in_err-fitter-clause-stops : goal.returns-in_err-fitter-clause-stops
returns-in_err-fitter-clause-stops c =
    let z : SizedFace = record { face = c.self.inside.source.face.now; ppem = c.self.inside.source.ppem; fit = c.self.inside.source.fit } in
    let p = err_from_is_err_and c.from_residual.result c.from_residual.ensures.1 in
    rw (p.1, p.2, ← c.self.view_is) (setting_stops_units z.face z.ppem z.fit (numbers_of c.args.units.now) c.in_err-fitter.field-0.0
    c.in_err-fitter.ensures.exact)

pub returns-in_err-fitter-clause-defects : goal.returns-in_err-fitter-clause-defects
returns-in_err-fitter-clause-defects c =
    let z : SizedFace = record { face = c.self.inside.source.face.now; ppem = c.self.inside.source.ppem; fit = c.self.inside.source.fit } in
    let a = job_at z.ppem z.fit in
    let gs = numbers_of c.args.units.now in
    let p = err_from_is_err_and c.from_residual.result c.from_residual.ensures.1 in
    rw (p.1, p.2, ← c.self.view_is) (font_tells (IsMadeDefect z.face a gs) c.in_err-fitter.field-0.0
    (setting_tells z.face a gs c.in_err-fitter.field-0.0 c.in_err-fitter.ensures.defects))

pub returns-in_err-charge_asked-clause-stops : goal.returns-in_err-charge_asked-clause-stops
returns-in_err-charge_asked-clause-stops c =
    let z : SizedFace = record { face = c.self.inside.source.face.now; ppem = c.self.inside.source.ppem; fit = c.self.inside.source.fit } in
    let gs = numbers_of c.args.units.now in
    let s = c.in_ok-fitter.fitter in
    let fails = rw (c.deref.ensures.value, c.in_ok-met.ensures.numbers) at c.in_err-charge_asked.ensures.exact in
    let p = err_from_is_err_and c.from_residual-in_err-charge_asked.result c.from_residual-in_err-charge_asked.ensures.1 in
    rw (p.1, p.2, ← c.self.view_is) (outlines_stop_units z.face z.ppem z.fit gs s c.in_err-charge_asked.field-0.0 c.in_ok-fitter.ensures.exact
    (points_stop_outlines s z.fit gs c.in_err-charge_asked.field-0.0 fails))

pub returns-in_err-charge_asked-clause-defects : goal.returns-in_err-charge_asked-clause-defects
returns-in_err-charge_asked-clause-defects c =
    let z : SizedFace = record { face = c.self.inside.source.face.now; ppem = c.self.inside.source.ppem; fit = c.self.inside.source.fit } in
    let gs = numbers_of c.args.units.now in
    let s = c.in_ok-fitter.fitter in
    let fails = rw (c.deref.ensures.value, c.in_ok-met.ensures.numbers) at c.in_err-charge_asked.ensures.exact in
    let p = err_from_is_err_and c.from_residual-in_err-charge_asked.result c.from_residual-in_err-charge_asked.ensures.1 in
    rw (p.1, p.2, ← c.self.view_is) (outlines_tell_defect z.face (job_at z.ppem z.fit) s gs c.in_err-charge_asked.field-0.0 c.in_ok-fitter.ensures.exact
    (points_stop_outlines s z.fit gs c.in_err-charge_asked.field-0.0 fails))

pub returns-in_err-fitted-clause-stops : goal.returns-in_err-fitted-clause-stops
returns-in_err-fitted-clause-stops c =
    let z : SizedFace = record { face = c.self.inside.source.face.now; ppem = c.self.inside.source.ppem; fit = c.self.inside.source.fit } in
    let gs = numbers_of c.args.units.now in
    let s = c.in_ok-fitter.fitter in
    let all = goal.at.returns-in_err-fitted-clause-stops c in
    let numbers = numbers_are all.In_ok-met in
    let few = few_points all.In_ok-charge_asked numbers in
    let fails = rw (c.deref-2.ensures.value, numbers, charged_is all.In_ok-charge_asked numbers) at c.in_err-fitted.ensures.fault in
    let p = err_from_is_err_and c.from_residual-in_err-fitted.result c.from_residual-in_err-fitted.ensures.1 in
    rw (p.1, p.2, ← c.self.view_is) (outlines_stop_units z.face z.ppem z.fit gs s _ c.in_ok-fitter.ensures.exact
    (outline_stops_outlines s z.fit gs c.in_err-fitted.field-0.0 (rw few refl) fails))

pub returns-in_err-fitted-clause-defects : goal.returns-in_err-fitted-clause-defects
returns-in_err-fitted-clause-defects c =
    let z : SizedFace = record { face = c.self.inside.source.face.now; ppem = c.self.inside.source.ppem; fit = c.self.inside.source.fit } in
    let gs = numbers_of c.args.units.now in
    let s = c.in_ok-fitter.fitter in
    let all = goal.at.returns-in_err-fitted-clause-defects c in
    let numbers = numbers_are all.In_ok-met in
    let few = few_points all.In_ok-charge_asked numbers in
    let fails = rw (c.deref-2.ensures.value, numbers, charged_is all.In_ok-charge_asked numbers) at c.in_err-fitted.ensures.fault in
    let p = err_from_is_err_and c.from_residual-in_err-fitted.result c.from_residual-in_err-fitted.ensures.1 in
    rw (p.1, p.2, ← c.self.view_is) (outlines_tell_defect z.face (job_at z.ppem z.fit) s gs _ c.in_ok-fitter.ensures.exact
    (outline_stops_outlines s z.fit gs c.in_err-fitted.field-0.0 (rw few refl) fails))

-- the fitter that is given back is the one before the units
pub invariant_of-self-2 : goal.invariant_of-self-2
invariant_of-self-2 c =
    let z : SizedFace = record { face = c.self.inside.source.face.now; ppem = c.self.inside.source.ppem; fit = c.self.inside.source.fit } in
    let s = c.in_ok-fitter.fitter in
    let gs = numbers_of c.args.units.now in
    let all = goal.at.invariant_of-self-2 c in
    let numbers = numbers_are all.In_ok-met in
    let after = rw (c.deref-2.ensures.value, numbers, charged_is all.In_ok-charge_asked numbers) at c.in_ok-fitted.ensures.after in (
      given_back z.face z.ppem z.fit s c.fit_glyphs.new.fitter c.work-begun.result c.give_back.new.self c.in_ok-fitter.ensures.setting
          (rw after (line_alike s gs (distinct gs))) c.work-begun.ensures c.give_back.ensures,
      c.self.invariant.1,
    )

pub returns-clause-fitted : goal.returns-clause-fitted
returns-clause-fitted c =
    let s = c.in_ok-fitter.fitter in
    let gs = numbers_of c.args.units.now in
    let all = goal.at.returns-clause-fitted c in
    let numbers = numbers_are all.In_ok-met in
    let charged = charged_is all.In_ok-charge_asked numbers in
    let own = fitted_numbers_are all.In_ok-fitted numbers in
    rw (← c.self.view_is) (
      s,
      record {
        setting = c.in_ok-fitter.ensures.setting;
        points = few_points all.In_ok-charge_asked numbers;
        outlines = rw (c.deref-2.ensures.value, numbers, charged) at c.in_ok-fitted.ensures.made;
        places = rw (own, ← numbers) c.in_ok-met.ensures.places;
        numbers = own;
        fitted = fitted_are all.In_ok-fitted numbers charged;
        work = c.work-left.ensures ∙ ap (λ (t : Fitter). t.work) (rw (c.deref-2.ensures.value, numbers, charged) at c.in_ok-fitted.ensures.after);
      },
    )

-- the glyphs are made, whatever their pens are
pub returns-clause-defects : goal.returns-clause-defects
returns-clause-defects c =
    let z : SizedFace = record { face = c.self.inside.source.face.now; ppem = c.self.inside.source.ppem; fit = c.self.inside.source.fit } in
    let s = c.in_ok-fitter.fitter in
    let line = c.args.units.now in
    let gs = numbers_of line in
    let fs = c.in_ok-fitted.fitted.items in
    let all = goal.at.returns-clause-defects c in
    let numbers = numbers_are all.In_ok-met in
    let fitted = fitted_are all.In_ok-fitted numbers (charged_is all.In_ok-charge_asked numbers) in
    let shapes = shapes_of_line (line_fitter s gs) fs line fitted (all_among line (fitted_numbers fs) (fitted_numbers_are all.In_ok-fitted numbers)) in
    rw (← c.self.view_is) (sound_line z.face (job_at z.ppem z.fit) s gs line shapes.0 c.in_ok-fitter.ensures.exact c.in_ok-fitter.ensures.defects
    refl shapes.1)
