use Rattle.std.proofs.Common.{◌≡◌, ◌∙◌, ℕ, List, [], map, refl, Err}
use Rattle.std.proofs.lemmas.Result.{err_from_is_err_and}
use Rattle.std.specs.Prelude.{IfSome}
use Rattle.tt_core.specs.declared.font_fault.FontFault.{FontFault}
use Rattle.tt_core.specs.Outcomes.{each, font_fault}
use Rattle.tt_fit.specs.Fitting.{Fitter}
use Rattle.tt_line.specs.Outcome.{placement_of}
use Rattle.tt_picture.specs.Distinct.{distinct, fitter_for}
use Rattle.tt_picture.specs.Glyphs.{AreDrawn, numbers_of}
use Rattle.tt_picture.specs.Pixels.{Shape}
use Rattle.tt_picture.specs.Shapes.{glyph_shape}
use Rattle.tt_picture.specs.Steps.{outlines_by}
use Rattle.tt_picture.proofs.Among.{all_among}
use Rattle.tt_picture.proofs.Cached.{after_alike}
use Rattle.tt_picture.proofs.Listing.{distinct_differ}
use Rattle.tt_picture.proofs.LineShapes.{shapes_of_drawn}
use Rattle.tt_strike.specs.Defects.{IsMadeDefect}
use Rattle.tt_strike.specs.Strikes.{IsCacheOf, SizedFace, job_with}
use Rattle.tt_strike.specs.Work.{line_fitter, started}
use Rattle.tt_strike.proofs.Caches.{of_face, of_fitter}
use Rattle.tt_strike.proofs.Costed.{costs_nothing}
use Rattle.tt_strike.proofs.Drawn.{line_fails}
use Rattle.tt_strike.proofs.Setting.{given_back, not_started}
use Rattle.tt_strike.proofs.Stopped.{drawing_refuses_no_job, font_tells, glyph_stops, setting_stops, unbounded_edges, unbounded_points}
use Rattle.tt_strike.proofs.Telling.{glyph_tells, no_line_defect, setting_tells}
use Rattle.tt_strike.proofs.sized.SizedFace.tested_glyphs.Goals.{After-made_glyphs, In_ok-made}
use Rattle.tt_strike.proofs.sized.SizedFace.tested_glyphs.Goals as goal

pub returns-in_err-fitter-clause-stops : goal.returns-in_err-fitter-clause-stops
returns-in_err-fitter-clause-stops c =
    let z : SizedFace = record { face = c.self.inside.source.face.now; ppem = c.self.inside.source.ppem; fit = c.self.inside.source.fit } in
    let p = err_from_is_err_and c.from_residual-in_err-fitter.result c.from_residual-in_err-fitter.ensures.1 in
    rw (p.1, p.2, ← c.self.view_is) (setting_stops z.face (job_with z c.args.laid.now.margin) (placement_of c.args.laid.now.line)
    c.in_err-fitter.field-0.0 c.in_err-fitter.ensures.exact)

pub returns-in_err-fitter-clause-defects : goal.returns-in_err-fitter-clause-defects
returns-in_err-fitter-clause-defects c =
    let z : SizedFace = record { face = c.self.inside.source.face.now; ppem = c.self.inside.source.ppem; fit = c.self.inside.source.fit } in
    let face = z.face in
    let a = job_with z c.args.laid.now.margin in
    let gs = map (λ g. g.0) c.args.laid.now.line.glyphs.items in
    let p = err_from_is_err_and c.from_residual-in_err-fitter.result c.from_residual-in_err-fitter.ensures.1 in
    rw (p.1, p.2, ← c.self.view_is) (font_tells (IsMadeDefect face a gs) c.in_err-fitter.field-0.0
    (setting_tells face a gs c.in_err-fitter.field-0.0 c.in_err-fitter.ensures.defects))

pub returns-in_err-fitter-clause-job : goal.returns-in_err-fitter-clause-job
returns-in_err-fitter-clause-job c =
    let p = err_from_is_err_and c.from_residual-in_err-fitter.result c.from_residual-in_err-fitter.ensures.1 in
    rw (p.1, p.2) (drawing_refuses_no_job _ c.in_err-fitter.field-0.0)

-- the work of the fitter is not bounded, so nothing is charged to it
begun : (c : After-made_glyphs) → c.in_ok-fitter.fitter
    ≡ started c.in_ok-fitter.fitter (map (λ g. g.0) c.args.laid.now.line.glyphs.items)
begun c =
    let other = rw (← c.self.view_is) at c.requires.unbounded in
    not_started c.in_ok-fitter.fitter (map (λ g. g.0) c.args.laid.now.line.glyphs.items)
    (c.in_ok-fitter.ensures.setting.unbounded other)

-- the numbers are the distinct ones of the line
numbers_are : (c : After-made_glyphs) → c.deref-2.result.now ≡ distinct (map (λ g. g.0) c.args.laid.now.line.glyphs.items)
numbers_are c = c.deref-2.ensures.value ∙ (rw c.deref.ensures.value at c.in_ok-met.ensures.numbers)

-- the first glyph that fails is the first of the line that does
fails_then : (c : After-made_glyphs) (e : FontFault)
    → IfSome (font_fault e) (λ f. outlines_by (fitter_for c.in_ok-fitter.fitter c.deref-2.result.now) c.deref-2.result.now ≡ Err f)
    → IfSome (font_fault e) (λ f. each (glyph_shape (line_fitter c.in_ok-fitter.fitter (map (λ g. g.0) c.args.laid.now.line.glyphs.items)))
    c.args.laid.now.line.glyphs.items ≡ Err f)
fails_then c e fails =
    let s = c.in_ok-fitter.fitter in
    let line = c.args.laid.now.line.glyphs.items in
    line_fails (line_fitter s (map (λ g. g.0) line)) line e (rw (numbers_are c, begun c) at fails)

-- the glyphs are those of the line, by the fitter of each
drawn_then : (c : In_ok-made) (numbers : List ℕ) → c.deref-2.result.now ≡ numbers
    → (t : Fitter) → c.in_ok-fitter.fitter ≡ t → AreDrawn (fitter_for t numbers) c.in_ok-made.made.items
drawn_then c numbers are t same = rw (are, same) at c.in_ok-made.ensures.drawn

pub returns-in_err-made-clause-stops : goal.returns-in_err-made-clause-stops
returns-in_err-made-clause-stops c =
    let z : SizedFace = record { face = c.self.inside.source.face.now; ppem = c.self.inside.source.ppem; fit = c.self.inside.source.fit } in
    let a = job_with z c.args.laid.now.margin in
    let l = placement_of c.args.laid.now.line in
    let s = c.in_ok-fitter.fitter in
    let other = rw (← c.self.view_is) at c.requires.unbounded in
    let p = err_from_is_err_and c.from_residual-in_err-made.result c.from_residual-in_err-made.ensures.1 in
    let fails = fails_then (goal.at.returns-in_err-made-clause-stops c).After-made_glyphs c.in_err-made.field-0.0 c.in_err-made.ensures.fault in
    rw (p.1, p.2, ← c.self.view_is) (glyph_stops z.face a l s c.in_err-made.field-0.0 c.in_ok-fitter.ensures.exact
    (unbounded_points s a l other) fails)

pub returns-in_err-made-clause-defects : goal.returns-in_err-made-clause-defects
returns-in_err-made-clause-defects c =
    let z : SizedFace = record { face = c.self.inside.source.face.now; ppem = c.self.inside.source.ppem; fit = c.self.inside.source.fit } in
    let face = z.face in
    let a = job_with z c.args.laid.now.margin in
    let s = c.in_ok-fitter.fitter in
    let places = c.args.laid.now.line.glyphs.items in
    let p = err_from_is_err_and c.from_residual-in_err-made.result c.from_residual-in_err-made.ensures.1 in
    let fails = fails_then (goal.at.returns-in_err-made-clause-defects c).After-made_glyphs c.in_err-made.field-0.0 c.in_err-made.ensures.fault in
    rw (p.1, p.2, ← c.self.view_is) (font_tells (IsMadeDefect face a (map (λ g. g.0) places)) c.in_err-made.field-0.0
    (glyph_tells {X = List Shape} (λ ss. ss) face a s places c.in_ok-fitter.ensures.exact
    c.in_err-made.field-0.0 fails))

pub returns-in_err-made-clause-job : goal.returns-in_err-made-clause-job
returns-in_err-made-clause-job c =
    let p = err_from_is_err_and c.from_residual-in_err-made.result c.from_residual-in_err-made.ensures.1 in
    rw (p.1, p.2) (drawing_refuses_no_job _ c.in_err-made.field-0.0)

-- their numbers, and their shapes
made_numbers : (c : In_ok-made) (line : List (ℕ × ℕ)) → c.deref-2.result.now ≡ distinct (map (λ g. g.0) line)
    → numbers_of c.in_ok-made.made.items ≡ distinct (map (λ g. g.0) line)
made_numbers c line are = c.in_ok-made.ensures.numbers ∙ are

pub returns-clause-made : goal.returns-clause-made
returns-clause-made c =
    let z : SizedFace = record { face = c.self.inside.source.face.now; ppem = c.self.inside.source.ppem; fit = c.self.inside.source.fit } in
    let a = job_with z c.args.laid.now.margin in
    let l = placement_of c.args.laid.now.line in
    let s = c.in_ok-fitter.fitter in
    let all = goal.at.returns-clause-made c in
    let other = rw (← c.self.view_is) at c.requires.unbounded in
    let drawn : AreDrawn (line_fitter s (map (λ g. g.0) l.glyphs)) c.in_ok-made.made.items =
    drawn_then all.In_ok-made (distinct (map (λ g. g.0) l.glyphs)) (numbers_are all.After-made_glyphs)
    (started s (map (λ g. g.0) l.glyphs)) (begun all.After-made_glyphs) in
    let numbers = made_numbers all.In_ok-made l.glyphs (numbers_are all.After-made_glyphs) in
    let shapes = shapes_of_drawn (line_fitter s (map (λ g. g.0) l.glyphs)) c.in_ok-made.made.items l.glyphs drawn
    (all_among l.glyphs (numbers_of c.in_ok-made.made.items) numbers) in
    rw (← c.self.view_is) (record {
      setting = s;
      shapes = shapes.0;
      opened = c.in_ok-fitter.ensures.exact;
      few = unbounded_points s a l other;
      fitted = shapes.1;
      seldom = unbounded_edges s a l shapes.0 other;
      drawn = drawn;
      numbers = numbers;
    })

pub returns-clause-cost : goal.returns-clause-cost
returns-clause-cost c =
    let z : SizedFace = record { face = c.self.inside.source.face.now; ppem = c.self.inside.source.ppem; fit = c.self.inside.source.fit } in
    let a = job_with z c.args.laid.now.margin in
    let l = placement_of c.args.laid.now.line in
    let s = c.in_ok-fitter.fitter in
    let all = goal.at.returns-clause-cost c in
    let other = rw (← c.self.view_is) at c.requires.unbounded in
    let drawn : AreDrawn (line_fitter s (map (λ g. g.0) l.glyphs)) c.in_ok-made.made.items =
    drawn_then all.In_ok-made (distinct (map (λ g. g.0) l.glyphs)) (numbers_are all.After-made_glyphs)
    (started s (map (λ g. g.0) l.glyphs)) (begun all.After-made_glyphs) in
    let numbers = made_numbers all.In_ok-made l.glyphs (numbers_are all.After-made_glyphs) in
    let shapes = shapes_of_drawn (line_fitter s (map (λ g. g.0) l.glyphs)) c.in_ok-made.made.items l.glyphs drawn
    (all_among l.glyphs (numbers_of c.in_ok-made.made.items) numbers) in
    rw (← c.self.view_is) (costs_nothing c.work_unfits.ensures.stays z.face a l s shapes.0 c.in_ok-fitter.ensures.exact
    (unbounded_points s a l other) shapes.1 (unbounded_edges s a l shapes.0 other)
    (c.in_ok-fitter.ensures.setting.unbounded other))

pub returns-clause-defects : goal.returns-clause-defects
returns-clause-defects c =
    let z : SizedFace = record { face = c.self.inside.source.face.now; ppem = c.self.inside.source.ppem; fit = c.self.inside.source.fit } in
    let s = c.in_ok-fitter.fitter in
    let gs = c.args.laid.now.line.glyphs.items in
    let all = goal.at.returns-clause-defects c in
    let drawn : AreDrawn (line_fitter s (map (λ g. g.0) gs)) c.in_ok-made.made.items =
    drawn_then all.In_ok-made (distinct (map (λ g. g.0) gs)) (numbers_are all.After-made_glyphs)
    (started s (map (λ g. g.0) gs)) (begun all.After-made_glyphs) in
    let numbers = made_numbers all.In_ok-made gs (numbers_are all.After-made_glyphs) in
    let shapes = shapes_of_drawn (line_fitter s (map (λ g. g.0) gs)) c.in_ok-made.made.items gs drawn
    (all_among gs (numbers_of c.in_ok-made.made.items) numbers) in
    rw (← c.self.view_is) (no_line_defect z.face (job_with z c.args.laid.now.margin) s gs shapes.0 c.in_ok-fitter.ensures.exact
    c.in_ok-fitter.ensures.defects shapes.1)

-- the table has the place of each
pub invariant_of-result : goal.invariant_of-result
invariant_of-result c = record { seated = rw c.in_ok-made.ensures.numbers (rw c.deref-2.ensures.value c.in_ok-met.ensures.places) }

pub invariant_of-self-2 : goal.invariant_of-self-2
invariant_of-self-2 c = (
  given_back c.self.inside.source.face.now c.self.inside.source.ppem c.self.inside.source.fit c.in_ok-fitter.fitter
      c.made_glyphs.new.fitter c.work-begun.result c.give_back.new.self c.in_ok-fitter.ensures.setting
      (rw c.in_ok-made.ensures.after (after_alike c.in_ok-fitter.fitter c.deref-2.result.now)) c.work-begun.ensures c.give_back.ensures,
  c.self.invariant.1,
)

pub made_glyphs-requires-clause-differ : goal.made_glyphs-requires-clause-differ
made_glyphs-requires-clause-differ c =
    let numbers = rw c.deref.ensures.value at c.in_ok-met.ensures.numbers in
    rw (c.deref-2.ensures.value, numbers) (distinct_differ [] (map (λ g. g.0) c.args.laid.now.line.glyphs.items) refl)

pub made_glyphs-requires-clause-cache : goal.made_glyphs-requires-clause-cache
made_glyphs-requires-clause-cache c =
    let z : SizedFace = record { face = c.self.inside.source.face.now; ppem = c.self.inside.source.ppem; fit = c.self.inside.source.fit } in
    of_fitter z c.in_ok-fitter.fitter c.args.cache.now c.in_ok-fitter.ensures.setting (rw (← c.self.view_is) at c.requires.cache)

-- the cache is then that of the font at the size
cache_then : (c : After-made_glyphs) → IsCacheOf c.args.self.now c.made_glyphs.new.cache
cache_then c =
    let z : SizedFace = record { face = c.self.inside.source.face.now; ppem = c.self.inside.source.ppem; fit = c.self.inside.source.fit } in
    let before = rw (← c.self.view_is) at c.requires.cache in
    let own = of_fitter z c.in_ok-fitter.fitter c.args.cache.now c.in_ok-fitter.ensures.setting before in
    rw (← c.self.view_is) (of_face z c.in_ok-fitter.fitter c.args.cache.now c.made_glyphs.new.cache
    c.in_ok-fitter.ensures.exact c.made_glyphs.ensures.limit before c.made_glyphs.ensures.cache)

pub returns-in_err-made-clause-cache : goal.returns-in_err-made-clause-cache
returns-in_err-made-clause-cache c = cache_then (goal.at.returns-in_err-made-clause-cache c).After-made_glyphs

pub returns-clause-cache : goal.returns-clause-cache
returns-clause-cache c = cache_then (goal.at.returns-clause-cache c).After-made_glyphs
