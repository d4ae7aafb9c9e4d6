use Rattle.std.proofs.Common.{◌≡◌, ◌∙◌, ap, ap₂, sym, ℕ, List, Ok, Err}
use Rattle.std.proofs.lemmas.Result.{err_from_is_err_and}
use Rattle.tt_face.specs.Faces.{Face}
use Rattle.tt_line.specs.Layout.{Placement}
use Rattle.tt_line.specs.Outcome.{placement_of}
use Rattle.tt_metrics.specs.Metrics.{glyphs_of}
use Rattle.tt_picture.specs.Glyphs.{Glyph, numbers_of}
use Rattle.tt_picture.proofs.Among.{all_among}
use Rattle.tt_scan_edges.specs.declared.edge.Frame.{Frame}
use Rattle.tt_strike.specs.Costs.{cost_by}
use Rattle.tt_strike.specs.Grown.{grown}
use Rattle.tt_strike.specs.Job.{Job}
use Rattle.tt_strike.specs.Made.{AreMade}
use Rattle.tt_strike.specs.Measures.{Measure, box_in, line_ink, line_step, measure_by}
use Rattle.tt_strike.specs.Picture.{frame_of}
use Rattle.tt_strike.specs.Strikes.{job_by}
use Rattle.tt_strike.proofs.Enlarged.{grown_as_measured, grown_moves, known_rightwards, measured_box, not_grown, placed_as_laid}
use Rattle.tt_strike.proofs.Made.{inks_as_made, measured_as_made}
use Rattle.tt_strike.proofs.Placed.{placed_of}
use Rattle.tt_strike.proofs.Stopped.{placing_stops}
use Rattle.tt_strike.proofs.sized.SizedFace.enlarge.Goals.{After-line_ink-ink}
use Rattle.tt_strike.proofs.sized.SizedFace.enlarge.Goals as goal

pub returns-in_err-made-clause-stops : goal.returns-in_err-made-clause-stops
returns-in_err-made-clause-stops c =
    let p = err_from_is_err_and c.from_residual.result c.from_residual.ensures.1 in
    rw (p.1, p.2) (placing_stops c.args.self.now.face (job_by c.args.self.now c.args.text.now c.args.margin)
    c.in_err-made.field-0.0 c.in_err-made.ensures.stops)

pub returns-in_err-made-clause-defects : goal.returns-in_err-made-clause-defects
returns-in_err-made-clause-defects c =
    let p = err_from_is_err_and c.from_residual.result c.from_residual.ensures.1 in
    rw (p.1, p.2) c.in_err-made.ensures.defects

pub line_ink-ink-requires : goal.line_ink-ink-requires
line_ink-ink-requires c =
    rw c.placed.ensures.glyphs (all_among c.in_ok-made.made.laid.line.glyphs.items (numbers_of c.in_ok-made.made.glyphs.made.items)
    c.in_ok-made.ensures.made.made.numbers)

-- the measure that the definition names
abbrev measure_of : (face : Face) (a : Job) (l : Placement) (gs : List Glyph) → AreMade face a l gs → Measure
measure_of face a l gs made = measure_by face.metrics (line_step face a made.setting l) a.margin (line_ink made.setting l) l

-- the box of the line's ink is that of this measure
ink_is : (c : After-line_ink-ink) → (made : AreMade c.args.self.now.face
    (job_by c.args.self.now c.args.text.now c.args.margin) (placement_of c.in_ok-made.made.laid.line)
    c.in_ok-made.made.glyphs.made.items)
    → c.line_ink-ink.result ≡ (measure_of c.args.self.now.face (job_by c.args.self.now c.args.text.now c.args.margin)
    (placement_of c.in_ok-made.made.laid.line) c.in_ok-made.made.glyphs.made.items made).ink
ink_is c made =
    let face = c.args.self.now.face in
    let a = job_by c.args.self.now c.args.text.now c.args.margin in
    let l = placement_of c.in_ok-made.made.laid.line in
    let gs = c.in_ok-made.made.glyphs.made.items in
    let ink = line_ink made.setting l in
    let inks = (rw c.deref.ensures.value at c.in_ok-inks.ensures.exact) ∙ inks_as_made face a l gs made in
    c.line_ink-ink.ensures ink inks
    ∙ ap₂ (λ (f : Frame) (places : List (ℕ × ℕ)). box_in ink f places)
    (c.placed.ensures.frame ∙ ap (frame_of l) c.in_ok-made.ensures.margin) c.placed.ensures.glyphs
    ∙ sym (measured_box face.metrics (line_step face a made.setting l) a.margin ink l)

pub returns-in_err-line-clause-stops : goal.returns-in_err-line-clause-stops
returns-in_err-line-clause-stops c =
    let face = c.args.self.now.face in
    let a = job_by c.args.self.now c.args.text.now c.args.margin in
    let l = placement_of c.in_ok-made.made.laid.line in
    let gs = c.in_ok-made.made.glyphs.made.items in
    let is = c.in_ok-made.ensures.made in
    let m = measure_of face a l gs is.made in
    let fails : grown l m.ink ≡ Err c.in_err-line.field-0.0 =
    rw (ink_is (goal.at.returns-in_err-line-clause-stops c).After-line_ink-ink is.made) at c.in_err-line.ensures in
    let p = err_from_is_err_and c.from_residual-in_err-line.result c.from_residual-in_err-line.ensures.1 in
    rw (p.1, p.2, placed_as_laid face a l is.laid) (not_grown face a l m c.in_err-line.field-0.0
    (measured_as_made face a l gs is.made) fails)

pub returns-clause-enlarged : goal.returns-clause-enlarged
returns-clause-enlarged c =
    let face = c.args.self.now.face in
    let a = job_by c.args.self.now c.args.text.now c.args.margin in
    let l = placement_of c.in_ok-made.made.laid.line in
    let gs = c.in_ok-made.made.glyphs.made.items in
    let larger = placement_of c.in_ok-line.line in
    let is = c.in_ok-made.ensures.made in
    let m = measure_of face a l gs is.made in
    let holds : grown l m.ink ≡ Ok larger =
    rw (ink_is (goal.at.returns-clause-enlarged c).After-line_ink-ink is.made) at c.in_ok-line.ensures in
    let moved = grown_moves l larger m.ink holds in
    rw is.laid (record {
      made = is.made;
      known = rw moved.1 (known_rightwards (glyphs_of face.metrics) moved.0 l.glyphs is.known);
      left = moved.0;
      moved = moved.1;
      exact = grown_as_measured face a l larger m (measured_as_made face a l gs is.made) holds;
    })

pub returns-clause-cost : goal.returns-clause-cost
unfolding cost_by
returns-clause-cost c =
    let face = c.args.self.now.face in
    let a = job_by c.args.self.now c.args.text.now c.args.margin in
    let is = c.in_ok-made.ensures.made in
    rw (placed_of face a (placement_of c.in_ok-made.made.laid.line) is.laid) is.cost
