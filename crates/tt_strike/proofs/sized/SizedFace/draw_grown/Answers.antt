use Rattle.std.proofs.Common.{◌≡◌, ◌∙◌, ap, sym, map, Ok}
use Rattle.std.proofs.lemmas.Result.{err_from_is_err_and}
use Rattle.tt_line.specs.Layout.{Placement}
use Rattle.tt_line.specs.Outcome.{placement_of}
use Rattle.tt_picture.specs.Distinct.{distinct}
use Rattle.tt_picture.specs.Glyphs.{numbers_of}
use Rattle.tt_picture.specs.Pictures.{image_of, picture}
use Rattle.tt_picture.proofs.Among.{all_among}
use Rattle.tt_picture.proofs.Shown.{one_line_image}
use Rattle.tt_picture.proofs.Places.{ok_and}
use Rattle.tt_strike.specs.Costs.{cost_by}
use Rattle.tt_strike.specs.Enlarged.{IsEnlarged}
use Rattle.tt_strike.specs.Grown.{grown_outcome}
use Rattle.tt_strike.specs.Picture.{frame_of, laid_out}
use Rattle.tt_strike.specs.Strikes.{job_by}
use Rattle.tt_strike.specs.Work.{line_fitter}
use Rattle.tt_strike.proofs.Costed.{cost_of_line}
use Rattle.tt_strike.proofs.Enlarged.{larger_made, numbers_kept, placed_as_laid}
use Rattle.tt_strike.proofs.Made.{drawn_as_made, reported_as_made}
use Rattle.tt_strike.proofs.OneLine.{one_line}
use Rattle.tt_strike.proofs.Stopped.{grown_stops}
use Rattle.tt_strike.proofs.sized.SizedFace.draw_grown.Goals.{After-frame-frame, After-placed, In_ok-enlarged}
use Rattle.tt_strike.proofs.sized.SizedFace.draw_grown.Goals as goal

pub returns-in_err-enlarged-clause-exact : goal.returns-in_err-enlarged-clause-exact
returns-in_err-enlarged-clause-exact c =
    let p = err_from_is_err_and c.from_residual.result c.from_residual.ensures.1 in
    rw (p.1, p.2) (grown_stops c.args.self.now.face (job_by c.args.self.now c.args.text.now c.args.margin)
    c.in_err-enlarged.field-0.0 c.in_err-enlarged.ensures.stops)

-- the line before it was enlarged
abbrev PlainLine : In_ok-enlarged → Type 0
PlainLine c =
    let face = c.args.self.now.face in
    let a = job_by c.args.self.now c.args.text.now c.args.margin in
    (l : Placement) × (laid_out face a ≡ Ok l)
    × IsEnlarged face a l (placement_of c.in_ok-enlarged.enlarged.laid.line) c.in_ok-enlarged.enlarged.inked.glyphs.made.items

plain : (c : In_ok-enlarged) → PlainLine c
plain c =
    let face = c.args.self.now.face in
    let a = job_by c.args.self.now c.args.text.now c.args.margin in
    ok_and (laid_out face a) (λ l. IsEnlarged face a l (placement_of c.in_ok-enlarged.enlarged.laid.line)
    c.in_ok-enlarged.enlarged.inked.glyphs.made.items) c.in_ok-enlarged.ensures.enlarged

-- the frame is that of the enlarged line
frame_is : (c : After-frame-frame) → c.frame-frame.result
    ≡ frame_of (placement_of c.in_ok-enlarged.enlarged.laid.line) c.args.margin
frame_is c =
    c.frame-frame.ensures.exact ∙ ap (frame_of (placement_of c.in_ok-enlarged.enlarged.laid.line)) c.in_ok-enlarged.ensures.margin

-- the line has this frame, and its glyphs
placed_frame : (c : After-placed) → c.placed.result.frame ≡ c.frame-frame.result
placed_frame c = c.placed.ensures.frame ∙ sym c.frame-frame.ensures.exact

pub new-requires-clause-lines : goal.new-requires-clause-lines
new-requires-clause-lines c =
    let all = goal.at.new-requires-clause-lines c in
    let e = (plain all.In_ok-enlarged).2 in
    let numbers = numbers_of c.in_ok-enlarged.enlarged.inked.glyphs.made.items in
    one_line c.frame-frame.result numbers c.placed.result (placed_frame all.After-placed)
    (rw c.placed.ensures.glyphs (all_among c.in_ok-enlarged.enlarged.laid.line.glyphs.items numbers
    (e.made.numbers ∙ ap distinct (sym (numbers_kept e)))))

pub returns-clause-exact : goal.returns-clause-exact
unfolding grown_outcome
returns-clause-exact c =
    let face = c.args.self.now.face in
    let a = job_by c.args.self.now c.args.text.now c.args.margin in
    let all = goal.at.returns-clause-exact c in
    let its = plain all.In_ok-enlarged in
    let l = its.0 in
    let larger = placement_of c.in_ok-enlarged.enlarged.laid.line in
    let gs = c.in_ok-enlarged.enlarged.inked.glyphs.made.items in
    let e = its.2 in
    let f = frame_of larger a.margin in
    let p = c.in_ok-picture.picture in
    let made = larger_made face a l larger e.left gs e.made e.moved in
    let maker = line_fitter made.setting (map (λ g. g.0) larger.glyphs) in
    let shown = one_line_image maker c.placed.result c.frame-frame.result made.shapes (placed_frame all.After-placed)
    (rw c.placed.ensures.glyphs made.fitted) in
    let image : image_of p ≡ picture f made.shapes =
    rw (frame_is all.After-frame-frame) at (c.in_ok-picture.ensures.exact maker made.drawn ∙ shown) in
    rw (placed_as_laid face a l its.1, e.exact)
    (drawn_as_made face a larger gs made ∙ ap Ok {x = picture f made.shapes} {y = image_of p} (sym image))

pub returns-clause-frame : goal.returns-clause-frame
returns-clause-frame c =
    let face = c.args.self.now.face in
    let a = job_by c.args.self.now c.args.text.now c.args.margin in
    let all = goal.at.returns-clause-frame c in
    let its = plain all.In_ok-enlarged in
    rw (placed_as_laid face a its.0 its.1, its.2.exact) (c.in_ok-picture.ensures.frame ∙ frame_is all.After-frame-frame)

-- the report and the cost are those of the line
pub returns-clause-reported : goal.returns-clause-reported
returns-clause-reported c =
    let face = c.args.self.now.face in
    let a = job_by c.args.self.now c.args.text.now c.args.margin in
    let its = plain (goal.at.returns-clause-reported c).In_ok-enlarged in
    let l = its.0 in
    let gs = c.in_ok-enlarged.enlarged.inked.glyphs.made.items in
    let p = c.in_ok-picture.picture in
    let told = reported_as_made face a l gs p.unfitted its.2.made c.in_ok-picture.ensures.unfitted in
    let cost : cost_by face a ≡ Ok p.cost = rw c.in_ok-picture.ensures.cost c.in_ok-enlarged.ensures.cost in
    rw its.1 (record {
      ready = c.in_ok-picture.ensures.valid;
      report = told.0;
      once = told.1;
      cost = cost_of_line face a l p.cost its.1 cost;
    })
