use Rattle.std.proofs.Common.{◌≡◌, ◌∙◌, ap, sym, map, Ok}
use Rattle.std.proofs.lemmas.Result.{err_from_is_err_and}
use Rattle.tt_line.specs.Outcome.{placement_of}
use Rattle.tt_picture.specs.Glyphs.{numbers_of}
use Rattle.tt_picture.specs.Pictures.{image_of, picture}
use Rattle.tt_picture.proofs.Among.{all_among}
use Rattle.tt_picture.proofs.Shown.{one_line_image}
use Rattle.tt_strike.specs.Picture.{frame_of}
use Rattle.tt_strike.specs.Strikes.{job_by}
use Rattle.tt_strike.specs.Work.{line_fitter}
use Rattle.tt_strike.proofs.Made.{drawn_as_made, reported_as_made}
use Rattle.tt_strike.proofs.OneLine.{one_line}
use Rattle.tt_strike.proofs.Stopped.{line_as_laid, line_stops}
use Rattle.tt_strike.proofs.sized.SizedFace.draw.Goals.{After-frame-frame, After-placed}
use Rattle.tt_strike.proofs.sized.SizedFace.draw.Goals as goal

pub returns-in_err-made-clause-exact : goal.returns-in_err-made-clause-exact
returns-in_err-made-clause-exact c =
    let p = err_from_is_err_and c.from_residual.result c.from_residual.ensures.1 in
    rw (p.1, p.2) (line_stops c.args.self.now.face (job_by c.args.self.now c.args.text.now c.args.margin)
    c.in_err-made.field-0.0 c.in_err-made.ensures.stops)

-- the frame is that of the line
frame_is : (c : After-frame-frame) → c.frame-frame.result
    ≡ frame_of (placement_of c.in_ok-made.made.laid.line) c.args.margin
frame_is c =
    c.frame-frame.ensures.exact ∙ ap (frame_of (placement_of c.in_ok-made.made.laid.line)) c.in_ok-made.ensures.margin

-- the line has this frame, and its glyphs
placed_frame : (c : After-placed) → c.placed.result.frame ≡ c.frame-frame.result
placed_frame c = c.placed.ensures.frame ∙ sym c.frame-frame.ensures.exact

pub new-requires-clause-lines : goal.new-requires-clause-lines
new-requires-clause-lines c =
    let numbers = numbers_of c.in_ok-made.made.glyphs.made.items in
    one_line c.frame-frame.result numbers c.placed.result (placed_frame (goal.at.new-requires-clause-lines c).After-placed)
    (rw c.placed.ensures.glyphs (all_among c.in_ok-made.made.laid.line.glyphs.items numbers c.in_ok-made.ensures.made.made.numbers))

pub returns-clause-exact : goal.returns-clause-exact
returns-clause-exact c =
    let face = c.args.self.now.face in
    let a = job_by c.args.self.now c.args.text.now c.args.margin in
    let l = placement_of c.in_ok-made.made.laid.line in
    let gs = c.in_ok-made.made.glyphs.made.items in
    let is = c.in_ok-made.ensures.made in
    let made = is.made in
    let p = c.in_ok-picture.picture in
    let all = goal.at.returns-clause-exact c in
    let maker = line_fitter made.setting (map (λ g. g.0) l.glyphs) in
    let shown = one_line_image maker c.placed.result c.frame-frame.result made.shapes (placed_frame all.After-placed)
    (rw c.placed.ensures.glyphs made.fitted) in
    let image : image_of p ≡ picture (frame_of l a.margin) made.shapes =
    rw (frame_is all.After-frame-frame) at (c.in_ok-picture.ensures.exact maker made.drawn ∙ shown) in
    line_as_laid face a ∙ rw is.laid (drawn_as_made face a l gs made
    ∙ ap Ok {x = picture (frame_of l a.margin) made.shapes} {y = image_of p} (sym image))

pub returns-clause-frame : goal.returns-clause-frame
returns-clause-frame c =
    rw c.in_ok-made.ensures.made.laid
    (c.in_ok-picture.ensures.frame ∙ frame_is (goal.at.returns-clause-frame c).After-frame-frame)

pub returns-clause-reported : goal.returns-clause-reported
returns-clause-reported c =
    let face = c.args.self.now.face in
    let a = job_by c.args.self.now c.args.text.now c.args.margin in
    let l = placement_of c.in_ok-made.made.laid.line in
    let gs = c.in_ok-made.made.glyphs.made.items in
    let is = c.in_ok-made.ensures.made in
    let made = is.made in
    let p = c.in_ok-picture.picture in
    let told = reported_as_made face a l gs p.unfitted made c.in_ok-picture.ensures.unfitted in
    rw is.laid (record {
      ready = c.in_ok-picture.ensures.valid;
      report = told.0;
      once = told.1;
      cost = rw c.in_ok-picture.ensures.cost is.cost;
    })
