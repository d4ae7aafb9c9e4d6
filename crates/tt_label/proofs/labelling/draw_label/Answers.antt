use Rattle.std.proofs.Common.{◌≡◌, ◌∙◌, refl, ap, ℕ, Vec, Global, Ok, true, arith}
use Rattle.std.proofs.lemmas.Result.{err_from_is_err_and}
use Rattle.tt_label.specs.Label.{joint, joint_numbers, label_cost, label_ink, label_report}
use Rattle.tt_label.specs.Made.{AreLaid}
use Rattle.tt_label.specs.Views.{placements_of}
use Rattle.tt_label.proofs.Drawn.{growth_stops, label_is, label_stops}
use Rattle.tt_label.proofs.Larger.{each_line, first_frame, larger_laid, of_larger}
use Rattle.tt_label.proofs.Shown.{are_lines, placed_image}
use Rattle.tt_picture.specs.Distinct.{is_among}
use Rattle.tt_picture.specs.Glyphs.{numbers_of}
use Rattle.tt_picture.specs.Unfitted.{ListsOnce}
use Rattle.tt_picture.proofs.Among.{all_among}
use Rattle.tt_strike.specs.declared.laid.Laid.{Laid}
use Rattle.tt_strike.specs.Measures.{line_ink}
use Rattle.tt_strike.specs.Picture.{frame_of}
use Rattle.tt_strike.specs.Strikes.{job_by}
use Rattle.tt_strike.specs.Work.{line_fitter}
use Rattle.tt_strike.proofs.Made.{inks_as_made, reported_as_made}
use Rattle.tt_label.proofs.labelling.draw_label.Goals.{After-frame-frame, After-label_ink-ink, In_ok-lines, In_ok-picture}
use Rattle.tt_label.proofs.labelling.draw_label.Goals as goal

-- the ink of the lines is that of the definition
ink_then : (c : After-label_ink-ink) → c.label_ink-ink.result ≡ label_ink (line_ink c.in_ok-made.ensures.made.made.setting (joint (placements_of c.in_ok-made.made.lines.items)))
    c.args.margin (placements_of c.in_ok-made.made.lines.items)
ink_then c =
    let is = c.in_ok-made.ensures.made in
    let l = joint (placements_of c.in_ok-made.made.lines.items) in
    let gs = c.in_ok-made.made.glyphs.made.items in
    let inks = rw c.deref.ensures.value at c.in_ok-inks.ensures.exact
    ∙ inks_as_made c.args.sized.now.face (job_by c.args.sized.now c.args.text.now c.args.margin) l gs is.made in
    let whole = rw c.deref-2.ensures.value at c.label_ink-ink.ensures in
    whole (line_ink is.made.setting l) c.args.margin inks is.laid.margins

-- the enlarged lines
larger_then : (c : In_ok-lines) → AreLaid c.args.sized.now.face c.args.margin c.in_ok-lines.lines.items
larger_then c =
    let laid = c.in_ok-made.ensures.made.laid in
    larger_laid c.args.sized.now.face c.args.margin c.label_ink-ink.result c.in_ok-made.made.lines.items c.in_ok-lines.lines.items laid
    (c.in_ok-lines.ensures.margin c.args.margin laid.margins) c.in_ok-lines.ensures.exact

-- the frame of the first of them is that of the picture
frame_then : (c : After-frame-frame) → AreLaid c.args.sized.now.face c.args.margin c.in_ok-lines.lines.items
    → c.frame-frame.result ≡ frame_of (joint (placements_of c.in_ok-lines.lines.items)) c.args.margin
frame_then c laid =
    c.frame-frame.ensures.exact
    ∙ first_frame c.in_ok-lines.lines.items c.index.result.now c.args.margin laid.some c.index.ensures laid.margins

pub label_ink-ink-requires : goal.label_ink-ink-requires
label_ink-ink-requires c =
    let ls = c.in_ok-made.made.lines.items in
    let numbers = numbers_of c.in_ok-made.made.glyphs.made.items in
    rw c.deref-2.ensures.value (each_line (λ (g : ℕ × ℕ). is_among g.0 numbers ≡ true) ls
    (all_among (joint (placements_of ls)).glyphs numbers c.in_ok-made.ensures.made.made.numbers))

pub index-requires : goal.index-requires
index-requires c =
    let some = (larger_then (goal.at.index-requires c).In_ok-lines).some in
    omega (arith, some, c.in_ok-lines.lines.ok.0)

pub new-requires-clause-lines : goal.new-requires-clause-lines
new-requires-clause-lines c =
    let at = goal.at.new-requires-clause-lines c in
    let ls = placements_of c.in_ok-made.made.lines.items in
    let larger = c.in_ok-lines.lines.items in
    let laid = larger_then at.In_ok-lines in
    let numbers = numbers_of c.in_ok-made.made.glyphs.made.items in
    let among = each_line (λ (g : ℕ × ℕ). is_among g.0 numbers ≡ true) larger
    (of_larger (λ n. is_among n numbers ≡ true) c.label_ink-ink.result ls (placements_of larger) c.in_ok-lines.ensures.exact
    (all_among (joint ls).glyphs numbers c.in_ok-made.ensures.made.made.numbers)) in
    let same = rw c.deref-3.ensures.value at c.in_ok-placed.ensures in
    rw (c.deref-4.ensures.value, frame_then at.After-frame-frame laid)
    (are_lines numbers c.args.margin c.in_ok-placed.placed.items larger same laid.alike among)

pub returns-in_err-made-clause-exact : goal.returns-in_err-made-clause-exact
returns-in_err-made-clause-exact c =
    let p = err_from_is_err_and c.from_residual.result c.from_residual.ensures.1 in
    rw (p.1, p.2) (label_stops c.args.sized.now.face (job_by c.args.sized.now c.args.text.now c.args.margin) c.args.align
    c.in_err-made.field-0.0 c.in_err-made.ensures.stops)

pub returns-in_err-lines-clause-exact : goal.returns-in_err-lines-clause-exact
returns-in_err-lines-clause-exact c =
    let is = c.in_ok-made.ensures.made in
    let ink = ink_then (goal.at.returns-in_err-lines-clause-exact c).After-label_ink-ink in
    let p = err_from_is_err_and c.from_residual-in_err-lines.result c.from_residual-in_err-lines.ensures.1 in
    rw (p.1, p.2) (growth_stops (λ (v : Vec Laid Global). placements_of v.items) c.args.sized.now.face
    (job_by c.args.sized.now c.args.text.now c.args.margin) c.args.align (placements_of c.in_ok-made.made.lines.items)
    c.label_ink-ink.result c.in_ok-made.made.glyphs.made.items c.in_err-lines.field-0.0 is.placed is.made ink c.in_err-lines.ensures.exact)

pub returns-clause-exact : goal.returns-clause-exact
returns-clause-exact c =
    let all = goal.at.returns-clause-exact c in
    let is = c.in_ok-made.ensures.made in
    let lines = placements_of c.in_ok-made.made.lines.items in
    let larger = c.in_ok-lines.lines.items in
    let laid = larger_then all.In_ok-lines in
    let maker = line_fitter is.made.setting (joint_numbers lines) in
    let drawn = label_is c.args.sized.now.face (job_by c.args.sized.now c.args.text.now c.args.margin) c.args.align lines
    (placements_of larger) c.label_ink-ink.result c.in_ok-made.made.glyphs.made.items is.placed is.made
    (ink_then all.After-label_ink-ink) c.in_ok-lines.ensures.exact in
    let same = rw c.deref-3.ensures.value at c.in_ok-placed.ensures in
    let painted = rw c.deref-4.ensures.value at (c.in_ok-picture.ensures.exact maker is.made.drawn) in
    let frame = frame_then all.After-frame-frame laid in
    drawn ∙ ap Ok (rw (
      painted,
      placed_image maker c.frame-frame.result c.args.margin c.in_ok-placed.placed.items larger same laid.margins,
      frame,
    ) refl)

-- the unfitted glyphs are those of the joint line
listed_then : (c : In_ok-picture) → (label_report c.args.sized.now.face (job_by c.args.sized.now c.args.text.now c.args.margin) c.args.align
    ≡ Ok c.in_ok-picture.picture.unfitted) × ListsOnce c.in_ok-picture.picture.unfitted
unfolding label_report
listed_then c =
    let is = c.in_ok-made.ensures.made in
    let told = reported_as_made c.args.sized.now.face (job_by c.args.sized.now c.args.text.now c.args.margin)
    (joint (placements_of c.in_ok-made.made.lines.items)) c.in_ok-made.made.glyphs.made.items c.in_ok-picture.picture.unfitted is.made
    c.in_ok-picture.ensures.unfitted in (rw is.placed told.0, told.1)

pub returns-clause-report : goal.returns-clause-report
returns-clause-report c = (listed_then (goal.at.returns-clause-report c).In_ok-picture).0

pub returns-clause-once : goal.returns-clause-once
returns-clause-once c = (listed_then (goal.at.returns-clause-once c).In_ok-picture).1

pub returns-clause-cost : goal.returns-clause-cost
unfolding label_cost
returns-clause-cost c =
    let is = c.in_ok-made.ensures.made in
    rw (c.in_ok-picture.ensures.cost, is.placed) is.cost
