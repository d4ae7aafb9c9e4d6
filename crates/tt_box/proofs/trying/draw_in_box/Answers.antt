use Rattle.std.proofs.Common.{◌≡◌, ◌∙◌, ap, sym, Some, arith}
use Rattle.std.proofs.lemmas.List.{length-map}
use Rattle.tt_box.proofs.Tries.{alike_boxed, inside_shown, joint_sized, outside_not}
use Rattle.tt_box.specs.Views.{place_of}
use Rattle.tt_label.specs.Label.{joint}
use Rattle.tt_label.specs.Views.{placements_of}
use Rattle.tt_label.proofs.Larger.{first_frame}
use Rattle.tt_label.proofs.Shown.{are_lines, placed_image}
use Rattle.tt_line.specs.Outcome.{placement_of}
use Rattle.tt_picture.specs.Glyphs.{numbers_of}
use Rattle.tt_strike.specs.declared.laid.Laid.{Laid}
use Rattle.tt_strike.specs.Picture.{frame_of}
use Rattle.tt_box.proofs.trying.draw_in_box.Goals.{After-frame-frame}
use Rattle.tt_box.proofs.trying.draw_in_box.Goals as goal

frame_then : (c : After-frame-frame) → c.frame-frame.result ≡ frame_of (joint (placements_of c.args.lines.now)) c.args.place.margin
frame_then c =
    c.frame-frame.ensures.exact
    ∙ first_frame c.args.lines.now c.index-lines-0.result c.args.place.margin c.requires.boxed.some c.index-lines-0.is c.requires.boxed.margins

pub new-requires-clause-lines : goal.new-requires-clause-lines
new-requires-clause-lines c =
    let at = goal.at.new-requires-clause-lines c in
    let numbers = numbers_of c.args.inked.now.glyphs.made.items in
    rw (c.deref.ensures.value, frame_then at.After-frame-frame)
    (are_lines numbers c.args.place.margin c.in_ok-placed.placed.items c.args.lines.now c.in_ok-placed.ensures
    (alike_boxed (place_of c.args.place) c.args.lines.now c.requires.boxed) c.requires.among)

pub returns-then-not-is_inside-clause-exact : goal.returns-then-not-is_inside-clause-exact
returns-then-not-is_inside-clause-exact c = λ ink maker inks drawn.
    sym (outside_not (place_of c.args.place) c.args.place.margin maker c.label_ink-ink.result _ (placements_of c.args.lines.now)
    (c.label_ink-ink.ensures ink c.args.place.margin inks c.requires.boxed.margins) (sym c.is_inside.ensures ∙ c.if-not-is_inside.true))

pub returns-clause-exact : goal.returns-clause-exact
returns-clause-exact c = λ ink maker inks drawn.
    let at = goal.at.returns-clause-exact c in
    let margin = c.args.place.margin in
    let painted = rw c.deref.ensures.value at (c.in_ok-new.ensures.exact maker drawn) in
    let whole = painted ∙ placed_image maker c.frame-frame.result margin c.in_ok-placed.placed.items c.args.lines.now c.in_ok-placed.ensures c.requires.boxed.margins in
    let frame = frame_then at.After-frame-frame in
    let shown = inside_shown (place_of c.args.place) margin maker c.label_ink-ink.result _ (placements_of c.args.lines.now)
    (c.label_ink-ink.ensures ink margin inks c.requires.boxed.margins) (sym c.is_inside.ensures ∙ c.if-not-is_inside.false) in
    ap Some (rw frame at whole) ∙ sym shown

pub returns-clause-sides : goal.returns-clause-sides
returns-clause-sides c =
    let at = goal.at.returns-clause-sides c in
    let frame = frame_then at.After-frame-frame in
    let many = length-map c.args.lines.now (λ (l : Laid). placement_of l.line) in
    let some = c.requires.boxed.some in
    rw (c.in_ok-new.ensures.frame, frame)
    (joint_sized c.args.place.width c.args.place.height (placements_of c.args.lines.now) (omega (arith, many, some)) c.requires.boxed.sizes)
