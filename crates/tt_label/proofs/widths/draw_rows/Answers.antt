use Rattle.std.proofs.Common.{◌≡◌, ◌∙◌, refl, ap, sym, ℕ, Bool, Vec, Global, Ok, arith}
use Rattle.std.proofs.lemmas.Result.{err_from_is_err_and}
use Rattle.std.specs.Prelude.{All}
use Rattle.tt_label.specs.Label.{grown_lines, joint, some_line_shows}
use Rattle.tt_label.specs.RowViews.{cut_view, rows_view}
use Rattle.tt_label.specs.Views.{placements_of}
use Rattle.tt_label.specs.Widths.{upright}
use Rattle.tt_label.proofs.ByStep.{size_tells_no_defect}
use Rattle.tt_label.proofs.Larger.{first_frame}
use Rattle.tt_label.proofs.RowsDrawn.{alike_larger, among_larger, growth_stops_rows, rows_as_drawn, some_larger, width_larger}
use Rattle.tt_label.proofs.Shown.{are_lines, placed_image}
use Rattle.tt_picture.specs.Glyphs.{numbers_of}
use Rattle.tt_picture.specs.Pictures.{image, image_of}
use Rattle.tt_scan_edges.specs.declared.edge.Frame.{Frame}
use Rattle.tt_strike.specs.declared.laid.Laid.{Laid}
use Rattle.tt_strike.specs.Picture.{frame_of}
use Rattle.tt_label.proofs.widths.draw_rows.Goals.{After-frame-frame, In_ok-larger}
use Rattle.tt_label.proofs.widths.draw_rows.Goals as goal

grown_then : (c : In_ok-larger) → grown_lines (placements_of c.args.rows.lines.items) (upright c.label_ink-ink.result) ≡ Ok (placements_of c.in_ok-larger.larger.items)
grown_then c = rw c.upright.ensures at c.in_ok-larger.ensures.exact

-- the frame of the first of them is that of the picture
frame_then : (c : After-frame-frame) (margin : ℕ) → All (λ (l : Laid). l.margin ≡ margin) c.args.rows.lines.items
    → grown_lines (placements_of c.args.rows.lines.items) (upright c.label_ink-ink.result) ≡ Ok (placements_of c.in_ok-larger.larger.items)
    → c.frame-frame.result ≡ frame_of (joint (placements_of c.in_ok-larger.larger.items)) margin
frame_then c margin margins is =
    c.frame-frame.ensures.exact
    ∙ first_frame c.in_ok-larger.larger.items c.index.result.now margin
    (some_larger c.requires.rows.0 c.args.rows c.label_ink-ink.result c.in_ok-larger.larger.items c.requires.rows.1 is)
    c.index.ensures (c.in_ok-larger.ensures.margin margin margins)

pub label_ink-ink-requires : goal.label_ink-ink-requires
label_ink-ink-requires c = rw c.deref.ensures.value c.requires.among

pub index-requires : goal.index-requires
index-requires c =
    let is = grown_then (goal.at.index-requires c).In_ok-larger in
    let some = some_larger c.requires.rows.0 c.args.rows c.label_ink-ink.result c.in_ok-larger.larger.items c.requires.rows.1 is in
    omega (arith, some, c.in_ok-larger.larger.ok.0)

pub new-requires-clause-lines : goal.new-requires-clause-lines
new-requires-clause-lines c =
    let at = goal.at.new-requires-clause-lines c in
    let larger = c.in_ok-larger.larger.items in
    let is = grown_then at.In_ok-larger in
    let margin = c.requires.rows.0 in
    let are = c.requires.rows.1 in
    let numbers = numbers_of c.args.inked.now.glyphs.made.items in
    let same = rw c.deref-2.ensures.value at c.in_ok-placed.ensures in
    rw (c.deref-3.ensures.value, frame_then at.After-frame-frame margin are.margins is)
    (are_lines numbers margin c.in_ok-placed.placed.items larger same
    (alike_larger margin c.args.rows c.label_ink-ink.result larger are is)
    (among_larger numbers c.args.rows c.label_ink-ink.result larger is c.requires.among))

pub shown_columns-requires-clause-within : goal.shown_columns-requires-clause-within
shown_columns-requires-clause-within c =
    let at = goal.at.shown_columns-requires-clause-within c in
    let is = grown_then at.In_ok-larger in
    let margin = c.requires.rows.0 in
    let are = c.requires.rows.1 in
    let frame = frame_then at.After-frame-frame margin are.margins is in
    let wide = width_larger margin c.args.rows c.label_ink-ink.result c.in_ok-larger.larger.items are is in
    rw (c.in_ok-whole.ensures.frame, frame, wide) c.requires.wide

pub returns-in_err-larger-clause-exact : goal.returns-in_err-larger-clause-exact
returns-in_err-larger-clause-exact c = λ ink maker margin inks drawn margins.
    let p = err_from_is_err_and c.from_residual.result c.from_residual.ensures.1 in
    let own = rw c.deref.ensures.value at c.label_ink-ink.ensures in
    let fails = rw c.upright.ensures at c.in_err-larger.ensures.exact in
    rw (p.1, p.2) (growth_stops_rows (λ (v : Vec Laid Global). placements_of v.items) cut_view ink maker margin c.args.width (rows_view c.args.rows) c.label_ink-ink.result c.in_err-larger.field-0.0
    (own ink margin inks margins) fails)

pub returns-in_err-larger-clause-font : goal.returns-in_err-larger-clause-font
returns-in_err-larger-clause-font c =
    let p = err_from_is_err_and c.from_residual.result c.from_residual.ensures.1 in
    rw (p.1, p.2) (size_tells_no_defect (λ (v : Vec Laid Global). placements_of v.items) _ _ c.in_err-larger.field-0.0 c.in_err-larger.ensures.exact)

pub returns-clause-exact : goal.returns-clause-exact
returns-clause-exact c = λ ink maker margin inks drawn margins.
    let at = goal.at.returns-clause-exact c in
    let larger = c.in_ok-larger.larger.items in
    let is = grown_then at.In_ok-larger in
    let own = rw c.deref.ensures.value at c.label_ink-ink.ensures in
    let told = rows_as_drawn ink maker margin c.args.width (rows_view c.args.rows) c.label_ink-ink.result (placements_of larger)
    (own ink margin inks margins) is in
    let above = c.in_ok-larger.ensures.margin margin margins in
    let same = rw c.deref-2.ensures.value at c.in_ok-placed.ensures in
    let black : ℕ → ℕ → Bool = some_line_shows maker margin (placements_of larger) in
    let painted = rw c.deref-3.ensures.value at (c.in_ok-whole.ensures.exact maker drawn) in
    let whole : image_of c.in_ok-whole.whole ≡ image c.in_ok-whole.whole.frame black =
    painted ∙ placed_image maker c.frame-frame.result margin c.in_ok-placed.placed.items larger same above
    ∙ ap (λ (f : Frame). image f black) (sym c.in_ok-whole.ensures.frame) in
    let shown = rw (c.in_ok-whole.ensures.frame, frame_then at.After-frame-frame margin margins is) at (c.in_ok-picture.ensures.exact black whole) in
    told ∙ ap Ok (rw (shown, c.cut_left.ensures, c.cut_right.ensures) refl)

pub cut_right-requires-clause-skipped : goal.cut_right-requires-clause-skipped
cut_right-requires-clause-skipped c = c.requires.rows.1.picture.skipped
