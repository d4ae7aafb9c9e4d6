use Rattle.std.proofs.Common.{◌≡◌, ◌∙◌, ℕ, ◌<◌, ◌≤◌, List, get_or, length, sym, ap, ap₂, arith}
use Rattle.std.proofs.lemmas.List.{drop_all, drop_more}
use Rattle.tt_label.specs.Label.{line_box}
use Rattle.tt_line.specs.Outcome.{placement_of}
use Rattle.tt_scan_edges.specs.declared.edge.Frame.{Frame}
use Rattle.tt_strike.specs.Measures.{box_in}
use Rattle.tt_strike.specs.Picture.{frame_of}
use Rattle.tt_label.proofs.growing.label_ink.Goals as goal

pub loop-laid-preserved : goal.loop-laid-preserved
loop-laid-preserved c = λ ink margin inks margins.
    let at = c.loop-laid in
    let lines = c.args.lines.now in
    let i = at.laid-index in
    let laid = c.laid-item.result in
    let below : i < length lines = c.loop-laid-test.true in
    let here : get_or lines i laid ≡ laid = sym c.laid-item.is in
    let own : laid.margin ≡ margin = rw here at (margins i laid below) in
    let box : c.line_ink.result ≡ line_box ink margin (placement_of laid.line) =
    c.line_ink.ensures ink inks ∙ ap₂ (λ (f : Frame) (gs : List (ℕ × ℕ)). box_in ink f gs)
    (c.placed.ensures.frame ∙ ap (λ m. frame_of (placement_of laid.line) m) own) c.placed.ensures.glyphs in
    rw (c.joined-all.ensures, box) (rw (drop_more lines i laid below, here) at (at.invariant ink margin inks margins))

pub returns : goal.returns
returns c = λ ink margin inks margins.
    let lines = c.args.lines.now in
    let over : length lines ≤ c.loop-laid.laid-index = omega (arith, c.loop-laid-test.false) in
    rw (drop_all c.loop-laid.laid-index lines over) at (c.loop-laid.invariant ink margin inks margins)

pub line_ink-requires : goal.line_ink-requires
line_ink-requires c =
    let at = c.loop-laid in
    let laid = c.laid-item.result in
    let here : get_or c.args.lines.now at.laid-index laid ≡ laid = sym c.laid-item.is in
    rw c.placed.ensures.glyphs (rw here at (c.requires at.laid-index laid c.loop-laid-test.true))
