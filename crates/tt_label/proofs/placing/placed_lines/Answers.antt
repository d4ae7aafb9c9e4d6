use Rattle.std.proofs.Common.{◌≡◌, ◌<◌, ◌≤◌, ℕ, List, get_or, length, sym, ap₂, take, refl, arith}
use Rattle.std.proofs.lemmas.List.{map_push, take_all, take_more}
use Rattle.tt_label.specs.Views.{laid_parts, placed_parts}
use Rattle.tt_scan_edges.specs.declared.edge.Frame.{Frame}
use Rattle.tt_label.proofs.placing.placed_lines.Goals as goal

pub loop-laid-preserved : goal.loop-laid-preserved
loop-laid-preserved c =
    let at = c.loop-laid in
    let lines = c.args.lines.now in
    let i = at.laid-index in
    let laid = c.laid-item.result in
    let p = c.placed.result in
    let below : i < length lines = c.loop-laid-test.true in
    let here : get_or lines i laid ≡ laid = sym c.laid-item.is in
    let one : placed_parts p ≡ laid_parts laid =
    ap₂ (λ (f : Frame) (gs : List (ℕ × ℕ)). (f, gs)) c.placed.ensures.frame c.placed.ensures.glyphs in
    let pushed = c.in_ok-push.ensures.items in
    rw (
      pushed,
      map_push placed_parts at.made.items p,
      take_more lines i laid below,
      here,
      map_push laid_parts (take i lines) laid,
      at.invariant,
      one,
    ) refl

pub returns : goal.returns
returns c =
    let lines = c.args.lines.now in
    let over : length lines ≤ c.loop-laid.laid-index = omega (arith, c.loop-laid-test.false) in
    rw (take_all c.loop-laid.laid-index lines over) at c.loop-laid.invariant
