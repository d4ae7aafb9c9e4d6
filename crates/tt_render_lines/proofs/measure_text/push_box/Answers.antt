use Rattle.std.proofs.Common.{SFits, w64, refl, rules}
use Rattle.std.proofs.lemmas.Int.{to_z-of_z}
use Rattle.tt_render_lines.proofs.MeasureLines.{box_before}
use Rattle.tt_render_lines.proofs.measure_text.push_box.Goals as goal

pub returns-in-Some-clause-text : goal.returns-in-Some-clause-text
returns-in-Some-clause-text c =
    let ink = c.in-Some.ink in
    let of_left : SFits w64 ink.left = search rules in
    let of_top : SFits w64 ink.top = search rules in
    let of_right : SFits w64 ink.right = search rules in
    let of_bottom : SFits w64 ink.bottom = search rules in
    let bottom = simp to_z-of_z at c.push_i64.ensures.exact in
    let right = simp to_z-of_z at c.push_i64-in-Some.ensures.exact in
    let top = simp to_z-of_z at c.push_i64-in-Some-2.ensures.exact in
    let left = simp to_z-of_z at c.push_i64-in-Some-3.ensures.exact in
    rw (
      left,
      c.push-in-Some-2.ensures.exact,
      top,
      c.push-in-Some.ensures.exact,
      right,
      c.push.ensures.exact,
      bottom,
      c.in-Some.is,
    ) (box_before ink c.args.line.now)

pub returns-in-None-clause-text : goal.returns-in-None-clause-text
returns-in-None-clause-text c = rw (c.push_bytes.ensures.exact, c.in-None.is) refl
