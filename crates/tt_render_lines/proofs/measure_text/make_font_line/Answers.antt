use Rattle.std.proofs.Common.{SFits, w16, w64, refl, rules}
use Rattle.std.proofs.lemmas.Int.{to_z-of_z}
use Rattle.tt_render_lines.proofs.measure_text.make_font_line.Goals as goal

pub returns : goal.returns
returns c =
    let of_gap : SFits w16 c.line_gap.result = search rules in
    let of_descent : SFits w16 c.descent.result = search rules in
    let of_ascent : SFits w16 c.ascent.result = search rules in
    let long_gap : SFits w64 c.from.result = search rules in
    let long_descent : SFits w64 c.from-2.result = search rules in
    let long_ascent : SFits w64 c.from-3.result = search rules in
    let gap = simp to_z-of_z at c.from.ensures in
    let descent = simp to_z-of_z at c.from-2.ensures in
    let ascent = simp to_z-of_z at c.from-3.ensures in
    let first = simp to_z-of_z at c.push_i64.ensures.exact in
    let second = simp to_z-of_z at c.push_i64-2.ensures.exact in
    let third = simp to_z-of_z at c.push_i64-3.ensures.exact in
    rw (
      c.push_bytes.ensures.exact,
      c.push_u16-2.ensures.exact,
      c.push-5.ensures.exact,
      third,
      c.push-4.ensures.exact,
      second,
      c.push-3.ensures.exact,
      c.push_u16.ensures.exact,
      c.push-2.ensures.exact,
      first,
      c.push.ensures.exact,
      c.clear.ensures.exact,
      c.units_per_em.ensures.exact,
      ascent,
      c.ascent.ensures,
      descent,
      c.descent.ensures,
      c.glyphs.ensures.exact,
      gap,
      c.line_gap.ensures,
    ) refl
