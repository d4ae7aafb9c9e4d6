use Rattle.std.proofs.Common.{SFits, w64, refl, rules}
use Rattle.std.proofs.lemmas.Int.{to_z-of_z}
use Rattle.tt_render_lines.proofs.measure_text.make_picture_line.Goals as goal

pub returns : goal.returns
returns c =
    let baseline : SFits w64 c.args.measure.now.baseline = search rules in
    let rows = simp to_z-of_z at c.push_i64.ensures.exact in
    rw (
      c.push_bytes-3.ensures.exact,
      c.push_u32-2.ensures.exact,
      c.push-2.ensures.exact,
      c.push_u32.ensures.exact,
      c.push_bytes-2.ensures.exact,
      rows,
      c.push_bytes.ensures.exact,
      c.push_box.ensures.text,
      c.push.ensures.exact,
      c.clear.ensures.exact,
    ) refl
