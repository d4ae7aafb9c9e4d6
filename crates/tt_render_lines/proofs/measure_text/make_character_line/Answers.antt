use Rattle.std.proofs.Common.{SFits, w64, refl, rules}
use Rattle.std.proofs.lemmas.Int.{to_z-of_z}
use Rattle.tt_render_lines.proofs.measure_text.make_character_line.Goals as goal

pub returns : goal.returns
returns c =
    let pen : SFits w64 c.args.place.now.pen = search rules in
    let column = simp to_z-of_z at c.push_i64.ensures.exact in
    rw (
      c.push_name.ensures.text,
      c.push_u16.ensures.exact,
      c.push-4.ensures.exact,
      column,
      c.push-3.ensures.exact,
      c.push_u32.ensures.exact,
      c.push-2.ensures.exact,
      c.push_box.ensures.text,
      c.push.ensures.exact,
      c.clear.ensures.exact,
    ) refl
