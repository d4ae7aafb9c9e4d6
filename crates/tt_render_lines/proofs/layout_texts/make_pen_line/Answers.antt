use Rattle.std.proofs.Common.{refl}
use Rattle.tt_render_lines.proofs.layout_texts.make_pen_line.Goals as goal

pub returns : goal.returns
returns c = rw (
  c.push_name.ensures.text,
  c.push_u16.ensures.exact,
  c.push-3.ensures.exact,
  c.push_u32-2.ensures.exact,
  c.push-2.ensures.exact,
  c.push_u32.ensures.exact,
  c.push.ensures.exact,
  c.clear.ensures.exact,
) refl
