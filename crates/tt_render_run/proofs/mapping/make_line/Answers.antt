use Rattle.std.proofs.Common.{refl}
use Rattle.tt_render_run.proofs.mapping.make_line.Goals as goal

pub returns-in-None : goal.returns-in-None
returns-in-None c = rw (
  c.push_name.ensures.text,
  c.push_u16-2.ensures.exact,
  c.push-2.ensures.exact,
  c.push_u16.ensures.exact,
  c.push.ensures.exact,
  c.clear.ensures.exact,
  c.in-None.is,
) refl

pub returns-in-Some : goal.returns-in-Some
returns-in-Some c = rw (
  c.push_name-in-Some-2.ensures.text,
  c.push_name-in-Some.ensures.text,
  c.push_u16-2.ensures.exact,
  c.push-2.ensures.exact,
  c.push_u16.ensures.exact,
  c.push.ensures.exact,
  c.clear.ensures.exact,
  c.in-Some.is,
) refl
