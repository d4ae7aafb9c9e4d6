use Rattle.std.proofs.Common.{refl}
use Rattle.tt_render_settings.proofs.help.label_lines.Goals as goal

-- the line for programs comes first
pub returns : goal.returns
returns c =
    rw (
      c.in_ok-push_str-2.ensures.bytes,
      c.in_ok-push_str.ensures.bytes,
      c.in_ok-text.ensures,
      c.deref.ensures,
      c.in_ok-help.ensures,
    ) refl
