use Rattle.std.proofs.Common.{refl}
use Rattle.tt_exec.proofs.machine.Machine.new.Goals as goal

pub returns : goal.returns
returns c =
    rw (
      c.in_ok-new.ensures,
      c.idle.ensures,
      c.new-2.ensures,
      c.new-3.ensures,
      c.new-4.ensures.ppem,
      c.new-4.ensures.scale,
    ) refl
