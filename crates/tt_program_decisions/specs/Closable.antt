-- No part of the standard: standard output, which remembers whether its reader had closed it (profile).
use Rattle.std.specs.Prelude.{Bool}
use Rattle.tt_program_decisions.specs.declared.closable.OutDevice.{OutDevice}

-- the wrapped writer
abbrev pub output_inner : {W : Type 0} → OutDevice W → W
output_inner o = o.inner

-- whether a write has failed
abbrev pub has_output_failed : {W : Type 0} → OutDevice W → Bool
has_output_failed o = o.failed

-- whether a write has failed since the reader had closed the output
abbrev pub is_output_closed : {W : Type 0} → OutDevice W → Bool
is_output_closed o = o.closed
