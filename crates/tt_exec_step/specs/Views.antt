-- No part of the standard: programs as contracts see them, without addresses.
use Rattle.std.specs.Prelude.{ℕ}
use Rattle.tt_exec_step.specs.declared.program.Code as code
use Rattle.tt_exec_step.specs.declared.program.Body as body
use Rattle.tt_exec_step.specs.declared.program.CallFrame as frame
use Rattle.tt_exec_step.specs.MachineState.{Code, Body, CallFrame}

abbrev pub code_of : code.Code → Code
code_of c = record { table = c.table; base = c.base; bytes = c.bytes.now }

abbrev pub body_of : body.Body → Body
body_of b = record { code = code_of b.code; start = b.start }

abbrev pub entry_of : ℕ × body.Body → ℕ × Body
entry_of e = (e.0, body_of e.1)

abbrev pub frame_of : frame.CallFrame → CallFrame
frame_of f = record { code = code_of f.code; place = f.place; start = f.start; left = f.left }
