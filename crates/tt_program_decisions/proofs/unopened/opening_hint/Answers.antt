use Rattle.std.proofs.Common.{arith}
use Rattle.tt_program_decisions.proofs.unopened.opening_hint.Goals as goal

pub returns-in_default : goal.returns-in_default
returns-in_default c = grind (
  arith,
  c.in_default.not-NotFound,
  c.in_default.not-PermissionDenied,
  c.in_default.not-NotADirectory,
  c.in_default.not-FilesystemLoop,
  c.in_default.not-InvalidFilename,
)
