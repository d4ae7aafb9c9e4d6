use Rattle.std.proofs.Common.{refl}
use Rattle.tt_exec.proofs.laws.runs_begin_again.Goals as goal

pub returns : goal.returns
returns c = λ parts new again is_new is_again code. rw (is_new, is_again) refl
