-- The result of a call, beside values that it leaves unchanged.
use Rattle.std.proofs.Common.{Result, Ok, Err, refl}
use Rattle.tt_core.specs.Outcomes.{◌>>=◌}
use Rattle.tt_exec_stack.specs.Stack.{Does}

pub beside : {S T E : Type 0} (given : Result S E) (all : S → T) (new : S) (result : Result (Unit {0}) E)
    → Does given new result → Does (given >>= λ t. Ok (all t)) (all new) result
beside given all new (Ok u) does = rw does refl
beside given all new (Err e) does = rw does refl
