-- What a call that writes leaves.
use Rattle.std.specs.Prelude.{◌≡◌, ℕ, ◌<◌, Bool, List, length, take, Option, Result, is_err, IfErr, OnOk}
use Rattle.std.specs.Io.KnownBytes.{Appends}
use Rattle.tt_pbm.specs.declared.writing.Cut.{Cut}

-- all of these bytes were written; or a write failed, and a front of them was. The bytes of the sink before and after
-- the call are None where no contract knows them
pub record Writes (result : Result (Unit {0}) Cut) (before after : Option (List ℕ)) (failed : Bool) (bytes : List ℕ)
    : Type 0 where
  pub all : OnOk result (Appends before after bytes)
  pub part : IfErr result (λ cut. Appends before after (take cut.sent bytes))
  pub within : IfErr result (λ cut. cut.sent < length bytes)
  pub failure : failed ≡ is_err result
