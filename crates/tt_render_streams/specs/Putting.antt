-- What a call that puts a picture into its place leaves.
use Rattle.std.specs.Prelude.{◌≡◌, ℕ, ◌<◌, Bool, List, length, take, Option, Result, is_err, IfErr, OnOk}
use Rattle.std.specs.Io.KnownBytes.{Appends, Keeps}
use Rattle.tt_render_streams.specs.declared.pictures.NotPut.{NotPut}
use Rattle.tt_render_streams.specs.declared.pictures.NotPut.TheVariants as not_put

-- what stands there where a picture is not put: what stood there before, if its place was not made; else also what is
-- shown of a front of the picture
abbrev pub IsPart : (List ℕ → List ℕ) → Option (List ℕ) → Option (List ℕ) → List ℕ → NotPut → Type 0
IsPart shown before after bytes not_put.Uncreated = Keeps before after
IsPart shown before after bytes (not_put.Cut sent) =
    (sent < length bytes) × Appends before after (shown (take sent bytes))

-- the picture with these bytes is shown; or its place was not made, or a write failed. What stands there before and after
-- the call is None where no contract knows it
pub record Puts (shown : List ℕ → List ℕ) (result : Result (Unit {0}) NotPut) (before after : Option (List ℕ)) (failed : Bool) (bytes : List ℕ)
    : Type 0 where
  pub all : OnOk result (Appends before after (shown bytes))
  pub part : IfErr result (IsPart shown before after bytes)
  pub failure : failed ≡ is_err result
