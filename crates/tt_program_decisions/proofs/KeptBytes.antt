-- The effect of a write on known bytes that earlier calls have not changed.
use Rattle.std.proofs.Common.{ℕ, List, Option, Some, None}
use Rattle.std.specs.Io.KnownBytes.{Keeps, Appends}

pub kept_appends : (a b c : Option (List ℕ)) (bs : List ℕ) → Keeps a b → Appends b c bs → Appends a c bs
kept_appends None b c bs kept more = tt
kept_appends (Some xs) None c bs kept more = absurd kept
kept_appends (Some xs) (Some ys) None bs kept more = more
kept_appends (Some xs) (Some ys) (Some zs) bs kept more = cc
