-- The contents of a writer after two writes.
use Rattle.std.proofs.Common.{◌≡◌, ℕ, ◌+◌, ◌-◌, ◌≤◌, List, length, take, drop, Option, Some, None, arith, append_assoc}
use Rattle.std.proofs.Math.Seq.{take-add}
use Rattle.std.proofs.lemmas.Grind.{common_steps}
use Rattle.std.specs.Io.KnownBytes.{Appends}

piece_of_rest : (bytes : List ℕ) (sent n : ℕ) → sent + n ≤ length bytes
    → take n (take (length bytes - sent) (drop sent bytes)) ≡ take n (drop sent bytes)
piece_of_rest bytes sent n within = grind (arith, common_steps)

pub appends_more : (a b c : Option (List ℕ)) (bytes : List ℕ) (sent n : ℕ) → sent + n ≤ length bytes
    → Appends a b (take sent bytes) → Appends b c (take n (take (length bytes - sent) (drop sent bytes)))
    → Appends a c (take (sent + n) bytes)
appends_more None b c bytes sent n within first next = tt
appends_more (Some xs) None c bytes sent n within first next = absurd first
appends_more (Some xs) (Some ys) None bytes sent n within first next = absurd next
appends_more (Some xs) (Some ys) (Some zs) bytes sent n within first next =
    rw (next, first, piece_of_rest bytes sent n within, take-add sent n bytes)
    (append_assoc xs (take sent bytes) (take n (drop sent bytes)))
