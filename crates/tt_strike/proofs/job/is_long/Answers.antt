use Rattle.std.proofs.Common.{◌≡◌, ◌≤◌, length, chars, nat_lt, ℕ, List, refl, arith}
use Rattle.std.proofs.lemmas.Iterator.{YieldsList-from_chars}
use Rattle.std.proofs.lemmas.Iterator.Consumers.{count_from_yields_List}
use Rattle.std.proofs.lemmas.Str.{chars-encodes, length-le-encodes}
use Rattle.std.specs.Str.{IsUtf8}
use Rattle.tt_strike.proofs.job.is_long.Goals as goal

pub returns-then-text-gt-TEXT_LIMIT : goal.returns-then-text-gt-TEXT_LIMIT
returns-then-text-gt-TEXT_LIMIT c =
    let all : c.count.result ≡ length (chars c.args.text.now) = count_from_yields_List c.chars.result c.count.result
    c.count.ensures.ran (YieldsList-from_chars c.args.text.now c.utf8.text c.chars.ensures.rest) in
    rw all refl

-- a text has no more characters than bytes
few : (bytes : List ℕ) → IsUtf8 bytes → length (chars bytes) ≤ length bytes
few bytes valid =
    let same : chars bytes ≡ valid.0 = rw (← valid.1.1) (chars-encodes valid.0 valid.1.0) in
    rw (same, ← valid.1.1) (length-le-encodes valid.0)

short : (n m : ℕ) → n ≤ m → m ≤ 4096 → nat_lt 4096 m ≡ nat_lt 4096 n
short n m less is = grind (arith)

pub returns-else-text-gt-TEXT_LIMIT : goal.returns-else-text-gt-TEXT_LIMIT
returns-else-text-gt-TEXT_LIMIT c = short _ _ (few c.args.text.now c.utf8.text) c.if-text-gt-TEXT_LIMIT.false
