-- Lists of bytes written one after the other.
use Rattle.std.proofs.Common.{◌≡◌, ℕ, ◌+◌, ◌*◌, ◌^◌, ◌<◌, ◌≤◌, zero, suc, List, [], ◌∷◌, ◌++◌, length, take, drop, Option, Some, None, ap, append_assoc, append-nil, length-drop, refl, sym, arith}
use Rattle.std.proofs.Math.Seq.{take-append-add}
use Rattle.std.proofs.lemmas.List.{length-take-le, take-append-drop}
use Rattle.std.proofs.lemmas.Nat.{mul-le}
use Rattle.std.specs.Io.KnownBytes.{Appends}
use Rattle.tt_core.specs.Bits.{stride}
use Rattle.tt_core.specs.Limits.{width_limit, height_limit}

-- all of the first, and then n bytes of the second
pub appends_both : (a b c : Option (List ℕ)) (first second : List ℕ) (sent : ℕ) → Appends a b first
    → Appends b c (take sent second) → Appends a c (take (length first + sent) (first ++ second))
appends_both None b c first second sent one two = tt
appends_both (Some xs) None c first second sent one two = absurd one
appends_both (Some xs) (Some ys) None first second sent one two = absurd two
appends_both (Some xs) (Some ys) (Some zs) first second sent one two = rw (two, one, take-append-add first second sent)
    (append_assoc xs first (take sent second))

-- all of both
pub appends_more : (a b c : Option (List ℕ)) (first second both : List ℕ) → Appends a b first → Appends b c second
    → first ++ second ≡ both → Appends a c both
appends_more None b c first second both one two is = tt
appends_more (Some xs) None c first second both one two is = absurd one
appends_more (Some xs) (Some ys) None first second both one two is = absurd two
appends_more (Some xs) (Some ys) (Some zs) first second both one two is = rw (two, one, ← is)
    (append_assoc xs first second)

-- nothing
pub appends_none : (a : Option (List ℕ)) (bytes : List ℕ) (n : ℕ) → n ≡ 0 → Appends a a (take n bytes)
appends_none None bytes n none = tt
appends_none (Some xs) bytes n none = rw none (sym (append-nil xs))

-- a row ends within the rows
pub row_ends : (w h r : ℕ) → r < h → stride w * r + stride w ≤ stride w * h
row_ends w h r below =
    let least : stride w * (r + 1) ≤ stride w * h = mul-le (stride w) (r + 1) (stride w) h (omega arith) (omega arith)
    in
    omega (arith, least)

-- the length of a row among the rows
pub row_len : (n at : ℕ) (bytes : List ℕ) → at + n ≤ length bytes → length (take n (drop at bytes)) ≡ n
row_len n at bytes within = length-take-le n (drop at bytes) (omega (arith, length-drop at bytes, within))

-- the first bytes, and then n of those after them
pub next_part : (m n : ℕ) (bytes : List ℕ) → m ≤ length bytes → take m bytes ++ take n (drop m bytes) ≡ take (m + n) bytes
next_part m n bytes within =
    let many : length (take m bytes) ≡ m = length-take-le m bytes within in
    let whole : take m bytes ++ drop m bytes ≡ bytes = take-append-drop m bytes in
    sym (rw (many, whole) at (take-append-add (take m bytes) (drop m bytes) n))

-- fewer of the first bytes
take_fewer : (n m : ℕ) (bytes : List ℕ) → n ≤ m → take n (take m bytes) ≡ take n bytes
take_fewer zero m bytes within = refl
take_fewer (suc n) zero bytes within = absurd (omega (arith, within))
take_fewer (suc n) (suc m) [] within = refl
take_fewer (suc n) (suc m) (b ∷ bytes) within = ap (λ bs. b ∷ bs) (take_fewer n m bytes (omega (arith, within)))

pub part_of_next : (m n sent : ℕ) (bytes : List ℕ) → m ≤ length bytes → sent ≤ n
    → take m bytes ++ take sent (take n (drop m bytes)) ≡ take (m + sent) bytes
part_of_next m n sent bytes within few = rw (take_fewer sent n (drop m bytes) few) (next_part m sent bytes within)

-- the rows of a lawful picture have few bytes
pub few_bytes : (w h : ℕ) → w ≤ width_limit → h ≤ height_limit → stride w * h ≤ 2 ^ 23
few_bytes w h wide high = mul-le (stride w) h 2048 height_limit (omega arith) high
