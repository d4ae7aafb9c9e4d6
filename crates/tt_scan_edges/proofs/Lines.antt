-- Places past a line and before the next.
use Rattle.std.proofs.Common.{◌≡◌, ◌∙◌, refl, ◌^◌, ◌≤◌, Bool, true, false, not, ◌&&◌, ℤ, pos, ◌+ℤ◌, ◌-ℤ◌, ◌*ℤ◌, ◌<ℤ◌, ◌≤ℤ◌, int_lt, unsigned_abs, arith}
use Rattle.std.specs.Int.{int_rem_euclid}
use Rattle.std.specs.Ordering.{int_eq}
use Rattle.std.proofs.lemmas.Int.{ints, by_lt_z}
use Rattle.tt_scan_edges.specs.Joined.{lies_on_line, line_at, line_below, meets_none}
use Rattle.tt_scan_edges.proofs.Joins.{parts, rest_high, rest_low}

and_false : (a : Bool) → (a && false) ≡ false
and_false true = refl
and_false false = refl

swapped : (a b c : Bool) → (a && (b && c)) ≡ (b && (a && c))
swapped true b c = refl
swapped false true c = refl
swapped false false c = refl

-- a place r past line c, by line q
abbrev after : ℤ → ℤ → Bool
after q v = int_lt (line_at q) v && int_lt v (line_at q +ℤ pos 8192)

later : (v q c r : ℤ) → v ≡ (pos 8192 *ℤ c +ℤ pos 4096) +ℤ r → pos 0 ≤ℤ r → q <ℤ c
    → after q v ≡ (int_eq q c && not (int_eq r (pos 0)))
later v q c r is low less =
    let past : int_lt v (line_at q +ℤ pos 8192) ≡ false = grind (arith, ints) in
    let other : int_eq q c ≡ false = grind (arith, ints) in
    rw (past, other) (and_false (int_lt (line_at q) v))

earlier : (v q c r : ℤ) → v ≡ (pos 8192 *ℤ c +ℤ pos 4096) +ℤ r → r <ℤ pos 8192 → c <ℤ q
    → after q v ≡ (int_eq q c && not (int_eq r (pos 0)))
earlier v q c r is high less =
    let before : int_lt (line_at q) v ≡ false = grind (arith, ints) in
    let other : int_eq q c ≡ false = grind (arith, ints) in
    rw (before, other) refl

on_or_past : (v q c r : ℤ) → v ≡ (pos 8192 *ℤ c +ℤ pos 4096) +ℤ r → pos 0 ≤ℤ r → r <ℤ pos 8192 → q ≡ c
    → after q v ≡ (int_eq q c && not (int_eq r (pos 0)))
on_or_past v q c r is low high same =
    let within : int_lt v (line_at q +ℤ pos 8192) ≡ true = grind (arith, ints) in
    let equal : int_eq q c ≡ true = grind (arith, ints) in
    by_lt_z (pos 0) r
    (λ some.
    let past : int_lt (line_at q) v ≡ true = grind (arith, ints) in
    let rest : int_eq r (pos 0) ≡ false = grind (arith, ints) in
    rw (within, equal, past, rest) refl)
    (λ none.
    let on : int_lt (line_at q) v ≡ false = grind (arith, ints) in
    let rest : int_eq r (pos 0) ≡ true = grind (arith, ints) in
    rw (within, equal, on, rest) refl)

after_is : (v q : ℤ) → after q v ≡ (int_eq q (line_below v) && not (lies_on_line v))
after_is v q =
    let whole = parts (v -ℤ pos 4096) in
    let c = line_below v in
    let r = int_rem_euclid (v -ℤ pos 4096) (pos 8192) in
    let is : v ≡ (pos 8192 *ℤ line_below v +ℤ pos 4096) +ℤ int_rem_euclid (v -ℤ pos 4096) (pos 8192) = omega (arith, ints, whole) in
    let low = rest_low (v -ℤ pos 4096) in
    let high = rest_high (v -ℤ pos 4096) in
    by_lt_z q c (λ less. later v q c r is low less)
    (λ more. by_lt_z c q (λ less. earlier v q c r is high less)
    (λ same. on_or_past v q c r is low high (omega (arith, ints, more, same))))

pub meets_none_is : (a b : ℤ) → (after (line_below a) a && after (line_below a) b) ≡ meets_none a b
meets_none_is a b =
    let own : int_eq (line_below a) (line_below a) ≡ true = grind (arith, ints) in
    let first : after (line_below a) a ≡ not (lies_on_line a) = after_is a (line_below a) ∙ rw own refl in
    rw (first, after_is b (line_below a))
    (swapped (not (lies_on_line a)) (int_eq (line_below a) (line_below b)) (not (lies_on_line b)))

-- a test by the line below a place, and by a far line where the place is on a line
within : (v : ℤ) → v <ℤ (line_at (line_below v) +ℤ pos 8192)
within v =
    let whole = parts (v -ℤ pos 4096) in
    let high = rest_high (v -ℤ pos 4096) in
    omega (arith, ints, whole, high)

pub open_tells : (v b : ℤ) → int_lt (line_at (line_below v)) v ≡ true → after (line_below v) b ≡ meets_none v b
open_tells v b past =
    let close = within v in
    let before : int_lt v (line_at (line_below v) +ℤ pos 8192) ≡ true = grind (arith, ints) in
    let is : (true && after (line_below v) b) ≡ meets_none v b = rw (past, before) at (meets_none_is v b) in is

pub far_tells : (v b : ℤ) → int_lt (line_at (line_below v)) v ≡ false → unsigned_abs b ≤ 2 ^ 31
    → (int_lt (pos 1099511627776) b && int_lt b (pos 1099511627776 +ℤ pos 8192)) ≡ meets_none v b
far_tells v b on few =
    let far : int_lt (pos 1099511627776) b ≡ false = grind (arith, ints) in
    let none : (false && after (line_below v) b) ≡ meets_none v b = rw on at (meets_none_is v b) in
    rw far none
