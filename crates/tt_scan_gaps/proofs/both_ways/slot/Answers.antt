use Rattle.std.proofs.Common.{◌≡◌, ◌+◌, ◌*◌, ◌∙◌, ap₂, unsigned_abs, SFits, w64, pos, ℤ, ◌+ℤ◌, ◌*ℤ◌, arith}
use Rattle.std.specs.Int.{int_rem_euclid}
use Rattle.std.proofs.lemmas.Int.{ints, to_z-of_z}
use Rattle.tt_scan_gaps.proofs.Tables.{slot_is}
use Rattle.tt_scan_gaps.proofs.both_ways.slot.Goals as goal

pub returns-clause-exact : goal.returns-clause-exact
returns-clause-exact c =
    let a = c.left_of.result in
    let b = c.left_of-2.result in
    let first : SFits w64 a = omega (arith, ints, c.left_of.ensures.within) in
    let second : SFits w64 b = omega (arith, ints, c.left_of-2.ensures.within) in
    let whole : SFits w64 (pos 128 *ℤ a) = omega (arith, ints, c.left_of.ensures.within) in
    let all : SFits w64 (pos 128 *ℤ a +ℤ b) = omega (arith, ints, c.left_of.ensures.within, c.left_of-2.ensures.within) in
    let is = slot_is a b c.left_of.ensures.low c.left_of-2.ensures.low in
    let line_own : SFits w64 c.args.line = c.ranges.line in
    let gap_own : SFits w64 c.args.gap = c.ranges.gap in
    let line : a ≡ int_rem_euclid c.args.line (pos 128) = simp (to_z-of_z, line_own) at c.left_of.ensures.exact in
    let gap : b ≡ int_rem_euclid c.args.gap (pos 128) = simp (to_z-of_z, gap_own) at c.left_of-2.ensures.exact in
    simp (to_z-of_z, first, second, whole, all) (is ∙ ap₂ (λ (x y : ℤ). 128 * unsigned_abs x + unsigned_abs y) line gap)

pub returns-clause-within : goal.returns-clause-within
returns-clause-within c =
    let a = c.left_of.result in
    let b = c.left_of-2.result in
    let first : SFits w64 a = omega (arith, ints, c.left_of.ensures.within) in
    let second : SFits w64 b = omega (arith, ints, c.left_of-2.ensures.within) in
    let whole : SFits w64 (pos 128 *ℤ a) = omega (arith, ints, c.left_of.ensures.within) in
    let all : SFits w64 (pos 128 *ℤ a +ℤ b) = omega (arith, ints, c.left_of.ensures.within, c.left_of-2.ensures.within) in
    let is = slot_is a b c.left_of.ensures.low c.left_of-2.ensures.low in
    simp (to_z-of_z, first, second, whole, all) (omega (arith, ints, is, c.left_of.ensures.within, c.left_of-2.ensures.within))
