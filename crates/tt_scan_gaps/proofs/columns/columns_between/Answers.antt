use Rattle.std.proofs.Common.{◌≡◌, refl, true, false, SFits, w32, w64, rules, arith}
use Rattle.std.specs.Prelude.{pos, ◌+ℤ◌, ◌*ℤ◌, int_le}
use Rattle.std.proofs.lemmas.Int.{ints, to_z-of_z}
use Rattle.tt_scan_gaps.specs.Crossings.{gap_at, line_from}
use Rattle.tt_scan_gaps.proofs.Boxes.{left_is_nearer, right_is_nearer}
use Rattle.tt_scan_gaps.proofs.columns.columns_between.Goals as goal

pub returns-then-first-from-clause-exact : goal.returns-then-first-from-clause-exact
returns-then-first-from-clause-exact c =
    let low : SFits w32 c.args.low = c.ranges.low in
    let high : SFits w32 c.args.high = c.ranges.high in
    let first : SFits w64 c.line_from-first.result = omega (arith, ints, c.line_from-first.ensures.small) in
    let last : SFits w64 c.gap_at-last.result = omega (arith, ints, c.gap_at-last.type_inv) in
    let twice : SFits w64 (pos 16384 *ℤ c.line_from-first.result) = omega (arith, ints, c.line_from-first.ensures.small) in
    let wide_low : SFits w64 c.from.result = search rules in
    let wide_high : SFits w64 c.from-else-first-last.result = search rules in
    let is_low : c.from.result ≡ c.args.low = simp to_z-of_z at c.from.ensures in
    let is_high : c.from-else-first-last.result ≡ c.args.high = simp to_z-of_z at c.from-else-first-last.ensures in
    let sum : SFits w64 (c.from.result +ℤ c.from-else-first-last.result) = rw (is_low, is_high) (omega (arith, ints, c.requires.low, c.requires.high)) in
    let at : c.line_from-first.result ≡ line_from c.args.low = simp to_z-of_z at c.line_from-first.ensures.exact in
    let to : c.gap_at-last.result ≡ gap_at c.args.high = simp to_z-of_z at c.gap_at-last.ensures.exact in
    let apart : int_le c.line_from-first.result c.gap_at-last.result ≡ false = simp to_z-of_z at c.if-first-last.false in
    let near : int_le (pos 16384 *ℤ c.line_from-first.result) (c.args.low +ℤ c.args.high) ≡ true = rw (is_low, is_high) at (simp to_z-of_z at c.if-first-from.true) in
    simp to_z-of_z (rw (at, right_is_nearer c.args.low c.args.high (rw (at, to) at apart) (rw at at near)) refl)

pub returns-else-first-from-clause-exact : goal.returns-else-first-from-clause-exact
returns-else-first-from-clause-exact c =
    let low : SFits w32 c.args.low = c.ranges.low in
    let high : SFits w32 c.args.high = c.ranges.high in
    let first : SFits w64 c.line_from-first.result = omega (arith, ints, c.line_from-first.ensures.small) in
    let last : SFits w64 c.gap_at-last.result = omega (arith, ints, c.gap_at-last.type_inv) in
    let twice : SFits w64 (pos 16384 *ℤ c.line_from-first.result) = omega (arith, ints, c.line_from-first.ensures.small) in
    let wide_low : SFits w64 c.from.result = search rules in
    let wide_high : SFits w64 c.from-else-first-last.result = search rules in
    let is_low : c.from.result ≡ c.args.low = simp to_z-of_z at c.from.ensures in
    let is_high : c.from-else-first-last.result ≡ c.args.high = simp to_z-of_z at c.from-else-first-last.ensures in
    let sum : SFits w64 (c.from.result +ℤ c.from-else-first-last.result) = rw (is_low, is_high) (omega (arith, ints, c.requires.low, c.requires.high)) in
    let at : c.line_from-first.result ≡ line_from c.args.low = simp to_z-of_z at c.line_from-first.ensures.exact in
    let to : c.gap_at-last.result ≡ gap_at c.args.high = simp to_z-of_z at c.gap_at-last.ensures.exact in
    let apart : int_le c.line_from-first.result c.gap_at-last.result ≡ false = simp to_z-of_z at c.if-first-last.false in
    let near : int_le (pos 16384 *ℤ c.line_from-first.result) (c.args.low +ℤ c.args.high) ≡ false = rw (is_low, is_high) at (simp to_z-of_z at c.if-first-from.false) in
    simp to_z-of_z (rw (to, left_is_nearer c.args.low c.args.high (rw (at, to) at apart) (rw at at near)) refl)
