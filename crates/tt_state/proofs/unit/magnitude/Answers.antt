use Rattle.std.proofs.Common.{◌≡◌, ℕ, ◌+◌, ◌*◌, ◌/◌, ◌%◌, ◌^◌, ◌<◌, ◌≤◌, ap, ◌∙◌, arith}
use Rattle.tt_state.proofs.Roots.{root_is, one_root, at_most, two_divisions}
use Rattle.tt_state.proofs.Units.{quotient_few}
use Rattle.tt_state.proofs.unit.magnitude.Goals as goal

-- the two divisions
quotient_is : (s l : ℕ) → 0 < l → 16384 * s / l * 16384 + 16384 * s % l * 16384 / l ≡ 2 ^ 28 * s / l
quotient_is s l some = two_divisions (16384 * s) l some ∙ ap (λ n. n / l) (omega arith)

pub returns-clause-exact : goal.returns-clause-exact
returns-clause-exact c =
    let is = quotient_is c.args.s c.args.l c.requires.some in
    let low = rw is at c.isqrt.ensures.square_le in
    let high = rw is at c.isqrt.ensures.next_square_gt in
    let most = quotient_few c.args.s c.args.l c.requires.some c.requires.within in
    let few : 2 ^ 28 * c.args.s / c.args.l < 4 ^ 15 = omega (arith, most) in
    one_root c.isqrt.result _ (2 ^ 28 * c.args.s / c.args.l) low high (root_is 15 (2 ^ 28 * c.args.s / c.args.l) few)

pub returns-clause-bound : goal.returns-clause-bound
returns-clause-bound c =
    let is = quotient_is c.args.s c.args.l c.requires.some in
    let low = rw is at c.isqrt.ensures.square_le in
    let most = quotient_few c.args.s c.args.l c.requires.some c.requires.within in
    at_most 16384 c.isqrt.result (2 ^ 28 * c.args.s / c.args.l) low (omega (arith, most))
