use Rattle.std.proofs.Common.{◌≡◌, ◌≤◌, pos, ◌-ℤ◌, ◌*ℤ◌, SFits, w32, unsigned_abs, rules, arith}
use Rattle.std.proofs.lemmas.Int.{ints, to_z-of_z, to_z_pos, fits_signed_mul}
use Rattle.tt_state.proofs.Eighths.{eighths_low, eighths_high}
use Rattle.tt_state.proofs.sround.eighths.Goals as goal

pub returns-clause-exact : goal.returns-clause-exact
returns-clause-exact c =
    let is_n : c.from.result ≡ pos c.args.n = search rules in
    let is_fine = to_z_pos w32 c.args.fine.length (omega (arith, c.args.fine.high)) in
    let small : SFits w32 (pos c.args.n) = omega (arith, ints) in
    let few : unsigned_abs (pos c.args.n -ℤ pos 4) ≤ 16 = omega (arith, ints) in
    let difference : SFits w32 (pos c.args.n -ℤ pos 4) = omega (arith, ints) in
    let product : SFits w32 (pos c.args.fine.length *ℤ (pos c.args.n -ℤ pos 4)) =
    fits_signed_mul w32 (pos c.args.fine.length) (pos c.args.n -ℤ pos 4) 32768 16 c.args.fine.high few (omega arith) in
    simp (is_n, is_fine, to_z-of_z)

pub returns-clause-low : goal.returns-clause-low
returns-clause-low c = rw (returns-clause-exact c) (eighths_low c.args.fine.length c.args.n)

pub returns-clause-high : goal.returns-clause-high
returns-clause-high c = rw (returns-clause-exact c) (eighths_high c.args.fine.length c.args.n c.requires)
