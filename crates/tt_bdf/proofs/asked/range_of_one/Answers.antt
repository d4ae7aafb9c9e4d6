use Rattle.std.proofs.Common.{◌≡◌, true, ◌≤◌, inl, inr, rules, arith}
use Rattle.std.proofs.Math.Utf8.{scalar, scalar_cases}
use Rattle.tt_bdf.specs.Ranges.{last_code}
use Rattle.tt_bdf.proofs.asked.range_of_one.Goals as goal

pub returns-clause-codes : goal.returns-clause-codes
returns-clause-codes c =
    let is : scalar c.args.c ≡ true = search rules in
    let low : c.args.c ≤ last_code = elim (scalar_cases c.args.c is) [
      | inl below ↦ omega (arith, below)
      | inr above ↦ omega (arith, above.1)
    ] in
    record { order = omega arith; codes = low }
