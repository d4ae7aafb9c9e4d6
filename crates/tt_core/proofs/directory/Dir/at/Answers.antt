use Rattle.std.proofs.Common.{◌≡◌, ◌+◌, ◌≤◌, ◌∙◌, false, length, inr, sym, refl, rules, arith}
use Rattle.std.specs.Prelude.{nat_lt}
use Rattle.tt_core.specs.Directory.{read_directory, is_version}
use Rattle.tt_core.specs.Numbers.{unsigned_at}
use Rattle.tt_core.proofs.Numbers.{number_told}
use Rattle.tt_core.proofs.directory.Dir.at.Goals as goal

other : (c : goal.After-new) → is_version (unsigned_at c.args.file.now c.args.at 4) ≡ false
other c =
    let version = number_told c.args.file.now c.args.at 4 c.unwrap-version.result
    (sym c.u32_at.ensures ∙ c.unwrap-version.ensures) in
    rw version (search rules)

pub returns-then-version-ne1953658213-clause-exact : goal.returns-then-version-ne1953658213-clause-exact
unfolding read_directory
returns-then-version-ne1953658213-clause-exact c =
    let long : nat_lt (length c.args.file.now) (c.args.at + 12) ≡ false = search rules in
    rw (long, other c, c.new.ensures) refl

pub returns-then-version-ne1953658213-clause-fault : goal.returns-then-version-ne1953658213-clause-fault
returns-then-version-ne1953658213-clause-fault c =
    let four : c.args.at + 4 ≤ length c.args.file.now = omega arith in
    inr (four, other c, c.new.ensures)
