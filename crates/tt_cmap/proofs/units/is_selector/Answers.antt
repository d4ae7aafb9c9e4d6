use Rattle.std.proofs.Common.{◌≡◌, false, ◌<◌, arith, refl}
use Rattle.std.specs.Prelude.{nat_le}
use Rattle.std.proofs.lemmas.Bool.Decides.{nat_tests}
use Rattle.tt_cmap.proofs.units.is_selector.Goals as goal

pub returns-then-c-lt65024 : goal.returns-then-c-lt65024
returns-then-c-lt65024 c =
    let low : c.args.c < 65024 = c.if-c-lt65024.true in
    let first : nat_le 65024 c.args.c ≡ false = grind (arith, nat_tests, low) in
    let second : nat_le 917760 c.args.c ≡ false = grind (arith, nat_tests, low) in
    rw (first, second) refl
