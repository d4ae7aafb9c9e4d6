use Rattle.std.proofs.Common.{◌≡◌, ◌+◌, ◌*◌, ◌∙◌, false, length, refl, sym, rules}
use Rattle.std.specs.Prelude.{nat_lt}
use Rattle.tt_core.proofs.Numbers.{number_told}
use Rattle.tt_core.proofs.directory.Dir.named.Goals as goal

pub returns-clause-exact : goal.returns-clause-exact
returns-clause-exact c =
    let file = c.self.inside.file.now in
    let place = c.self.inside.at + 12 + 16 * c.in-Some.i in
    let offset = number_told file (place + 8) 4 c.unwrap-offset.result
    (sym c.u32_at.ensures ∙ c.unwrap-offset.ensures) in
    let size = number_told file (place + 12) 4 c.unwrap-length.result
    (sym c.u32_at-2.ensures ∙ c.unwrap-length.ensures) in
    let fits : nat_lt (length file) (c.unwrap-offset.result + c.unwrap-length.result) ≡ false = search rules in
    rw (← c.self.view_is, c.in-Some.is, offset, size, fits) refl
