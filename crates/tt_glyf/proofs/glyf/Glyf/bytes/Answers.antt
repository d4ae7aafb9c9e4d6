use Rattle.std.proofs.Common.{◌≡◌, ◌+◌, ◌||◌, false, length, sym, refl, rules}
use Rattle.std.specs.Prelude.{◌==◌, nat_lt}
use Rattle.tt_glyf.specs.Loca.{entry_at, glyph_bytes_of}
use Rattle.tt_glyf.proofs.glyf.Glyf.bytes.Goals as goal

pub returns-clause-exact : goal.returns-clause-exact
unfolding glyph_bytes_of
returns-clause-exact c =
    let loca = c.self.inside.loca in
    let start = c.offset-start.result in
    let next = c.offset-next.result in
    let first : entry_at loca.format loca.loca c.args.g ≡ start = rw c.from.ensures at (sym c.offset-start.ensures) in
    let second : entry_at loca.format loca.loca (c.args.g + 1) ≡ next =
    rw c.from-2.ensures at (sym c.offset-next.ensures) in
    let apart : (start == next) ≡ false = search rules in
    let within : (nat_lt next start || nat_lt (length c.self.inside.glyf.now) start) ≡ false = search rules in
    rw (← c.self.view_is, first, second, apart, within, c.min.ensures) refl
