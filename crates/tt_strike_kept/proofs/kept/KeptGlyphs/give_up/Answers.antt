use Rattle.std.proofs.Common.{◌≡◌, ◌∙◌, sym, nat_eq, Some, None, arith}
use Rattle.std.specs.Map.{lookup}
use Rattle.tt_strike_kept.proofs.Fitting.{bytes_without_found, bytes_without_none, none_found}
use Rattle.tt_strike_kept.proofs.kept.KeptGlyphs.give_up.Goals as goal

pub taken_off-self-inside-requires : goal.taken_off-self-inside-requires
taken_off-self-inside-requires c =
    let was = c.self.inside.glyphs.entries in
    let found : lookup (nat_eq c.args.number) was ≡ Some c.in-Some.glyph = sym c.pop.ensures.value ∙ c.in-Some.is in
    omega (arith, bytes_without_found (nat_eq c.args.number) was c.in-Some.glyph found, c.self.invariant.0)

pub invariant_of-self : goal.invariant_of-self
invariant_of-self c =
    let was = c.self.inside.glyphs.entries in
    let found : lookup (nat_eq c.args.number) was ≡ Some c.in-Some.glyph = sym c.pop.ensures.value ∙ c.in-Some.is in
    let bytes = bytes_without_found (nat_eq c.args.number) was c.in-Some.glyph found in
    let held = c.self.invariant in
    rw c.pop.ensures.entries (
      omega (arith, bytes, held.0, c.taken_off-self-inside.ensures),
      omega (arith, held.1, c.taken_off-self-inside.ensures),
      held.2,
    )

pub invariant_of-self-in_default : goal.invariant_of-self-in_default
invariant_of-self-in_default c =
    let was = c.self.inside.glyphs.entries in
    let none : lookup (nat_eq c.args.number) was ≡ None = sym c.pop.ensures.value ∙ c.in_default.is in
    let held = c.self.invariant in
    rw c.pop.ensures.entries (held.0 ∙ sym (bytes_without_none (nat_eq c.args.number) was none), held.1, held.2)

pub returns-in-Some-clause-none : goal.returns-in-Some-clause-none
returns-in-Some-clause-none c =
    rw c.pop.ensures.entries (none_found c.args.number c.self.inside.glyphs.entries c.len-count.ensures.valid.0)

pub returns-in_default-clause-none : goal.returns-in_default-clause-none
returns-in_default-clause-none c =
    rw c.pop.ensures.entries (none_found c.args.number c.self.inside.glyphs.entries c.len-count.ensures.valid.0)
