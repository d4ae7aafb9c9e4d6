use Rattle.std.proofs.Common.{◌∙◌, ◌+◌, ◌<◌, ◌^◌, length, arith, rules}
use Rattle.std.proofs.lemmas.List.{length-set}
use Rattle.tt_advances.specs.Views.{Finder}
use Rattle.tt_advances.proofs.Known.{one_known}
use Rattle.tt_advances.proofs.found.FoundAdvances.units.Goals as goal

-- the new advance is kept
pub invariant_of-self : goal.invariant_of-self
invariant_of-self c =
    let held = c.self.inside in
    let was = c.self.invariant in
    let f : Finder = record { face = held.face.now; tables = held.glyf } in
    let small : c.in_ok-units.units < 2 ^ 16 = search rules in
    let asked = rw (← c.self.view_is) at c.requires in
    let below : c.args.glyph < length held.known.items = omega (arith, asked, was.0, was.1) in
    rw (c.from-place.ensures, c.from.ensures) (
      was.0,
      length-set held.known.items c.args.glyph (c.in_ok-units.units + 1) ∙ was.1,
      one_known f held.known.items c.args.glyph c.in_ok-units.units was.2 small c.in_ok-units.ensures.exact below,
    )
