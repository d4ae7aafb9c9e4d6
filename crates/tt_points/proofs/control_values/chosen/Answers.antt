use Rattle.std.proofs.Common.{◌≡◌, true, refl, sym}
use denote.Enum.Bare.{sameb}
use Rattle.tt_state.specs.contracts.graphics_state.Zone.{the_type}
use Rattle.tt_state.specs.declared.graphics_state.Zone.{Zone}
use Rattle.tt_state.specs.declared.graphics_state.Zone.TheVariants as zone
use Rattle.tt_points.specs.ControlValues.{is_same}
use Rattle.tt_points.proofs.control_values.chosen.Goals as goal

-- the meaning of the code's ==
one_zone : (a b : Zone) → true ≡ sameb the_type a b → is_same a b ≡ true
one_zone zone.Twilight zone.Twilight same = refl
one_zone zone.Glyph zone.Glyph same = refl
one_zone zone.Twilight zone.Glyph same = sym same
one_zone zone.Glyph zone.Twilight same = sym same

pub returns-then-eq : goal.returns-then-eq
returns-then-eq c =
    let same = one_zone c.args.state.now.zp0 c.args.state.now.zp1 c.if-eq.ensures in
    rw (c.if-keeping.true, same, ← c.flipped-c.ensures) c.cut_in.ensures
