-- Apple TrueType Reference Manual, "Instruction set": managing outlines (FLIPPT, FLIPRGON, FLIPRGOFF). They use the
-- glyph zone, whatever the zone pointers (profile).
use Rattle.std.specs.Prelude.{◌≡◌, ◌+◌, ℤ, pos, negsuc, unsigned_abs, Bool, true, false, not, List, [], ◌∷◌, Result, Ok, Err, refl}
use Rattle.tt_core.specs.Outcomes.{◌>>=◌}
use Rattle.tt_core.specs.declared.fault.Why.{Why}
use Rattle.tt_core.specs.declared.fault.Why.TheVariants as why
use Rattle.tt_core.specs.declared.halves.Halves.TheVariants as halves
use Rattle.tt_state.specs.GraphicsState.{default_state}
use Rattle.tt_state.specs.declared.graphics_state.GraphicsState.{GraphicsState}
use Rattle.tt_state.specs.declared.graphics_state.Zone.TheVariants as zone
use Rattle.tt_state.specs.declared.point.Point.{Point}
use Rattle.tt_state.specs.declared.tolerance.Tolerance.{Tolerance}
use Rattle.tt_state.specs.declared.tolerance.Tolerance.TheVariants as tolerance
use Rattle.tt_points_zones.specs.Points.{point_in, with_point, origin}
use Rattle.tt_points_zones.specs.Zones.{ZoneLists, in_pixels}
use Rattle.tt_points_loops.specs.Series.{each_from_to, looped}

abbrev pub flipped : Point → Point
flipped p = record p { on = not p.on }

abbrev pub flip : ℤ → ZoneLists → Result ZoneLists Why
flip n z = point_in zone.Glyph n z >>= λ p. Ok (with_point zone.Glyph n (flipped p) z)

-- FLIPPT: points flipped between on and off the curve
abbrev pub flippt : Tolerance → List ℤ → ZoneLists → GraphicsState → Result (ZoneLists × GraphicsState) Why
flippt t points z g = looped t flip points z g

abbrev pub put_on : Bool → Point → Point
put_on on p = record p { on = on }

-- FLIPRGON and FLIPRGOFF: the points of a range put on the curve or off it; both ends have to exist, in either order
abbrev pub flip_range : Bool → ℤ → ℤ → ZoneLists → Result ZoneLists Why
flip_range on low high z =
    point_in zone.Glyph high z >>= λ last. point_in zone.Glyph low z >>= λ first.
    each_from_to (unsigned_abs low) (unsigned_abs high + 1) (λ i p. Ok (put_on on p)) 0 z.glyph >>= λ ps.
    Ok (record z { glyph = ps })

-- worked values
abbrev point : Bool → Point
point on = record origin { on = on }

abbrev glyph : List Point → ZoneLists
glyph ps = record { twilight = []; glyph = ps; contours = []; originals = in_pixels halves.Up }

twice_the_same : flippt tolerance.Strict (pos 0 ∷ pos 1 ∷ pos 1 ∷ []) (glyph (point true ∷ point true ∷ []))
    (record default_state { loops = 3 }) ≡ Ok (glyph (point false ∷ point true ∷ []), default_state)
twice_the_same = refl

glyph_points_whatever_zp0 : flippt tolerance.Strict (pos 0 ∷ []) (glyph (point true ∷ []))
    (record default_state { zp0 = zone.Twilight })
    ≡ Ok (glyph (point false ∷ []), record default_state { zp0 = zone.Twilight })
glyph_points_whatever_zp0 = refl

a_point_refused : flippt tolerance.Strict (pos 0 ∷ pos 50 ∷ []) (glyph (point true ∷ []))
    (record default_state { loops = 2 }) ≡ Err why.PointRange
a_point_refused = refl

a_point_passed_over : flippt tolerance.Tolerant (pos 0 ∷ pos 50 ∷ []) (glyph (point true ∷ []))
    (record default_state { loops = 2 }) ≡ Ok (glyph (point false ∷ []), default_state)
a_point_passed_over = refl

both_ends : flip_range true (pos 1) (pos 2) (glyph (point false ∷ point false ∷ point false ∷ point false ∷ []))
    ≡ Ok (glyph (point false ∷ point true ∷ point true ∷ point false ∷ []))
both_ends = refl

none_between : flip_range false (pos 1) (pos 0) (glyph (point true ∷ point true ∷ []))
    ≡ Ok (glyph (point true ∷ point true ∷ []))
none_between = refl

no_end : flip_range true (negsuc 0) (pos 0) (glyph (point true ∷ [])) ≡ Err why.PointRange
no_end = refl
