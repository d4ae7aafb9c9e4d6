-- Apple TrueType Reference Manual, "Digitizing Letterform Designs" and "Instructing TrueType Glyphs": points from font
-- units to 26.6 pixels, and the phantom points.
use Rattle.std.specs.Prelude.{◌≡◌, ℕ, ◌+◌, Bool, true, ◌&&◌, nat_le, if◌then◌else◌, ℤ, pos, neg_ℤ, unsigned_abs, ◌+ℤ◌, ◌-ℤ◌, List, [], ◌∷◌, map, codes, None, Result, Ok, Err, refl}
use Rattle.tt_core.specs.Faults.{Fault}
use Rattle.tt_core.specs.declared.fault.Why.{Why}
use Rattle.tt_core.specs.declared.fault.Why.TheVariants as why
use Rattle.tt_core.specs.Faults.{fault_at}
use Rattle.tt_core.specs.Limits.{coordinate_limit}
use Rattle.tt_core.specs.Outcomes.{◌>>=◌, each}
use Rattle.tt_core.specs.Scales.{scaled_by}
use Rattle.tt_core.specs.declared.scaling.Scale.{Scale}
use Rattle.tt_glyf.specs.Bytes.{glyf_tag}
use Rattle.tt_glyf.specs.declared.raw.RawPoint.{RawPoint}
use Rattle.tt_metrics.specs.Metrics.{Metrics, ascent_of, descent_of, advance_of, left_side_bearing_of}
use Rattle.tt_fit_outline.specs.Outline.{PhantomPoints, Outline}
use Rattle.tt_fit_outline.specs.declared.rules.Scaling.TheVariants as scaling
use Rattle.tt_fit_outline.specs.Size.{FontSize, scale, size_by}

-- IsCoordinate as a test
abbrev pub is_coordinate : ℤ → Bool
is_coordinate v = nat_le (unsigned_abs v) coordinate_limit

-- a fault at an offset in glyf
abbrev pub glyf_fault : ℕ → Why → Fault
glyf_fault at why = fault_at glyf_tag at why

-- a coordinate past the limit
abbrev pub coordinate_fault : ℕ → Fault
coordinate_fault at = glyf_fault at why.CoordRange

-- a point whose coordinates are within the limit
unfoldable pub settled : ℕ → ℤ × ℤ × Bool → Result (ℤ × ℤ × Bool) Fault
settled at p = if is_coordinate p.0 && is_coordinate p.1 then Ok p else Err (coordinate_fault at)

-- scaled_position, by the scale alone
abbrev pub scaled_by_scale : Scale → RawPoint → ℤ × ℤ × Bool
scaled_by_scale s p = (scaled_by s p.x, scaled_by s p.y, p.on)

abbrev pub scaled_position : FontSize → RawPoint → ℤ × ℤ × Bool
scaled_position z p = (scale z p.x, scale z p.y, p.on)

-- a point of a glyph that begins at this offset in glyf
abbrev pub scaled_point : FontSize → ℕ → RawPoint → Result (ℤ × ℤ × Bool) Fault
scaled_point z at p = settled at (scaled_position z p)

-- the left and right ends of the advance, the ascent and the descent in font units (profile for the last two)
abbrev pub phantom_units : Metrics → ℤ → ℕ → PhantomPoints
phantom_units m x_min g = record {
  left = (x_min -ℤ left_side_bearing_of m g, pos 0);
  right = (x_min -ℤ left_side_bearing_of m g +ℤ pos (advance_of m g), pos 0);
  ascent = (pos 0, ascent_of m);
  descent = (pos 0, descent_of m);
}

-- each coordinate is scaled once, after its sum
abbrev pub scaled_phantom : FontSize → PhantomPoints → PhantomPoints
scaled_phantom z p = record {
  left = (scale z p.left.0, pos 0);
  right = (scale z p.right.0, pos 0);
  ascent = (pos 0, scale z p.ascent.1);
  descent = (pos 0, scale z p.descent.1);
}

abbrev pub phantom_points : FontSize → Metrics → ℤ → ℕ → PhantomPoints
phantom_points z m x_min g = scaled_phantom z (phantom_units m x_min g)

abbrev pub is_position : ℤ × ℤ → Bool
is_position p = is_coordinate p.0 && is_coordinate p.1

abbrev pub are_positions : PhantomPoints → Bool
are_positions p = is_position p.left && is_position p.right && is_position p.ascent && is_position p.descent

-- an outline without points, of a glyph that begins at this offset in glyf, with these phantom points
unfoldable pub blank : ℕ → PhantomPoints → Result Outline Fault
blank at phantom = if are_positions phantom then Ok (record { points = []; ends = []; phantom = phantom; scan = None }) else Err
    (coordinate_fault at)

-- an outline with these points; each contour's last point is given
abbrev pub outline_in_place : List (ℤ × ℤ × Bool) → List ℕ → Outline → Outline
outline_in_place points ends o = record o { points = points; ends = map (λ e. e + 1) ends; scan = None }

-- the same with points that are scaled
unfoldable pub scaled_outline : FontSize → ℕ → List RawPoint → List ℕ → Outline → Result Outline Fault
scaled_outline z at points ends o = each (scaled_point z at) points >>= λ ps. Ok (outline_in_place ps ends o)

-- worked values: 256 units in an em, at 16 pixels
its_size : FontSize
its_size = size_by scaling.Exact 16 256

a_scaled_point : scaled_point its_size 0 (record { x = pos 64; y = neg_ℤ (pos 128); on = true })
    ≡ Ok (pos 256, neg_ℤ (pos 512), true)
unfolding its_size settled
a_scaled_point = refl

-- 16 units in an em, at 300 pixels: one em is 19200
a_scaled_point_at_the_limit : scaled_point (size_by scaling.Exact 300 16) 22
    (record { x = pos 1747; y = pos 0; on = true }) ≡ Ok (pos 2096400, pos 0, true)
unfolding settled
a_scaled_point_at_the_limit = refl

a_scaled_point_past_the_limit : scaled_point (size_by scaling.Exact 300 16) 22
    (record { x = pos 0; y = pos 1748; on = true }) ≡ Err (fault_at (codes "glyf") 22 why.CoordRange)
unfolding settled
a_scaled_point_past_the_limit = refl

-- the first fault stops the list
a_list_with_a_fault : each (settled 22) ((pos 1, pos 2, true) ∷ (pos 2097151, neg_ℤ (pos 2097152), true) ∷ [])
    ≡ Err (coordinate_fault 22)
unfolding settled
a_list_with_a_fault = refl
