-- The count of points is unchanged.
use Rattle.std.proofs.Common.{◌≡◌, ◌∙◌, ℕ, ◌+◌, ◌-◌, ◌≤◌, Bool, true, false, List, [], ◌∷◌, length, drop, slice_range, Result, Ok, Err, IfOk, refl, arith, length-append, length-drop}
use Rattle.std.proofs.lemmas.List.{length-take-le}
use Rattle.std.specs.List.{list_all}
use Rattle.tt_core.specs.Outcomes.{◌>>=◌}
use Rattle.tt_core.specs.declared.fault.Why.{Why}
use Rattle.tt_state.specs.declared.graphics_state.Axis.{Axis}
use Rattle.tt_state.specs.declared.point.Point.{Point}
use Rattle.tt_points_zones.specs.Zones.{ZoneLists, AreContours, SameShape, KeepsShape}
use Rattle.tt_points_iup.specs.Interpolation.{contour, contours, within, limited, along_in, iup}
use Rattle.tt_points_iup.specs.declared.place.Along.{Along}
use Rattle.tt_points_iup.proofs.ByNumber.{many}
use Rattle.tt_points_iup.proofs.Ranges.{inside_of}

part_count : (ps : List Point) (low past : ℕ) → low ≤ past → past ≤ length ps
    → length (slice_range ps low past) ≡ past - low
part_count ps low past order bound =
    let behind = length-drop low ps in
    length-take-le (past - low) (drop low ps) (omega (arith, behind))

count : (along : Along) (at : ℕ) (cs : List (ℕ × ℕ)) (ps : List Point) → AreContours at cs (length ps)
    → at + length (contours along at cs ps) ≡ length ps
count along at [] ps h = let left = length-drop at ps in omega (arith, left, h)
count along at (c ∷ cs) ps h =
    let from = h.0 in
    let order = h.1 in
    let bound = inside_of (c.1) cs (length ps) (h.2) in
    let rest = count along (c.1) cs ps (h.2) in
    let part = slice_range ps (c.0) (c.1) in
    let here = many along part ∙ part_count ps (c.0) (c.1) (omega (arith, from, order)) bound in
    let both = length-append (contour along part) (contours along (c.1) cs ps) in
    omega (arith, from, order, bound, rest, here, both)

limited_count : (b : Bool) (axis : Axis) (z : ZoneLists) (ps : List Point) → list_all (within axis) ps ≡ b
    → length ps ≡ length z.glyph → IfOk (limited axis ps) (λ qs. SameShape z (record z { glyph = qs }))
limited_count true axis z ps all same =
    rw all (record { twilight = refl; glyph = same; contours = refl; originals = refl })
limited_count false axis z ps all same = rw all tt

made : (z : ZoneLists) (r : Result (List Point) Why) → IfOk r (λ qs. SameShape z (record z { glyph = qs }))
    → KeepsShape z (r >>= λ ps. Ok (record z { glyph = ps }))
made z (Ok ps) same = same
made z (Err why) same = tt

pub shape_kept : (axis : Axis) (z : ZoneLists) → AreContours 0 z.contours (length z.glyph) → KeepsShape z (iup axis z)
shape_kept axis z h =
    let ps = contours (along_in axis z) 0 z.contours z.glyph in
    let same = count (along_in axis z) 0 z.contours z.glyph h in
    made z (limited axis ps) (limited_count (list_all (within axis) ps) axis z ps refl (omega (arith, same)))
