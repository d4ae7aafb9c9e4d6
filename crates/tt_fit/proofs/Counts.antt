-- A glyph's points with no level of components, and with some.
use Rattle.std.proofs.Common.{◌≡◌, ℕ, zero, suc, ◌+◌, ◌-◌, ◌<◌, refl, arith}
use Rattle.tt_glyf.specs.Loca.{Glyf}
use Rattle.tt_glyf.specs.Told.{components_of}
use Rattle.tt_fit.specs.Counting.{own_points, points_asked, points_of_all}

pub own_alone : (t : Glyf) (levels g : ℕ) → levels ≡ 0 → points_asked t levels g ≡ own_points t g
unfolding points_asked
own_alone t zero g none = refl
own_alone t (suc levels) g none = absurd (omega arith)

pub with_components : (t : Glyf) (levels g : ℕ) → 0 < levels
    → points_asked t levels g ≡ own_points t g + points_of_all t (levels - 1) (components_of t g)
unfolding points_asked
with_components t zero g some = absurd (omega arith)
with_components t (suc levels) g some =
    let fewer : suc levels - 1 ≡ levels = omega arith in
    rw fewer refl
