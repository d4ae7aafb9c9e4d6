-- The work of a glyph's deltas with no level of components, and with some.
use Rattle.std.proofs.Common.{◌≡◌, ℕ, zero, suc, ◌+◌, ◌-◌, ◌<◌, refl, arith}
use Rattle.tt_deltas.specs.Gvar.{Gvar}
use Rattle.tt_glyf.specs.Loca.{Glyf}
use Rattle.tt_glyf.specs.Told.{components_of}
use Rattle.tt_fit.specs.DeltaCounting.{deltas_by, deltas_of_all, own_deltas}

pub own_alone : (v : Gvar) (t : Glyf) (levels g : ℕ) → levels ≡ 0 → deltas_by v t levels g ≡ own_deltas v t g
unfolding deltas_by
own_alone v t zero g none = refl
own_alone v t (suc levels) g none = absurd (omega arith)

pub with_components : (v : Gvar) (t : Glyf) (levels g : ℕ) → 0 < levels
    → deltas_by v t levels g ≡ own_deltas v t g + deltas_of_all v t (levels - 1) (components_of t g)
unfolding deltas_by
with_components v t zero g some = absurd (omega arith)
with_components v t (suc levels) g some =
    let fewer : suc levels - 1 ≡ levels = omega arith in
    rw fewer refl
