use Rattle.std.proofs.Common.{◌≡◌, refl, SFits, w32, w64, rules, arith}
use Rattle.std.specs.Prelude.{◌≢◌, true, false, int_lt, pos, ◌-ℤ◌}
use Rattle.std.specs.Int.{int_rem_euclid}
use Rattle.tt_scan_gaps.specs.Crossings.{crossing_at, gap_at, is_rising, upward}
use Rattle.tt_scan_gaps.proofs.Lines.{level_touches_none, off_touches_none, touching}
use Rattle.std.proofs.lemmas.Int.{ints, to_z-of_z}
use Rattle.tt_scan_gaps.proofs.crossings.touch.Goals as goal
use Rattle.tt_scan_gaps.proofs.crossings.touch.Goals.{else-up-via-then-up+else-rem_euclid-eq0, else-up-via-else-up}

pub returns-then-rem_euclid-eq0-clause-some : goal.returns-then-rem_euclid-eq0-clause-some
returns-then-rem_euclid-eq0-clause-some c =
    let ay : SFits w32 c.upward-up.result.ay = omega (arith, ints, c.upward-up.ensures.fits.ay) in
    let by : SFits w32 c.upward-up.result.by = omega (arith, ints, c.upward-up.ensures.fits.by) in
    let bx : SFits w32 c.upward-up.result.bx = omega (arith, ints, c.upward-up.ensures.fits.bx) in
    let own_ay : SFits w32 c.args.edge.ay = omega (arith, ints, c.requires.ay) in
    let own_by : SFits w32 c.args.edge.by = omega (arith, ints, c.requires.by) in
    let top : SFits w64 c.from-from.result = search rules in
    let right : SFits w64 c.from.result = search rules in
    let is_top : c.from-from.result ≡ c.upward-up.result.by = simp to_z-of_z at c.from-from.ensures in
    let is_right : c.from.result ≡ c.upward-up.result.bx = simp to_z-of_z at c.from.ensures in
    let from : SFits w64 (c.from-from.result -ℤ pos 4096) = rw is_top (omega (arith, ints, c.upward-up.ensures.fits.by)) in
    let wide : SFits w64 c.div_euclid.result = omega (arith, ints, c.div_euclid.type_inv) in
    let is = c.upward-up.ensures.exact in
    let value : c.rem_euclid.result ≡ int_rem_euclid (c.upward-up.result.by -ℤ pos 4096) (pos 8192) = rw is_top at (simp to_z-of_z at c.rem_euclid.ensures.value) in
    let zero : c.rem_euclid.result ≡ pos 0 = omega (arith, ints, c.if-rem_euclid-eq0.true, c.rem_euclid.type_inv) in
    let on : int_rem_euclid ((upward c.args.edge).by -ℤ pos 4096) (pos 8192) ≡ pos 0 = rw is at (rw value at zero) in
    let gap : c.div_euclid.result ≡ gap_at c.upward-up.result.by = rw is_top at (simp to_z-of_z at c.div_euclid.ensures) in
    let above : int_lt c.upward-up.result.ay c.upward-up.result.by ≡ true = simp to_z-of_z at c.if-up.true in
    let rises : int_lt (upward c.args.edge).ay (upward c.args.edge).by ≡ true = rw is at above in
    let made : c.crossing_at.result ≡ crossing_at (is_rising c.args.edge) c.div_euclid.result c.upward-up.result.bx = rw is_right at (simp to_z-of_z at c.crossing_at.ensures) in
    let whole : c.crossing_at.result ≡ crossing_at (is_rising c.args.edge) (gap_at (upward c.args.edge).by) (upward c.args.edge).bx = rw (made, gap, is) refl in
    rw whole (touching c.args.edge rises on)

pub returns-else-up-clause-none : goal.returns-else-up-clause-none
returns-else-up-clause-none c = elim c.else-up.branch [
  | else-up-via-then-up+else-rem_euclid-eq0 w ↦
      let by : SFits w32 c.upward-up.result.by = omega (arith, ints, c.upward-up.ensures.fits.by) in
      let top : SFits w64 c.from-from.result = search rules in
      let is_top : c.from-from.result ≡ c.upward-up.result.by = simp to_z-of_z at c.from-from.ensures in
      let from : SFits w64 (c.from-from.result -ℤ pos 4096) = rw is_top (omega (arith, ints, c.upward-up.ensures.fits.by)) in
      let value : w.rem_euclid.result ≡ int_rem_euclid (c.upward-up.result.by -ℤ pos 4096) (pos 8192) = rw is_top at (simp to_z-of_z at w.rem_euclid.ensures.value) in
      let not_zero : w.rem_euclid.result ≢ pos 0 = λ zero. w.if-rem_euclid-eq0.false (rw zero refl) in
      let off : int_rem_euclid ((upward c.args.edge).by -ℤ pos 4096) (pos 8192) ≢ pos 0 = rw c.upward-up.ensures.exact at (rw value at not_zero) in
      off_touches_none c.args.edge off
  | else-up-via-else-up w ↦
      let ay : SFits w32 c.upward-up.result.ay = omega (arith, ints, c.upward-up.ensures.fits.ay) in
      let by : SFits w32 c.upward-up.result.by = omega (arith, ints, c.upward-up.ensures.fits.by) in
      let level : int_lt c.upward-up.result.ay c.upward-up.result.by ≡ false = simp to_z-of_z at w.if-up.false in
      level_touches_none c.args.edge (rw c.upward-up.ensures.exact at level)
]
