use Rattle.std.proofs.Common.{◌≡◌, refl, ◌⊎◌, ◌<◌, ◌≤◌, Bool, true, false, ◌&&◌, inl, inr, ℕ, pos, ◌+ℤ◌, ◌-ℤ◌, ◌≤ℤ◌, ◌<ℤ◌, unsigned_abs, SFits, w64, rules, arith}
use Rattle.std.specs.Int.{int_max, int_min}
use Rattle.std.specs.Prelude.{ℤ, int_le, int_lt}
use Rattle.std.proofs.lemmas.Int.{clamps, ints, to_z-of_z}
use Rattle.tt_scan_edges.specs.Crossing.{has_row}
use Rattle.tt_scan_edges.specs.Winding.{FrameFits}
use Rattle.tt_scan_dropouts.specs.Windows.{first_row}
use Rattle.tt_scan_dropouts.proofs.Inked.{centre_of_column, has_row_of, row_centre}
use Rattle.tt_scan_dropouts.proofs.bitmap.rows_met.Goals as goal

-- a row above the first of some rows, or below the last, is none of them
none_of_them : (first past top : ℤ) (h r from to : ℕ) → r < h
    → pos from ≡ int_max (pos 0) (int_min (first -ℤ top) (pos h)) → pos to ≡ int_max (pos 0) (int_min (past -ℤ top) (pos h))
    → (r < from) ⊎ (to ≤ r) → has_row (first, past) (top +ℤ pos r) ≡ false
none_of_them first past top h r from to below start stop (inl before) =
    let low : (top +ℤ pos r) <ℤ first = omega (arith, ints, clamps, start, before) in
    let off : int_le first (top +ℤ pos r) ≡ false = grind (arith, ints, low) in
    rw off refl
none_of_them first past top h r from to below start stop (inr after) =
    let high : past ≤ℤ (top +ℤ pos r) = omega (arith, ints, clamps, stop, below, after) in
    let off : int_lt (top +ℤ pos r) past ≡ false = grind (arith, ints, high) in
    rw off (neither (int_le first (top +ℤ pos r))) where
      neither : (b : Bool) → (b && false) ≡ false
      neither true = refl
      neither false = refl

whole : (top row : ℤ) (h : ℕ) (y : ℤ) → y ≡ int_max (pos 0) (int_min (row -ℤ top) (pos h))
    → pos (unsigned_abs y) ≡ int_max (pos 0) (int_min (row -ℤ top) (pos h))
whole top row h y is = omega (arith, ints, clamps, is)

pub overflow_sub-first : goal.overflow_sub-first
overflow_sub-first c =
    let fits : FrameFits c.args.tape.now.frame = rw c.frame.ensures.exact at c.frame.ensures.fits in
    let rows = c.rows-first.ensures.exact in
    omega (arith, ints, rows.low, rows.order, rows.high, c.first_row-top.ensures.small, fits.height_high)

pub overflow_sub-past : goal.overflow_sub-past
overflow_sub-past c =
    let fits : FrameFits c.args.tape.now.frame = rw c.frame.ensures.exact at c.frame.ensures.fits in
    let rows = c.rows-first.ensures.exact in
    omega (arith, ints, rows.low, rows.order, rows.high, c.first_row-top.ensures.small, fits.height_high)

pub returns-clause-blank : goal.returns-clause-blank
returns-clause-blank c = λ r k below out.
    let w = c.args.window in
    let frame = c.args.tape.now.frame in
    let fits : FrameFits frame = rw c.frame.ensures.exact at c.frame.ensures.fits in
    let rows = c.rows-first.ensures.exact in
    let first : SFits w64 c.rows-first.result.0 = search rules in
    let past : SFits w64 c.rows-first.result.1 = search rules in
    let top : SFits w64 c.first_row-top.result = search rules in
    let height : SFits w64 c.from-height.result = search rules in
    let from : SFits w64 c.clamp.result = search rules in
    let to : SFits w64 c.clamp-2.result = search rules in
    let above : SFits w64 (c.rows-first.result.0 -ℤ c.first_row-top.result) =
    omega (arith, ints, rows.low, rows.order, rows.high, c.first_row-top.ensures.small, fits.height_high) in
    let under : SFits w64 (c.rows-first.result.1 -ℤ c.first_row-top.result) =
    omega (arith, ints, rows.low, rows.order, rows.high, c.first_row-top.ensures.small, fits.height_high) in
    let from_is = rw c.from-height.ensures at (simp to_z-of_z at c.clamp.ensures.value) in
    let to_is = rw c.from-height.ensures at (simp to_z-of_z at c.clamp-2.ensures.value) in
    let at : c.first_row-top.result ≡ first_row frame w = rw c.frame.ensures.exact at c.first_row-top.ensures.exact in
    let here = has_row_of frame w r c.requires.rows below in
    let none = none_of_them c.rows-first.result.0 c.rows-first.result.1 (first_row frame w) w.height r
    (unsigned_abs c.clamp.result) (unsigned_abs c.clamp-2.result) below (whole (first_row frame w) c.rows-first.result.0 w.height c.clamp.result (rw at at from_is)) (whole (first_row frame w) c.rows-first.result.1 w.height c.clamp-2.result (rw at at to_is)) (simp to_z-of_z at out) in
    rw (centre_of_column frame.margin k, row_centre frame w r) at (c.rows-first.ensures.blank (first_row frame w +ℤ pos r) (k +ℤ pos frame.margin) here.0 here.1 none)
