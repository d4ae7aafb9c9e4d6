use Rattle.std.proofs.Common.{◌≡◌, true, SFits, w64, pos, rules}
use Rattle.std.specs.Prelude.{int_le}
use Rattle.std.proofs.lemmas.Int.{to_z-of_z}
use Rattle.tt_scan_gaps.specs.Boxes.{columns_in, rows_in}
use Rattle.tt_scan_gaps.specs.Dots.{are_two, longer, shorter}
use Rattle.tt_scan_gaps.proofs.SmallContours.{last_of_four}
use Rattle.tt_scan_gaps.proofs.dots.is_dot_box.Goals.{then-are_two, else-are_two}
use Rattle.tt_scan_gaps.proofs.dots.is_dot_box.Goals as goal

pub returns-then-longer-ge-LONG : goal.returns-then-longer-ge-LONG
returns-then-longer-ge-LONG c =
    let b = c.args.extents in
    let long : SFits w64 c.longer.result = search rules in
    let short : SFits w64 c.shorter.result = search rules in
    let reaches : int_le (pos 3072) (longer b) ≡ true = rw c.longer.ensures at (simp to_z-of_z at c.if-longer-ge-LONG.true) in
    elim c.if-are_two.branch [
      | then-are_two w ↦
          let columns : are_two (columns_in b) ≡ true = rw (c.are_two.ensures, c.pixels_in.ensures.columns) at w.if-are_two.true in
          let rows : are_two (rows_in b) ≡ true = rw (w.value-is, w.are_two-then-are_two.ensures, c.pixels_in.ensures.rows) at c.if-are_two-2.true in
          simp to_z-of_z (rw c.shorter.ensures (last_of_four (are_two (columns_in b)) (are_two (rows_in b)) (int_le (pos 3072) (longer b))
          (int_le (pos 1024) (shorter b)) columns rows reaches))
      | else-are_two w ↦ let never = rw w.value-is at c.if-are_two-2.true in absurd cc
    ]
