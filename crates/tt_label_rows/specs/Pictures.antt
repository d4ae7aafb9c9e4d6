-- The picture of rows, of a given width or of a given size, and the places of its rows (profile).
use Rattle.std.specs.Prelude.{◌≡◌, refl, ℕ, suc, ◌+◌, ◌-◌, ◌*◌, ◌<◌, ◌≤◌, ◌^◌, Bool, true, false, not, ◌&&◌, nat_lt, ℤ, pos, negsuc, ◌+ℤ◌, ◌-ℤ◌, int_le, unsigned_abs, List, [], ◌∷◌, map, Result, Ok, Err}
use Rattle.tt_core.specs.declared.fault.JobFault.{JobFault}
use Rattle.tt_core.specs.declared.fault.JobFault.TheVariants as fault
use Rattle.tt_core.specs.Limits.{height_limit, width_limit}
use Rattle.tt_core.specs.Outcomes.{◌>>=◌}
use Rattle.tt_label_rows.specs.declared.heights.RowHeights.{RowHeights}
use Rattle.tt_label_rows.specs.declared.picture.RowsPicture.{RowsPicture}
use Rattle.tt_line.specs.declared.align.Align.{Align}
use Rattle.tt_line.specs.declared.align.Align.TheVariants as align
use Rattle.tt_line.specs.Labels.{greater, label_limited, rows_of, width_of}
use Rattle.tt_line.specs.Layout.{Placement, glyphs_at_pens}
use Rattle.tt_line.specs.Steps.{at_least}
use Rattle.tt_rows.specs.Places.{first_base_line, indent_by, rows_height}

-- how far a place lies before the first
abbrev pub below_zero : ℤ → ℕ
below_zero (pos n) = 0
below_zero (negsuc n) = suc n

-- the columns from the left margin to a row of this width; it is negative for a row that is wider than the room
abbrev pub shift_of : Align → ℕ → ℕ → ℤ
shift_of how room width = indent_by how (pos room -ℤ pos width)

-- how many columns before the left margin rows of at most this width begin
abbrev pub skipped_by : Align → ℕ → ℕ → ℕ
skipped_by how room widest = below_zero (shift_of how room widest)

-- the pixels from the left margin of the picture, whose first columns are skipped, to a row of this width
abbrev pub start_of : RowsPicture → ℕ → ℕ
start_of p width = unsigned_abs (shift_of p.align p.room width +ℤ pos p.skipped)

-- a row in the picture, at this distance of its base line below the upper margin
abbrev pub row_placed : RowsPicture → ℤ → List (ℕ × ℕ) → Placement
row_placed p rise row = record {
  width = p.width;
  height = p.height;
  rise = rise;
  glyphs = map (λ g. (g.0, g.1 + start_of p (width_of row))) (glyphs_at_pens (map (λ g. g.0) row) (map (λ g. g.1) row));
}

-- rows one below the other
abbrev pub rows_placed : RowsPicture → ℕ → ℤ → List (List (ℕ × ℕ)) → List Placement
rows_placed p step rise [] = []
rows_placed p step rise (row ∷ rows) = row_placed p rise row ∷ rows_placed p step (rise +ℤ pos step) rows

-- the picture of a row and this many more, which is n columns wide without those that are skipped. It has room
-- for the widest row too
unfoldable pub width_picture : RowHeights → ℕ → ℕ → ℕ → ℕ → Align → Result RowsPicture JobFault
width_picture h more widest n margin how =
    let skipped = skipped_by how (n - 2 * margin) widest in
    label_limited (record {
      width = skipped + greater n widest;
      height = at_least 1 (rows_of (more * h.step + 2 * margin) h.rise h.depth);
    }) >>= λ e.
    Ok (record { width = e.width; height = e.height; align = how; room = n - 2 * margin; skipped = skipped })

-- a box, which no row exceeds
abbrev pub box_picture : ℕ → ℕ → ℕ → Align → RowsPicture
box_picture w h margin how = record { width = w; height = h; align = how; room = w - 2 * margin; skipped = 0 }

-- a row and this many more fit into the height of a box
abbrev pub is_low : RowHeights → ℕ → ℕ → ℕ → Bool
is_low r more height margin = int_le (rows_height more r.step r.rise r.depth) (pos (height - 2 * margin))

-- the distance of the first base line below the upper margin, where rows stand in the middle of a box
abbrev pub first_rise : RowHeights → ℕ → ℕ → ℕ → ℤ
first_rise r more height margin =
    first_base_line height margin (rows_height more r.step r.rise r.depth) r.rise -ℤ pos margin

-- the limits of the heights of rows
pub record AreHeights (h : RowHeights) : Type 0 where
  pub rise : unsigned_abs h.rise ≤ 614400
  pub depth : unsigned_abs h.depth ≤ 614400
  pub step : h.step < 2 ^ 21

-- the limits of such a picture
pub record IsWithin (p : RowsPicture) : Type 0 where
  pub some_width : 1 ≤ p.width
  pub width : p.width ≤ width_limit
  pub some_height : 1 ≤ p.height
  pub height : p.height ≤ height_limit
  pub room : p.room ≤ width_limit
  pub skipped : p.skipped ≤ width_limit

-- worked values: rows of 5, 8 and 11 columns in a room of 8
starts : map (λ how. map (start_of (record { width = 15; height = 1; align = how; room = 8; skipped = 3 })) (5 ∷ 8 ∷ 11 ∷ []))
    (align.Left ∷ align.Centre ∷ align.Right ∷ []) ≡ (3 ∷ 3 ∷ 3 ∷ []) ∷ (4 ∷ 3 ∷ 1 ∷ []) ∷ (6 ∷ 3 ∷ 0 ∷ []) ∷ []
starts = refl

-- half of -3 is -2
skipped_columns : map (λ how. map (skipped_by how 8) (5 ∷ 8 ∷ 11 ∷ [])) (align.Left ∷ align.Centre ∷ align.Right ∷ [])
    ≡ (0 ∷ 0 ∷ 0 ∷ []) ∷ (0 ∷ 0 ∷ 2 ∷ []) ∷ (0 ∷ 0 ∷ 3 ∷ []) ∷ []
skipped_columns = refl

four_and_one : RowHeights
four_and_one = record { rise = pos 4; depth = pos 1; step = 6 }

-- three rows, 11 columns at most, in a picture of 10 with a margin of 1
three_rows : width_picture four_and_one 2 11 10 1 align.Right
    ≡ Ok (record { width = 14; height = 19; align = align.Right; room = 8; skipped = 3 })
unfolding width_picture four_and_one label_limited
three_rows = refl

too_high : width_picture four_and_one 682 8 10 1 align.Left ≡ Err fault.PictureLarge
unfolding width_picture four_and_one label_limited
too_high = refl

-- 17 rows of pixels
low_boxes : map (λ height. is_low four_and_one 2 height 1) (18 ∷ 19 ∷ 20 ∷ []) ≡ false ∷ true ∷ true ∷ []
unfolding four_and_one
low_boxes = refl

in_the_middle : map (λ height. first_rise four_and_one 2 height 1) (19 ∷ 20 ∷ 21 ∷ []) ≡ pos 4 ∷ pos 4 ∷ pos 5 ∷ []
unfolding four_and_one
in_the_middle = refl
