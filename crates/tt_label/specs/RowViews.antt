-- No part of the standard: the definitions' views of rows, and of their picture.
use Rattle.std.specs.Prelude.{◌≡◌, ◌≤◌, ℕ, All, length}
use Rattle.tt_core.specs.Limits.{margin_limit}
use Rattle.tt_label.specs.declared.widths.LaidRows as declared
use Rattle.tt_label.specs.declared.widths.WidthLabel.{WidthLabel}
use Rattle.tt_label.specs.Views.{placements_of}
use Rattle.tt_label.specs.Widths.{CutImage, LaidRows}
use Rattle.tt_label_rows.specs.Pictures.{IsWithin}
use Rattle.tt_picture.specs.Pictures.{image_of}

abbrev pub rows_view : declared.LaidRows → LaidRows
rows_view r = record { picture = r.picture; lines = placements_of r.lines.items }

abbrev pub cut_view : WidthLabel → CutImage
cut_view w = record { shown = image_of w.picture; left = w.left; right = w.right }

-- at least one row, all of the size of their picture and with one margin
pub record AreRows (margin : ℕ) (r : declared.LaidRows) : Type 0 where
  pub some : 1 ≤ length r.lines.items
  pub within : margin ≤ margin_limit
  pub margins : All (λ l. l.margin ≡ margin) r.lines.items
  pub sizes : All (λ l. (l.width ≡ r.picture.width) × (l.height ≡ r.picture.height)) (placements_of r.lines.items)
  pub picture : IsWithin r.picture
