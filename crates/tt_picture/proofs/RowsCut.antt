-- The rows of a picture after the first ones.
use Rattle.std.proofs.Common.{◌≡◌, ◌∙◌, ℕ, ◌+◌, Bool, ◌++◌, drop, ap, zero-add}
use Rattle.std.proofs.Math.Seq.{drop-append_seam}
use Rattle.tt_picture.specs.Rows.{rows}
use Rattle.tt_picture.proofs.RowBytes.{length-rows, rows_more}

-- rows after those from an end on
pub rows_after : (w : ℕ) (black : ℕ → ℕ → Bool) (m n : ℕ) → drop m (rows w black 0 (m + n)) ≡ rows w black m n
rows_after w black m n =
    let split : rows w black 0 (m + n) ≡ rows w black 0 m ++ rows w black m n = rw zero-add at (rows_more w black 0 m n) in
    let many = length-rows w black 0 m in
    ap (drop m) split ∙ rw many at (drop-append_seam (rows w black 0 m) (rows w black m n))
