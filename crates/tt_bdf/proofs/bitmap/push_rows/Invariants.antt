use Rattle.std.proofs.Common.{◌≡◌, ◌++◌, flat_map}
use Rattle.std.specs.List.{range_with_len}
use Rattle.tt_bdf.specs.Bitmap.{row_at, row_text}
use Rattle.tt_bdf.proofs.bitmap.push_rows.Given as goal

-- the text and the lines of the rows so far
abbrev pub invariant-loop-i : goal.invariant-loop-i
invariant-loop-i l =
    l.text.items ≡ l.initial.text.items ++ flat_map (λ i. row_text (row_at l.bitmap l.stride i)) (range_with_len 0 l.i)
