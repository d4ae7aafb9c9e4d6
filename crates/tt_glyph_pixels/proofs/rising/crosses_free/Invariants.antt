use Rattle.std.proofs.Common.{◌≡◌, false, map}
use Rattle.std.specs.List.{range_with_len}
use Rattle.tt_scan_gaps.specs.Crossings.{crossing, line_crossed}
use Rattle.tt_scan_gaps.specs.Walk.{some_in_free_gap}
use Rattle.tt_scan_dropouts.specs.Seen.{is_black_on}
use Rattle.tt_glyph_pixels.proofs.rising.crosses_free.Given as goal

-- none of the crossings so far lies in a free gap
abbrev pub invariant-loop-k : goal.invariant-loop-k
invariant-loop-k l =
    some_in_free_gap (is_black_on l.over l.inked)
    (map (λ k. crossing l.edge (line_crossed l.edge k)) (range_with_len 0 l.k)) ≡ false
