use Rattle.std.proofs.Common.{◌≡◌, false, take}
use Rattle.std.specs.List.{list_any}
use Rattle.tt_scan_gaps.specs.Seen.{seen_by}
use Rattle.tt_scan_dropouts.specs.Rising.{is_tested}
use Rattle.tt_scan_dropouts.specs.Seen.{is_black_on}
use Rattle.tt_glyph_pixels.proofs.rising.some_tested_over.Given as goal

-- none of the edges so far makes the pass needed
abbrev pub invariant-loop-edge : goal.invariant-loop-edge
invariant-loop-edge l =
    list_any (λ e. is_tested l.stubs (is_black_on l.over l.inked) (seen_by l.over e)) (take l.edge-index l.edges) ≡ false
