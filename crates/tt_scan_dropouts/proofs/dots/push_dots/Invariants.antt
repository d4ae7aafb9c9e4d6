use Rattle.std.proofs.Common.{◌≡◌, not, ◌&&◌, ◌||◌, drop, length}
use Rattle.std.specs.Prelude.{ℤ}
use Rattle.tt_scan.specs.Contours.{AreEndsFrom, contours_at, contours_from}
use Rattle.tt_scan_gaps.specs.Dots.{has_dot}
use Rattle.tt_scan_dropouts.specs.Passes.{has_pixel}
use Rattle.tt_scan_dropouts.specs.Windows.{has, is_black_in}
use Rattle.tt_scan_dropouts.proofs.dots.push_dots.Given as goal

-- the dots so far and those of the remaining contours are all dots
abbrev pub invariant-loop-i : goal.invariant-loop-i
invariant-loop-i l = record {
  left : AreEndsFrom l.from (length l.edges) (drop l.i l.ends);
  all : (c j : ℤ) → (has_pixel l.found.items c j || (has l.window c j && (not (is_black_in l.ink c j)
      && has_dot l.glyph.rules.rules.stubs (contours_from l.from l.edges (drop l.i l.ends)) c j)))
      ≡ (has_pixel l.fn.found.items c j || (has l.window c j && (not (is_black_in l.ink c j)
      && has_dot l.glyph.rules.rules.stubs (contours_at l.edges l.ends) c j)));
}
