use Rattle.std.proofs.Common.{◌≡◌, ℕ, ◌+◌, ◌<◌, ◌≤◌, false, get_or, length, map, take, ◌+ℤ◌, ◌<ℤ◌, pos}
use Rattle.tt_scan_edges.specs.declared.walk.Walk.{Walk}
use Rattle.tt_scan.specs.EdgeTable.{IsWalkAt, edges_of}
use Rattle.tt_scan_edges.specs.Left.{IsLeftBy}
use Rattle.tt_scan.proofs.collect.visit_walks.Given as goal

-- the walks so far are at the row, the others still at the row above
abbrev pub invariant-loop-i : goal.invariant-loop-i
invariant-loop-i l = record {
  len : length l.walks ≡ length l.fn.walks;
  walked : (k : ℕ) (d : Walk) → k < l.i → IsWalkAt l.fn.edges.edges l.at.frame l.at.r (get_or l.walks k d);
  above : (k : ℕ) (d : Walk) → l.i ≤ k → get_or l.walks k d ≡ get_or l.fn.walks k d;
  entries : map (λ (w : Walk). w.entry) l.walks ≡ map (λ (w : Walk). w.entry) l.fn.walks;
  on : l.ended ≡ false → (k : ℕ) (d : Walk) → k < l.i → (l.at.r +ℤ pos 1) <ℤ (get_or l.walks k d).entry.past;
  left : IsLeftBy (edges_of l.fn.edges.edges (take l.i (map (λ (w : Walk). w.entry) l.fn.walks))) l.at.frame.margin l.at.y l.fn.left.most l.left;
  crosses : l.edges ≡ record l.fn.edges { crosses = l.fn.edges.crosses + l.i };
}
