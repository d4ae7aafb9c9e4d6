use Rattle.std.proofs.Common.{ℕ, ◌+◌, ◌<◌, List, get_or, length, inl, inr, arith}
use Rattle.std.proofs.lemmas.Bool.{cases_eq}
use Rattle.std.proofs.lemmas.List.{get_or_default}
use Rattle.tt_scan_edges.specs.declared.edge.Edge.{Edge}
use Rattle.tt_scan_gaps.specs.Boxes.{EdgeWithin}
use Rattle.tt_test_pixels.proofs.dropouts.holds_all.Goals as goal

-- what holds of the first edges and of the next, holds of these
with_next : (P : Edge → Type 0) (es : List Edge) (n k : ℕ) (d e : Edge) → ((i : ℕ) (d : Edge) → i < n → P (get_or es i d))
    → P (get_or es n e) → n < length es → k < n + 1 → P (get_or es k d)
with_next P es n k d e before next within below = elim (cases_eq k n) [
  | inl same ↦ rw (same, get_or_default es n d e within) next
  | inr other ↦ before k d (omega (arith, other, below))
]

pub loop-edge-preserved : goal.loop-edge-preserved
loop-edge-preserved c = λ k d below.
    let b = c.args.extents in
    with_next (EdgeWithin b.across.low b.across.high b.up.low b.up.high) c.args.edges.now c.loop-edge.edge-index k d _
    c.loop-edge.invariant (c.holds.ensures c.if-not-holds.false) c.loop-edge-test.true below
