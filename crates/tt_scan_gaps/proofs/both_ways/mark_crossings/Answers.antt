use Rattle.std.proofs.Common.{◌≡◌, arith, inl, inr}
use Rattle.std.proofs.lemmas.Bool.{cases_lt}
use Rattle.tt_scan_gaps.specs.BothWays.{slot}
use Rattle.tt_scan_gaps.specs.Crossings.{crossing, line_crossed}
use Rattle.tt_scan_gaps.proofs.both_ways.mark_crossings.Goals as goal

pub mark_crossing-requires-clause-within : goal.mark_crossing-requires-clause-within
mark_crossing-requires-clause-within c = rw c.lines_crossed-k-end.ensures.exact at c.loop-k-test.true

pub loop-k-preserved : goal.loop-k-preserved
loop-k-preserved c =
    let e = c.args.edge in
    let k = c.loop-k.k in
    let so_far = c.loop-k.invariant in
    let one = c.mark_crossing.ensures in
    record {
      marked = λ m less. elim (cases_lt m k) [
        | inl before ↦ one.kept (slot (line_crossed e m) (crossing e (line_crossed e m)).gap) (so_far.marked m before)
        | inr not ↦ let same : m ≡ k = omega arith in rw same one.marked
      ];
      kept = λ s h. one.kept s (so_far.kept s h);
      taken = λ m less has. elim (cases_lt m k) [
        | inl before ↦ so_far.taken m before has
        | inr not ↦ let same : m ≡ k = omega arith in rw same (one.taken c.if-mark_crossing.false (rw same at has))
      ];
      fewer = omega (arith, one.fewer, so_far.fewer);
    }
