use Rattle.std.proofs.Common.{◌≡◌, ◌∙◌, ◌||◌, ◌&&◌, Bool, true, false, refl, ◌+ℤ◌, ◌-ℤ◌, nat_lt, pos, SFits, w64, rules, arith}
use Rattle.std.proofs.lemmas.Int.{ints, to_z-of_z}
use Rattle.std.proofs.lemmas.List.{drop_all}
use Rattle.tt_core.specs.Bits.{bit}
use Rattle.tt_scan_edges.proofs.Visits.{span_more}
use Rattle.tt_scan.proofs.paint.paint_spans.Goals as goal

pub loop-i-preserved : goal.loop-i-preserved
loop-i-preserved c =
    let shift : SFits w64 c.args.shift = c.ranges.shift in
    let low : SFits w64 (pos 0 -ℤ c.args.shift) = omega (arith, ints, c.requires.shift) in
    record {
      bits = λ k.
          let at : (pos 0 -ℤ c.args.shift) +ℤ pos k ≡ pos k -ℤ c.args.shift = omega (arith, ints) in
          let now = rw at at (simp to_z-of_z at (c.paint_span.ensures.bits k)) in
          simp to_z-of_z (span_more _ (bit c.loop-i.row k) (bit c.paint_span.new.row k) (nat_lt k c.args.width) c.args.spans.now c.loop-i.i (pos k -ℤ c.args.shift) (record { first = pos 0; last = pos 0 }) c.loop-i-test.true (simp to_z-of_z at (c.loop-i.invariant.bits k)) now);
      len = search rules;
    }

nothing_more : (b w : Bool) → b ≡ (b || (w && false))
nothing_more true w = refl
nothing_more false true = refl
nothing_more false false = refl

pub returns : goal.returns
returns c =
    let shift : SFits w64 c.args.shift = c.ranges.shift in
    record {
      bits = λ k.
          let all = simp to_z-of_z at (c.loop-i.invariant.bits k) in
          nothing_more (bit c.loop-i.row k) (nat_lt k c.args.width) ∙ (rw (drop_all c.loop-i.i c.args.spans.now c.loop-i-test.false) at all);
      len = c.loop-i.invariant.len;
    }
