use Rattle.std.proofs.Common.{◌≡◌, ◌∙◌, ◌+◌, [], take, get_or, SFits, w64, refl, sym, rules, arith}
use Rattle.std.proofs.lemmas.Int.{to_z-of_z}
use Rattle.std.proofs.lemmas.List.{take_all}
use Rattle.tt_core.specs.Bits.{stride}
use Rattle.tt_picture.specs.Stamps.{some_stamp_shows, stamp_shows}
use Rattle.tt_picture.proofs.Bands.{none_painted, painted_more, stamp_painted}
use Rattle.tt_picture.proofs.Placed.{stamp_more}
use Rattle.tt_picture.proofs.stamps.add_stamps.Goals as goal

pub loop-stamp-init : goal.loop-stamp-init
loop-stamp-init c =
    let w = c.args.frame.width in
    record {
      bytes = c.row_bytes-bytes.ensures;
      painted = none_painted (stride w) c.args.count w (λ k i. some_stamp_shows [] k (c.args.from + i)) c.args.band.now (λ k i. refl);
    }

pub paint-requires-clause-width : goal.paint-requires-clause-width
paint-requires-clause-width c = rw c.loop-stamp.invariant.bytes (omega arith)

pub paint-requires-clause-band : goal.paint-requires-clause-band
paint-requires-clause-band c =
    let so_far = c.loop-stamp.invariant in
    rw so_far.bytes (so_far.painted.len ∙ c.requires.len)

pub loop-stamp-preserved : goal.loop-stamp-preserved
loop-stamp-preserved c =
    let so_far = c.loop-stamp.invariant in
    let w = c.args.frame.width in
    let from = c.args.from in
    let stamps = c.args.stamps.now in
    let i = c.loop-stamp.stamp-index in
    let s = c.stamp-item.result in
    let here : get_or stamps i s ≡ s = sym c.stamp-item.is in
    let line : SFits w64 c.line_of-line.result = search rules in
    let column : SFits w64 c.from.result = search rules in
    let painted = rw (so_far.bytes, c.from.ensures, c.deref.ensures) at (simp to_z-of_z at c.paint.ensures) in
    let own = stamp_painted w s from c.args.count c.line_of-line.result c.loop-stamp.band c.paint.new.band c.line_of-line.ensures.exact painted in
    rw so_far.bytes (record {
      bytes = refl;
      painted = painted_more (stride w) c.args.count w (λ k j. some_stamp_shows (take i stamps) k (from + j))
          (λ k j. stamp_shows s k (from + j)) (λ k j. some_stamp_shows (take (i + 1) stamps) k (from + j))
          c.args.band.now c.loop-stamp.band c.paint.new.band so_far.painted own
          (λ k j inside below. stamp_more stamps i s k (from + j) c.loop-stamp-test.true here);
    })

pub returns : goal.returns
returns c =
    let all = take_all c.loop-stamp.stamp-index c.args.stamps.now c.loop-stamp-test.false in
    rw all at c.loop-stamp.invariant.painted
