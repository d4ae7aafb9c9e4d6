use Rattle.std.proofs.Common.{◌≡◌, ◌∙◌, ap, ◌||◌, ◌+ℤ◌, Bool, pos, SFits, w64, rules, arith}
use Rattle.std.proofs.lemmas.Int.{to_z-of_z, ints}
use Rattle.tt_core.specs.Bits.{bit}
use Rattle.tt_scan.proofs.Stamped.{inside_painted, stamp_painted}
use Rattle.tt_scan.proofs.stamp.paint_fit.Goals as goal

pub returns-in-Some-clause-painted : goal.returns-in-Some-clause-painted
returns-in-Some-clause-painted c = λ on. record {
  bits = λ k.
      let shift : SFits w64 c.from-2.result = search rules in
      let place = rw c.from-2.ensures at (simp to_z-of_z at c.in-Some.ensures.at) in
      c.or_word.ensures.bits k
      ∙ ap (λ (b : Bool). bit c.args.row.now k || b)
      (stamp_painted c.args.spans.now c.args.stamp c.in-Some.at k c.args.width (pos c.args.pen) c.requires.stamp place c.in-Some.ensures.within);
  len = c.or_word.ensures.len;
}

pub returns-then-at-inside-clause-painted : goal.returns-then-at-inside-clause-painted
returns-then-at-inside-clause-painted c = λ on. record {
  bits = λ k.
      let s = c.args.stamp in
      let pen : c.from.result ≡ pos c.args.pen = c.from.ensures in
      let low : SFits w64 s.low = omega (arith, ints, c.args.stamp.near) in
      let of_pen : SFits w64 (pos c.args.pen) = search rules in
      let inside : SFits w64 c.args.inside = search rules in
      let sum : SFits w64 (s.low +ℤ pos c.args.pen) = omega (arith, ints, c.args.stamp.near, c.ranges.pen.fits) in
      let tests = simp to_z-of_z at (rw pen at c.if-at-inside.true) in
      let painted = simp to_z-of_z at (rw pen at (c.or_inside.ensures.bits k)) in
      painted
      ∙ ap (λ (b : Bool). bit c.args.row.now k || b)
      (inside_painted c.args.spans.now s (pos c.args.pen) c.args.inside k c.args.width c.requires.stamp tests c.requires.inside);
  len = c.or_inside.ensures.len;
}
