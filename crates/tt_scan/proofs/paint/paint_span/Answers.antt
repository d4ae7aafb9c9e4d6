use Rattle.std.proofs.Common.{Bool, ◌∙◌, ◌||◌, ap, refl, SFits, w64, rules}
use Rattle.std.proofs.lemmas.Int.{to_z-of_z}
use Rattle.tt_core.specs.Bits.{bit}
use Rattle.tt_scan_edges.proofs.Visits.{within_width}
use Rattle.tt_scan.proofs.paint.paint_span.Goals as goal

pub returns : goal.returns
returns c = record {
  bits = λ k.
      let first : SFits w64 c.args.span.first = search rules in
      let last : SFits w64 c.args.span.last = search rules in
      let low : SFits w64 c.args.shown.low = search rules in
      let from = simp to_z-of_z at c.place.ensures in
      let past = simp to_z-of_z at c.past.ensures in
      c.blacken.ensures.bits k
      ∙ ap (λ (b : Bool). bit c.args.row.now k || b)
      (within_width k c.args.shown.width _ _ (λ inside. rw (from k inside, past k inside) refl));
  len = c.blacken.ensures.len;
}
