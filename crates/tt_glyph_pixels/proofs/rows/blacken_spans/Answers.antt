use Rattle.std.proofs.Common.{◌≡◌, ◌∙◌, ◌<◌, ◌&&◌, ◌||◌, ap₂, get_or, length, pos, take, refl, SFits, w64, rules}
use Rattle.std.specs.Ordering.{int_eq}
use Rattle.std.specs.Prelude.{int_le}
use Rattle.std.proofs.lemmas.Int.{to_z-of_z}
use Rattle.std.proofs.lemmas.List.{take_all}
use Rattle.tt_bitmap.specs.Bitmaps.{has, is_black}
use Rattle.tt_scan_edges.specs.declared.mark.Span.{Span}
use Rattle.tt_glyph_pixels.proofs.Lines.{no_span, one_span_more, same_box, same_place}
use Rattle.tt_glyph_pixels.proofs.rows.blacken_spans.Goals as goal

pub loop-span-init : goal.loop-span-init
loop-span-init c =
    let line : SFits w64 c.args.line = c.ranges.line in
    simp to_z-of_z (record {
      black = λ k j. no_span (is_black c.args.bitmap.now k j) (has c.args.bitmap.now k j) (int_eq j c.args.line);
      place = refl;
    })

pub loop-span-preserved : goal.loop-span-preserved
loop-span-preserved c =
    let line : SFits w64 c.args.line = c.ranges.line in
    let so_far = simp to_z-of_z at c.loop-span.invariant in
    let i = c.loop-span.span-index in
    let ss = c.args.spans.now in
    let d : Span = record { first = pos 0; last = pos 0 } in
    let s = get_or ss i d in
    let below : i < length ss = c.loop-span-test.true in
    let first : SFits w64 s.first = search rules in
    let last : SFits w64 s.last = search rules in
    let old = c.args.bitmap.now in
    let mid = c.loop-span.bitmap in
    let more = simp to_z-of_z at c.blacken_span.ensures.black in
    simp to_z-of_z (record {
      black = λ k j. more k j
          ∙ ap₂ (λ a b. a || (b && (int_eq j c.args.line && (int_le s.first k && int_le k s.last)))) (so_far.black k j)
          (same_box mid old mid.words k j so_far.place)
          ∙ one_span_more ss i d (is_black old k j) (has old k j) (int_eq j c.args.line) k below;
      place = same_place c.blacken_span.new.self mid old c.blacken_span.ensures.place so_far.place;
    })

pub returns-clause-black : goal.returns-clause-black
returns-clause-black c =
    let line : SFits w64 c.args.line = c.ranges.line in
    let all : take c.loop-span.span-index c.args.spans.now ≡ c.args.spans.now =
    take_all c.loop-span.span-index c.args.spans.now c.loop-span-test.false in
    let so_far = simp to_z-of_z at c.loop-span.invariant in
    λ k j. rw all at (so_far.black k j)

pub returns-clause-place : goal.returns-clause-place
returns-clause-place c =
    let line : SFits w64 c.args.line = c.ranges.line in
    let so_far = simp to_z-of_z at c.loop-span.invariant in
    so_far.place
