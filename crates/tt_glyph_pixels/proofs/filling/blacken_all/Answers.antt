use Rattle.std.proofs.Common.{◌≡◌, ◌∙◌, ◌<◌, ◌&&◌, ◌||◌, ap₂, get_or, length, pos, take, refl, SFits, w64, rules}
use Rattle.std.specs.Ordering.{int_eq}
use Rattle.std.proofs.lemmas.Int.{to_z-of_z}
use Rattle.std.proofs.lemmas.List.{take_all}
use Rattle.tt_bitmap.specs.Bitmaps.{has, is_black}
use Rattle.tt_scan_dropouts.specs.declared.pixel.Pixel.{Pixel}
use Rattle.tt_glyph_pixels.proofs.Lines.{no_more, one_pixel_more, same_box, same_place}
use Rattle.tt_glyph_pixels.proofs.filling.blacken_all.Goals as goal

pub loop-pixel-init : goal.loop-pixel-init
loop-pixel-init c = record { black = λ k j. no_more (is_black c.args.bitmap.now k j) (has c.args.bitmap.now k j); place = refl }

pub loop-pixel-preserved : goal.loop-pixel-preserved
loop-pixel-preserved c =
    let so_far = c.loop-pixel.invariant in
    let i = c.loop-pixel.pixel-index in
    let ps = c.args.pixels.now in
    let d : Pixel = record { column = pos 0; row = pos 0 } in
    let p = get_or ps i d in
    let below : i < length ps = c.loop-pixel-test.true in
    let column : SFits w64 p.column = search rules in
    let row : SFits w64 p.row = search rules in
    let old = c.args.bitmap.now in
    let mid = c.loop-pixel.bitmap in
    let more = simp to_z-of_z at c.blacken.ensures.black in
    record {
      black = λ k j. more k j
          ∙ ap₂ (λ a b. a || (b && (int_eq k p.column && int_eq j p.row))) (so_far.black k j) (same_box mid old mid.words k j so_far.place)
          ∙ one_pixel_more ps i d (is_black old k j) (has old k j) k j below;
      place = same_place c.blacken.new.self mid old c.blacken.ensures.place so_far.place;
    }

pub returns-clause-black : goal.returns-clause-black
returns-clause-black c =
    let all : take c.loop-pixel.pixel-index c.args.pixels.now ≡ c.args.pixels.now =
    take_all c.loop-pixel.pixel-index c.args.pixels.now c.loop-pixel-test.false in
    λ k j. rw all at (c.loop-pixel.invariant.black k j)

pub returns-clause-place : goal.returns-clause-place
returns-clause-place c = c.loop-pixel.invariant.place
