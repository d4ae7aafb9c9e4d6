use Rattle.std.proofs.Common.{◌≡◌, ◌∙◌, pos, ◌&&◌, ◌<◌, length, take, refl, get_or, rules, SFits, w64}
use Rattle.std.specs.Ordering.{int_eq}
use Rattle.std.proofs.lemmas.Int.{to_z-of_z}
use Rattle.std.proofs.lemmas.List.{take_all}
use Rattle.tt_scan_dropouts.specs.Passes.{has_pixel}
use Rattle.tt_scan_dropouts.specs.Windows.{is_black_in}
use Rattle.tt_scan_dropouts.specs.declared.pixel.Pixel.{Pixel}
use Rattle.tt_scan_dropouts.proofs.Places.{or_false, sym_or, one_more_pixel}
use Rattle.tt_scan_dropouts.proofs.bitmap.Bitmap.blacken_all.Goals as goal

pub loop-pixel-init : goal.loop-pixel-init
loop-pixel-init c = record { window = refl; black = λ k j. or_false (is_black_in c.args.self.now k j) }

pub loop-pixel-preserved : goal.loop-pixel-preserved
loop-pixel-preserved c =
    let so_far = c.loop-pixel.invariant in
    let i = c.loop-pixel.pixel-index in
    let ps = c.args.pixels.now in
    let d : Pixel = record { column = pos 0; row = pos 0 } in
    let below : i < length ps = c.loop-pixel-test.true in
    let column : SFits w64 (get_or ps i d).column = search rules in
    let row : SFits w64 (get_or ps i d).row = search rules in
    let more = simp to_z-of_z at c.blacken.ensures.black in
    record {
      window = c.blacken.ensures.window ∙ so_far.window;
      black = λ k j. more k j ∙ rw (so_far.black k j, one_more_pixel ps i d k j below)
          (sym_or (is_black_in c.args.self.now k j) (has_pixel (take i ps) k j)
          (int_eq (get_or ps i d).column k && int_eq (get_or ps i d).row j));
    }

pub returns-clause-window : goal.returns-clause-window
returns-clause-window c = c.loop-pixel.invariant.window

pub returns-clause-black : goal.returns-clause-black
returns-clause-black c =
    let all : take c.loop-pixel.pixel-index c.args.pixels.now ≡ c.args.pixels.now =
    take_all c.loop-pixel.pixel-index c.args.pixels.now c.loop-pixel-test.false in
    λ k j. rw all at (c.loop-pixel.invariant.black k j)
