use Rattle.std.proofs.Common.{◌∙◌}
use Rattle.tt_bitmap.specs.Bitmaps.{is_black}
use Rattle.tt_glyph_pixels.proofs.Boxed.{all_inked, all_shown, rules_boxed}
use Rattle.tt_glyph_pixels.proofs.Lines.{same_box}
use Rattle.tt_glyph_pixels.proofs.pixels.pixels_of.Goals as goal

pub window_within-requires : goal.window_within-requires
window_within-requires c = c.requires.boxed.0.fits

pub blacken_filled-requires-clause-has : goal.blacken_filled-requires-clause-has
blacken_filled-requires-clause-has c = λ k j.
    same_box c.blacken_inked.new.bitmap c.in_ok-bitmap.bitmap c.blacken_inked.new.bitmap.words k j c.in_ok-blacken_inked.ensures.place
    ∙ c.in_ok-bitmap.ensures.has k j

pub blacken_filled-requires-clause-inked : goal.blacken_filled-requires-clause-inked
blacken_filled-requires-clause-inked c = λ k j.
    rw c.in_ok-blacken_inked.ensures.edges (all_inked c.args.extents c.args.filled c.args.tape.now.edges c.in-Some.window
    (is_black c.in_ok-bitmap.bitmap) (is_black c.blacken_inked.new.bitmap) c.requires.boxed.0.held c.requires.closed
    c.in-Some.ensures.exact c.in_ok-bitmap.ensures.white c.in_ok-blacken_inked.ensures.black k j)

pub blacken_filled-requires-clause-few : goal.blacken_filled-requires-clause-few
blacken_filled-requires-clause-few c = rw c.in_ok-blacken_inked.ensures.edges c.requires.few

pub blacken_filled-requires-clause-boxed : goal.blacken_filled-requires-clause-boxed
blacken_filled-requires-clause-boxed c =
    rw c.in_ok-blacken_inked.ensures.edges
    (rules_boxed c.args.extents c.args.filled c.args.tape.now.edges c.requires.boxed.0 c.requires.boxed.1)

pub blacken_filled-requires-clause-ends : goal.blacken_filled-requires-clause-ends
blacken_filled-requires-clause-ends c = rw c.in_ok-blacken_inked.ensures.edges c.requires.ends

pub blacken_filled-requires-clause-round : goal.blacken_filled-requires-clause-round
blacken_filled-requires-clause-round c = rw c.in_ok-blacken_inked.ensures.edges c.requires.round

pub returns-clause-exact : goal.returns-clause-exact
returns-clause-exact c =
    let last = rw c.in_ok-blacken_inked.ensures.edges at c.in_ok-blacken_filled.ensures.black in
    all_shown c.args.extents c.args.filled c.args.tape.now.edges c.args.ends.now c.in-Some.window (is_black c.in_ok-bitmap.bitmap)
    (is_black c.blacken_inked.new.bitmap) (is_black c.blacken_filled.new.bitmap) c.requires.boxed.0.held c.requires.boxed.1
    c.requires.ends c.requires.closed c.in-Some.ensures.exact c.in_ok-bitmap.ensures.white c.in_ok-blacken_inked.ensures.black last
