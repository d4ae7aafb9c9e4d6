use Rattle.std.proofs.Common.{◌∙◌, ◌<◌, length, arith}
use Rattle.std.proofs.lemmas.List.{length-map}
use Rattle.tt_glyphs.specs.declared.drawing.DrawnGlyph.{DrawnGlyph}
use Rattle.tt_glyphs.proofs.Entered.{seated_entry, unseated_entry}
use Rattle.tt_glyphs.proofs.ToldAmong.{unseated}
use Rattle.tt_glyphs.proofs.entries.next_entry.Goals as goal

pub returns-in-Some : goal.returns-in-Some
returns-in-Some c = λ gs i next.
    let places = c.args.places.now in
    let here = c.in-Some.ensures.known in
    let few = c.requires.places.within c.args.glyph in
    let many = length-map c.args.drawn.now (λ (d : DrawnGlyph). d.number) in
    let below : c.in-Some.i < length c.args.drawn.now = omega (arith, few, here.1, many) in
    let at = c.requires.starts c.in-Some.i below in
    seated_entry places c.args.drawn.now gs c.in-Some.i _ c.args.glyph _ c.requires.places next.drawn
    here.0 here.1 at

pub returns-in-None : goal.returns-in-None
returns-in-None c = λ gs i next.
    c.unknown_entry.ensures ∙ unseated_entry c.args.places.now c.args.drawn.now gs i c.args.entries.now c.args.glyph c.args.end next
    (unseated c.args.places.now c.args.drawn.now c.args.glyph c.requires.places c.in-None.ensures.unknown)
