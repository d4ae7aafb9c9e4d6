use Rattle.std.proofs.Common.{◌∙◌, ◌||◌, ap, Bool, SFits, w64, rules}
use Rattle.std.proofs.lemmas.Bool.{false≢true}
use Rattle.std.proofs.lemmas.Int.{to_z-of_z}
use Rattle.tt_bitmap.specs.Bitmaps.{is_black}
use Rattle.tt_glyph_pixels.proofs.Stamps.{stamp_line}
use Rattle.tt_glyph_pixels.proofs.rows.blacken_stamp.Goals as goal

pub blacken_word-requires-clause-columns : goal.blacken_word-requires-clause-columns
blacken_word-requires-clause-columns c = c.in-Some.stamp.narrow

pub blacken_word-requires-clause-free : goal.blacken_word-requires-clause-free
blacken_word-requires-clause-free c = c.in-Some.stamp.free

pub returns-in-Some-clause-black : goal.returns-in-Some-clause-black
returns-in-Some-clause-black c = λ done k j.
    let s = c.in-Some.stamp in
    let line : SFits w64 c.args.line = c.ranges.line in
    let low : SFits w64 s.low = search rules in
    let black = simp to_z-of_z at c.blacken_word.ensures.black in
    black done k j
    ∙ ap (λ (x : Bool). is_black c.args.bitmap.now k j || x)
    (stamp_line c.args.sweep.now.spans c.args.line s.low s.columns s.word k j s.narrow s.free c.in-Some.ensures)

pub returns-in-None-clause-black : goal.returns-in-None-clause-black
returns-in-None-clause-black c = λ no. absurd (false≢true no)
