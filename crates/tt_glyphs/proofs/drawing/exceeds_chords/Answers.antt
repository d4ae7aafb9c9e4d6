use Rattle.std.proofs.Common.{◌<◌, inl, arith}
use Rattle.tt_fit.specs.outline.Views.{outline_of}
use Rattle.tt_picture.specs.Steps.{chords_of}
use Rattle.tt_glyphs.proofs.drawing.exceeds_chords.Goals as goal

pub returns-in-Some : goal.returns-in-Some
returns-in-Some c = λ past.
    let i = c.ruled.inside in
    let has = c.has_chords_within.ensures in
    let over : c.in-Some.limits.chords < chords_of i.rule (outline_of i.outline) = grind (arith, has, past) in
    rw (c.in-Some.is, ← c.ruled.view_is) (inl over)
