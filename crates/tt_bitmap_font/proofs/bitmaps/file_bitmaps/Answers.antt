use Rattle.std.proofs.Common.{◌∙◌, ◌<◌}
use Rattle.std.specs.Prelude.{All}
use Rattle.std.proofs.lemmas.List.{length-map}
use Rattle.std.proofs.lemmas.Result.{err_from_is_err_and}
use Rattle.tt_metrics.specs.Metrics.{glyphs_of}
use Rattle.tt_bitmap_font.specs.Characters.{glyph_for, glyphs_for}
use Rattle.tt_bitmap_font.specs.FontFiles.{IsGlyphsDefect}
use Rattle.tt_bitmap_font.proofs.FileGlyphs.{file_sound, same_glyphs}
use Rattle.tt_bitmap_font.proofs.Files.{bitmaps_made, characters_refuse, characters_tell, list_refuses, list_tells, size_refuses}
use Rattle.tt_bitmap_font.proofs.bitmaps.file_bitmaps.Goals as goal

pub file_characters-requires : goal.file_characters-requires
file_characters-requires c = rw c.deref.ensures.value c.in_ok-ranges.ensures.codes

pub returns-in_err-characters-clause-exact : goal.returns-in_err-characters-clause-exact
returns-in_err-characters-clause-exact c =
    let p = err_from_is_err_and c.from_residual-in_err-characters.result c.from_residual-in_err-characters.ensures.1 in
    let gives = rw (c.cmap.ensures.exact, c.deref.ensures.value, c.in_ok-ranges.ensures.exact) at c.in_err-characters.ensures.exact in
    rw (p.1, p.2) (characters_refuse c.args.asked.now c.args.face.now c.in_err-characters.field-0.0 gives)

pub returns-in_err-characters-clause-defects : goal.returns-in_err-characters-clause-defects
returns-in_err-characters-clause-defects c =
    let p = err_from_is_err_and c.from_residual-in_err-characters.result c.from_residual-in_err-characters.ensures.1 in
    rw (p.1, p.2) (characters_tell (IsGlyphsDefect c.args.asked.now c.args.face.now) c.in_err-characters.field-0.0 _ c.in_err-characters.ensures.exact)

pub returns-in_err-list-clause-exact : goal.returns-in_err-list-clause-exact
returns-in_err-list-clause-exact c =
    let p = err_from_is_err_and c.from_residual-in_err-list.result c.from_residual-in_err-list.ensures.1 in
    let are = rw (c.cmap.ensures.exact, c.deref.ensures.value, c.in_ok-ranges.ensures.exact) at c.in_ok-characters.ensures.exact in
    let refused = rw (c.deref-3.ensures.value, c.in_ok-glyphs.ensures.exact, c.cmap-2.ensures.exact, c.deref-2.ensures.value) at c.in_err-list.ensures.exact in
    rw (p.1, p.2) (list_refuses c.args.asked.now c.args.face.now c.in_ok-characters.characters.items c.in_err-list.field-0.0 are refused)

pub returns-in_err-list-clause-defects : goal.returns-in_err-list-clause-defects
returns-in_err-list-clause-defects c =
    let p = err_from_is_err_and c.from_residual-in_err-list.result c.from_residual-in_err-list.ensures.1 in
    let a = c.args.asked.now in
    let face = c.args.face.now in
    let cs = c.in_ok-characters.characters.items in
    let are = rw (c.cmap.ensures.exact, c.deref.ensures.value, c.in_ok-ranges.ensures.exact) at c.in_ok-characters.ensures.exact in
    let known : All (λ g. g < glyphs_of face.metrics) (glyphs_for face.cmap cs) =
    rw (c.in_ok-glyphs.ensures.exact, c.cmap-2.ensures.glyphs, c.cmap-2.ensures.exact, c.deref-2.ensures.value) at c.in_ok-glyphs.ensures.known in
    let tells = rw (c.deref-3.ensures.value, c.in_ok-glyphs.ensures.exact, c.cmap-2.ensures.exact, c.deref-2.ensures.value) at c.in_err-list.ensures.defects in
    rw (p.1, p.2) (list_tells a face cs c.in_err-list.field-0.0 (same_glyphs a face cs are known) tells)

pub returns-in_err-test_size-clause-exact : goal.returns-in_err-test_size-clause-exact
returns-in_err-test_size-clause-exact c =
    let p = err_from_is_err_and c.from_residual-in_err-test_size.result c.from_residual-in_err-test_size.ensures.1 in
    let are = rw (c.cmap.ensures.exact, c.deref.ensures.value, c.in_ok-ranges.ensures.exact) at c.in_ok-characters.ensures.exact in
    let made = rw (c.deref-3.ensures.value, c.in_ok-glyphs.ensures.exact, c.cmap-2.ensures.exact, c.deref-2.ensures.value) at c.in_ok-list.ensures.exact in
    rw (p.1, p.2) (size_refuses c.args.asked.now c.args.face.now c.in_ok-characters.characters.items c.in_ok-list.list c.in_err-test_size.field-0.0 are made c.in_err-test_size.ensures.exact)

pub returns-clause-exact : goal.returns-clause-exact
returns-clause-exact c =
    let are = rw (c.cmap.ensures.exact, c.deref.ensures.value, c.in_ok-ranges.ensures.exact) at c.in_ok-characters.ensures.exact in
    let made = rw (c.deref-3.ensures.value, c.in_ok-glyphs.ensures.exact, c.cmap-2.ensures.exact, c.deref-2.ensures.value) at c.in_ok-list.ensures.exact in
    bitmaps_made c.args.asked.now c.args.face.now c.in_ok-characters.characters.items c.in_ok-list.list are made c.in_ok-test_size.ensures.exact

pub returns-clause-defects : goal.returns-clause-defects
returns-clause-defects c =
    let a = c.args.asked.now in
    let face = c.args.face.now in
    let cs = c.in_ok-characters.characters.items in
    let are = rw (c.cmap.ensures.exact, c.deref.ensures.value, c.in_ok-ranges.ensures.exact) at c.in_ok-characters.ensures.exact in
    let known : All (λ g. g < glyphs_of face.metrics) (glyphs_for face.cmap cs) =
    rw (c.in_ok-glyphs.ensures.exact, c.cmap-2.ensures.glyphs, c.cmap-2.ensures.exact, c.deref-2.ensures.value) at c.in_ok-glyphs.ensures.known in
    let none = rw (c.deref-3.ensures.value, c.in_ok-glyphs.ensures.exact, c.cmap-2.ensures.exact, c.deref-2.ensures.value) at c.in_ok-list.ensures.defects in
    let made = rw (c.deref-3.ensures.value, c.in_ok-glyphs.ensures.exact, c.cmap-2.ensures.exact, c.deref-2.ensures.value) at c.in_ok-list.ensures.exact in
    file_sound a face cs c.in_ok-list.list (same_glyphs a face cs are known) made none

pub returns-clause-count : goal.returns-clause-count
returns-clause-count c =
    c.in_ok-list.ensures.entries
    ∙ rw (c.deref-3.ensures.value, c.in_ok-glyphs.ensures.exact, c.cmap-2.ensures.exact, c.deref-2.ensures.value)
    (length-map c.in_ok-characters.characters.items (glyph_for c.args.face.now.cmap))
