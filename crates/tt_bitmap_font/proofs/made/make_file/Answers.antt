use Rattle.std.proofs.Common.{arith}
use Rattle.tt_bitmap_font.specs.Bitmaps.{characters_by}
use Rattle.tt_bitmap_font.proofs.Fitting.{characters_counted, characters_fit, characters_limited, characters_within}
use Rattle.tt_bitmap_font.proofs.made.make_file.Goals as goal

pub bdf_file-requires-clause-some : goal.bdf_file-requires-clause-some
bdf_file-requires-clause-some c =
    let count = characters_counted c.args.face.now c.args.characters.now c.args.list.entries c.requires.count in
    rw (c.deref.ensures.value, c.in_ok-made.ensures, c.entries-entries.ensures) (omega (arith, count, c.requires.some))

pub bdf_file-requires-clause-few : goal.bdf_file-requires-clause-few
bdf_file-requires-clause-few c =
    let count = characters_counted c.args.face.now c.args.characters.now c.args.list.entries c.requires.count in
    rw (c.deref.ensures.value, c.in_ok-made.ensures, c.entries-entries.ensures) (omega (arith, count, c.requires.few))

pub bdf_file-requires-clause-limits : goal.bdf_file-requires-clause-limits
bdf_file-requires-clause-limits c =
    let w = c.args.list.wanted in
    let fit = characters_fit c.args.face.now w c.args.characters.now c.args.list.entries c.requires.fits in
    rw (c.deref.ensures.value, c.in_ok-made.ensures, c.entries-entries.ensures)
    (characters_limited w (characters_by c.args.face.now c.args.characters.now c.args.list.entries) fit)

pub bdf_file-requires-clause-within : goal.bdf_file-requires-clause-within
bdf_file-requires-clause-within c =
    let w = c.args.list.wanted in
    let fit = characters_fit c.args.face.now w c.args.characters.now c.args.list.entries c.requires.fits in
    rw (c.deref.ensures.value, c.deref-2.ensures.value, c.in_ok-made.ensures, c.entries-entries.ensures, c.in_ok-rows.ensures.count)
    (characters_within w (characters_by c.args.face.now c.args.characters.now c.args.list.entries) fit)

pub returns-clause-text : goal.returns-clause-text
returns-clause-text c =
    rw (c.deref.ensures.value, c.deref-2.ensures.value, c.in_ok-made.ensures, c.entries-entries.ensures, c.in_ok-rows.ensures.exact, c.in_ok-facts.ensures.facts)
    at c.in_ok-text.ensures

pub returns-clause-unfitted : goal.returns-clause-unfitted
returns-clause-unfitted c = rw c.entries-entries.ensures at c.in_ok-unfitted.ensures
