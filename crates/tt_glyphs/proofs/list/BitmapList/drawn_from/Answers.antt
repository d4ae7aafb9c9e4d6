use Rattle.std.proofs.Common.{◌∙◌, refl}
use Rattle.std.proofs.lemmas.List.{length-map}
use Rattle.std.proofs.lemmas.Result.{err_from_is_err_and}
use Rattle.tt_picture.specs.Distinct.{distinct}
use Rattle.tt_strike.specs.Work.{edges_limited, line_fitter}
use Rattle.tt_glyphs.specs.Entries.{known}
use Rattle.tt_glyphs.specs.Listed.{entry_by}
use Rattle.tt_glyphs.specs.Tried.{tried_chords, tried_crossings}
use Rattle.tt_glyphs.proofs.ListBegun.{charging_tells}
use Rattle.tt_glyphs.proofs.ListDrawn.{bitmaps_are, edges_stop, entries_fit, sources, tested_is}
use Rattle.tt_glyphs.proofs.list.BitmapList.drawn_from.Goals as goal

pub drawn_of-requires-clause-known : goal.drawn_of-requires-clause-known
drawn_of-requires-clause-known c = c.requires.tried.3.known

pub drawn_of-requires-clause-ruled : goal.drawn_of-requires-clause-ruled
drawn_of-requires-clause-ruled c = c.requires.tried.3.ruled

pub returns-in_err-drawn-clause-exact : goal.returns-in_err-drawn-clause-exact
returns-in_err-drawn-clause-exact c = λ face a s is same.
    let p = err_from_is_err_and c.from_residual.result c.from_residual.ensures.1 in
    rw (p.1, p.2, ← same) (edges_stop a.fit a.glyphs s c.in_err-drawn.field-0.0
    (rw (tested_is face a s c.args.list is) at c.in_err-drawn.ensures.exact))

pub returns-in_err-drawn-clause-font : goal.returns-in_err-drawn-clause-font
returns-in_err-drawn-clause-font c =
    let l = c.args.list in
    let p = err_from_is_err_and c.from_residual.result c.from_residual.ensures.1 in
    rw (p.1, p.2) (charging_tells (λ _. ⊥)
    (edges_limited l.source.fit l.left (tried_chords l.tried.items) (tried_crossings l.tried.items)) c.in_err-drawn.field-0.0
    c.in_err-drawn.ensures.exact)

pub of-requires-clause-few : goal.of-requires-clause-few
of-requires-clause-few c = rw (← c.requires.tried.4) c.requires.tried.3.few

pub of-requires-clause-distinct : goal.of-requires-clause-distinct
of-requires-clause-distinct c =
    let is = c.requires.tried.3 in
    rw (c.deref.ensures.value, is.room, ← c.requires.tried.4) (c.in_ok-drawn.ensures.numbers ∙ is.numbers)

pub of-requires-clause-places : goal.of-requires-clause-places
of-requires-clause-places c = rw (c.deref.ensures.value, c.in_ok-drawn.ensures.numbers) c.requires.tried.3.places

pub returns-clause-exact : goal.returns-clause-exact
returns-clause-exact c = λ face a s is same.
    let gs = a.glyphs in
    let places = c.args.list.places.items in
    let ds = c.in_ok-drawn.drawn.items in
    let maker = line_fitter s (known s gs) in
    let numbers = c.in_ok-drawn.ensures.numbers ∙ is.numbers in
    let drawn = rw is.fit at (c.in_ok-drawn.ensures.drawn maker (sources c.args.list.source s (known s gs) is.source) is.tried) in
    let edges = rw (tested_is face a s c.args.list is) at c.in_ok-drawn.ensures.exact in
    let of = c.in_ok-of.ensures in
    let made = bitmaps_are a.fit s gs places ds c.in_ok-of.field-0 (record { numbers = numbers; drawn = drawn })
    (rw c.in_ok-drawn.ensures.numbers is.places) is.room (rw same of.entries) of.wanted of.rows in
    rw (← same, edges, made) refl

pub returns-clause-entries : goal.returns-clause-entries
returns-clause-entries c =
    rw c.in_ok-of.ensures.entries (length-map c.args.glyphs.now (entry_by c.in_ok-drawn.drawn.items (distinct c.args.glyphs.now)))

pub returns-clause-fits : goal.returns-clause-fits
returns-clause-fits c =
    let is = c.requires.tried.3 in
    let numbers = rw (c.requires.tried.4, ← is.room) at (c.in_ok-drawn.ensures.numbers ∙ is.numbers) in
    rw (c.in_ok-of.ensures.wanted, c.in_ok-of.ensures.entries)
    (entries_fit c.args.list.places.items c.args.glyphs.now c.in_ok-drawn.drawn.items
    (rw c.in_ok-drawn.ensures.numbers is.places) numbers c.in_ok-drawn.ensures.fits)
