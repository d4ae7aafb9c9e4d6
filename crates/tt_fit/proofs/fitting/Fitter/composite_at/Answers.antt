use Rattle.std.proofs.Common.{◌≡◌, length, Ok, refl, rules, SFits, w16}
use Rattle.std.proofs.lemmas.Int.{to_z-of_z}
use Rattle.tt_fit.specs.Fitting.{whole_start, with_hinting}
use Rattle.tt_fit.specs.Views.{composite_view}
use Rattle.tt_fit_hinting.specs.Views.{hinting_view}
use Rattle.tt_fit_outline.specs.Views.{outline_of}
use Rattle.tt_fit_variation.specs.Glyph.{composite_deltas}
use Rattle.tt_fit_variation.specs.Records.{moved_records}
use Rattle.tt_fit_variation.specs.Views.{glyph_view}
use Rattle.tt_fit.proofs.Variations.{composite_done}
use Rattle.tt_fit.proofs.fitting.Fitter.composite_at.Goals as goal

pub returns-clause-exact : goal.returns-clause-exact
returns-clause-exact c =
    let i = c.args.instance.now in
    let s = with_hinting c.args.self.now (hinting_view c.args.hinting.now) in
    let d = composite_view c.args.data in
    let v = glyph_view c.in_ok-deltas.deltas in
    let deltas : composite_deltas i.gvar i.coordinates c.args.g d.records ≡ Ok v =
    rw (c.variation.ensures.gvar, c.variation.ensures.coordinates, c.deref.ensures.value)
    at c.in_ok-deltas.ensures.exact in
    let x_min : SFits w16 c.args.data.x_min = search rules in
    let starts : whole_start s d.x_min c.args.g (length d.records) v ≡ Ok (outline_of c.in_ok-start.start) =
    rw (c.in_ok-deltas.ensures.count, c.deref.ensures.value) at (simp to_z-of_z at c.in_ok-start.ensures.exact) in
    let moves : moved_records d.records v.xs v.ys ≡ Ok c.in_ok-records.records.items =
    rw (c.deref-2.ensures.value, c.deref-3.ensures.value, c.deref-4.ensures.value)
    at c.in_ok-records.ensures.exact in
    let done = composite_done i s c.args.g d v (outline_of c.in_ok-start.start) c.in_ok-records.records.items deltas
    starts moves in
    rw (done, c.composite_begun.ensures.exact) refl

pub returns-clause-known : goal.returns-clause-known
returns-clause-known c =
    rw c.composite_begun.ensures.records
    (c.in_ok-records.ensures.known c.args.self.now.tables.glyphs (rw c.deref-2.ensures.value c.requires.components))
