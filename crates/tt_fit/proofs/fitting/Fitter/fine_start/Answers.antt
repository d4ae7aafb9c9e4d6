use Rattle.std.proofs.Common.{◌≡◌, ◌∙◌, length, Ok, Err, ap, rules, SFits, w16}
use Rattle.std.proofs.lemmas.Int.{to_z-of_z}
use Rattle.std.proofs.lemmas.Result.{err_from_is_err_and}
use Rattle.tt_fit.specs.Fitting.{default_units, ends_of, fine_phantom, simple_start, size_of, units_at, with_hinting}
use Rattle.tt_fit.specs.Views.{simple_view}
use Rattle.tt_fit_hinting.specs.Views.{hinting_view}
use Rattle.tt_fit_outline.specs.Views.{phantom_units_view, phantom_view}
use Rattle.tt_fit_variation.specs.Views.{deltas_view, glyph_view}
use Rattle.tt_fit.proofs.Variations.{fine_refused, fine_same}
use Rattle.tt_fit.proofs.fitting.Fitter.fine_start.Goals as goal

pub returns-in_err-outline : goal.returns-in_err-outline
returns-in_err-outline c =
    let s = with_hinting c.args.self.now (hinting_view c.args.hinting.now) in
    let d = simple_view c.args.data.now in
    let v = glyph_view c.args.deltas.now in
    let u = phantom_units_view c.in_ok-units.units in
    let f = c.in_err-outline.field-0.0 in
    let scale : c.size.result.scale ≡ (size_of s).scale = ap (λ z. z.scale) c.size.ensures in
    let tables : c.self.inside.glyf ≡ c.args.self.now.tables = ap (λ z. z.tables) c.self.view_is in
    let x_min : SFits w16 c.args.data.now.x_min = search rules in
    let ends : phantom_units_view c.default_units-ends.result ≡ default_units s d.x_min c.args.g =
    simp to_z-of_z at c.default_units-ends.ensures in
    let of_units : units_at s d.x_min c.args.g (length d.points) v ≡ Ok u =
    rw (ends, c.ends-moves.ensures, c.start.ensures, tables, c.requires.count) at c.in_ok-units.ensures.exact in
    let moves : deltas_view c.ends-moves.result ≡ ends_of s (length d.points) v =
    rw c.requires.count at c.ends-moves.ensures in
    let phantom : phantom_view c.in_pixels-phantom.result ≡ fine_phantom s c.args.g d v =
    c.in_pixels-phantom.ensures ∙ fine_same _ _ _ _ _ _ scale ends moves in
    let fails : simple_start s (fine_phantom s c.args.g d v) c.args.g d.code ≡ Err f =
    rw phantom at c.in_err-outline.ensures.exact in
    let e = err_from_is_err_and c.from_residual-in_err-outline.result c.from_residual-in_err-outline.ensures.1 in
    record { exact = rw (e.1, e.2) (fine_refused s c.args.g d v u f of_units fails) }
