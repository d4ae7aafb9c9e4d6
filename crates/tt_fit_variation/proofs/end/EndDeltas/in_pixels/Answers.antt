use Rattle.std.proofs.Common.{SFits, w32, w64, rules}
use Rattle.std.proofs.lemmas.Int.{to_z-of_z}
use Rattle.tt_fit_outline.specs.Views.{phantom_units_view}
use Rattle.tt_fit_variation.specs.Views.{deltas_view}
use Rattle.tt_fit_variation.proofs.EndsMade.{ascent-within, descent-within, right-within}
use Rattle.tt_fit_variation.proofs.end.EndDeltas.in_pixels.Goals as goal

pub fine_end-requires-2-clause-near : goal.fine_end-requires-2-clause-near
fine_end-requires-2-clause-near c =
    let v : SFits w32 c.args.ends.right = search rules in
    let d : SFits w64 c.args.self.right = search rules in
    simp to_z-of_z (right-within (phantom_units_view c.args.ends) (deltas_view c.args.self) c.requires.near)

pub fine_end-requires-3-clause-near : goal.fine_end-requires-3-clause-near
fine_end-requires-3-clause-near c =
    let v : SFits w32 c.args.ends.ascent = search rules in
    let d : SFits w64 c.args.self.ascent = search rules in
    simp to_z-of_z (ascent-within (phantom_units_view c.args.ends) (deltas_view c.args.self) c.requires.near)

pub fine_end-requires-4-clause-near : goal.fine_end-requires-4-clause-near
fine_end-requires-4-clause-near c =
    let v : SFits w32 c.args.ends.descent = search rules in
    let d : SFits w64 c.args.self.descent = search rules in
    simp to_z-of_z (descent-within (phantom_units_view c.args.ends) (deltas_view c.args.self) c.requires.near)
