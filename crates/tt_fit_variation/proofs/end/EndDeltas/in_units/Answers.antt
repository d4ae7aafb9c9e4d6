use Rattle.std.proofs.Common.{◌∙◌, SFits, w32, w64, rules}
use Rattle.std.proofs.lemmas.Int.{to_z-of_z}
use Rattle.std.proofs.lemmas.Result.{err_from_is_err_and}
use Rattle.tt_fit_outline.specs.Views.{phantom_units_view}
use Rattle.tt_fit_variation.specs.Views.{deltas_view}
use Rattle.tt_fit_variation.proofs.EndsMade.{all-ends, ascent-out, descent-out, ends-made, right-out}
use Rattle.tt_fit_variation.proofs.end.EndDeltas.in_units.Goals as goal

pub returns-in_err-right-clause-exact : goal.returns-in_err-right-clause-exact
returns-in_err-right-clause-exact c =
    let left_v : SFits w32 c.args.ends.left = search rules in
    let left_d : SFits w64 c.args.self.left = search rules in
    let left_m : SFits w64 c.moved_end.result = search rules in
    let left_is = simp to_z-of_z at c.moved_end.ensures.exact in
    let left_ok = simp to_z-of_z at c.in_ok-left.ensures.ok in
    let left = rw left_is at left_ok.1 in
    let right_v : SFits w32 c.args.ends.right = search rules in
    let right_d : SFits w64 c.args.self.right = search rules in
    let right_m : SFits w64 c.moved_end-2.result = search rules in
    let right_is = simp to_z-of_z at c.moved_end-2.ensures.exact in
    let right_err = simp to_z-of_z at c.in_err-right.ensures.err in
    let right = rw right_is at right_err.1 in
    let p = err_from_is_err_and c.from_residual-in_err-right.result c.from_residual-in_err-right.ensures.1 in
    rw (p.1, p.2, right_err.0) (right-out c.args.at (phantom_units_view c.args.ends) (deltas_view c.args.self) left right)

pub returns-in_err-ascent-clause-exact : goal.returns-in_err-ascent-clause-exact
returns-in_err-ascent-clause-exact c =
    let left_v : SFits w32 c.args.ends.left = search rules in
    let left_d : SFits w64 c.args.self.left = search rules in
    let left_m : SFits w64 c.moved_end.result = search rules in
    let left_is = simp to_z-of_z at c.moved_end.ensures.exact in
    let left_ok = simp to_z-of_z at c.in_ok-left.ensures.ok in
    let left = rw left_is at left_ok.1 in
    let right_v : SFits w32 c.args.ends.right = search rules in
    let right_d : SFits w64 c.args.self.right = search rules in
    let right_m : SFits w64 c.moved_end-2.result = search rules in
    let right_is = simp to_z-of_z at c.moved_end-2.ensures.exact in
    let right_ok = simp to_z-of_z at c.in_ok-right.ensures.ok in
    let right = rw right_is at right_ok.1 in
    let ascent_v : SFits w32 c.args.ends.ascent = search rules in
    let ascent_d : SFits w64 c.args.self.ascent = search rules in
    let ascent_m : SFits w64 c.moved_end-3.result = search rules in
    let ascent_is = simp to_z-of_z at c.moved_end-3.ensures.exact in
    let ascent_err = simp to_z-of_z at c.in_err-ascent.ensures.err in
    let ascent = rw ascent_is at ascent_err.1 in
    let p = err_from_is_err_and c.from_residual-in_err-ascent.result c.from_residual-in_err-ascent.ensures.1 in
    rw (p.1, p.2, ascent_err.0) (ascent-out c.args.at (phantom_units_view c.args.ends) (deltas_view c.args.self) left right ascent)

pub returns-in_err-descent-clause-exact : goal.returns-in_err-descent-clause-exact
returns-in_err-descent-clause-exact c =
    let left_v : SFits w32 c.args.ends.left = search rules in
    let left_d : SFits w64 c.args.self.left = search rules in
    let left_m : SFits w64 c.moved_end.result = search rules in
    let left_is = simp to_z-of_z at c.moved_end.ensures.exact in
    let left_ok = simp to_z-of_z at c.in_ok-left.ensures.ok in
    let left = rw left_is at left_ok.1 in
    let right_v : SFits w32 c.args.ends.right = search rules in
    let right_d : SFits w64 c.args.self.right = search rules in
    let right_m : SFits w64 c.moved_end-2.result = search rules in
    let right_is = simp to_z-of_z at c.moved_end-2.ensures.exact in
    let right_ok = simp to_z-of_z at c.in_ok-right.ensures.ok in
    let right = rw right_is at right_ok.1 in
    let ascent_v : SFits w32 c.args.ends.ascent = search rules in
    let ascent_d : SFits w64 c.args.self.ascent = search rules in
    let ascent_m : SFits w64 c.moved_end-3.result = search rules in
    let ascent_is = simp to_z-of_z at c.moved_end-3.ensures.exact in
    let ascent_ok = simp to_z-of_z at c.in_ok-ascent.ensures.ok in
    let ascent = rw ascent_is at ascent_ok.1 in
    let descent_v : SFits w32 c.args.ends.descent = search rules in
    let descent_d : SFits w64 c.args.self.descent = search rules in
    let descent_m : SFits w64 c.moved_end-4.result = search rules in
    let descent_is = simp to_z-of_z at c.moved_end-4.ensures.exact in
    let descent_err = simp to_z-of_z at c.in_err-descent.ensures.err in
    let descent = rw descent_is at descent_err.1 in
    let p = err_from_is_err_and c.from_residual-in_err-descent.result c.from_residual-in_err-descent.ensures.1 in
    rw (p.1, p.2, descent_err.0) (descent-out c.args.at (phantom_units_view c.args.ends) (deltas_view c.args.self) left right ascent descent)

pub returns-clause-exact : goal.returns-clause-exact
returns-clause-exact c =
    let left_v : SFits w32 c.args.ends.left = search rules in
    let left_d : SFits w64 c.args.self.left = search rules in
    let left_m : SFits w64 c.moved_end.result = search rules in
    let left_is = simp to_z-of_z at c.moved_end.ensures.exact in
    let left_ok = simp to_z-of_z at c.in_ok-left.ensures.ok in
    let left = rw left_is at left_ok.1 in
    let right_v : SFits w32 c.args.ends.right = search rules in
    let right_d : SFits w64 c.args.self.right = search rules in
    let right_m : SFits w64 c.moved_end-2.result = search rules in
    let right_is = simp to_z-of_z at c.moved_end-2.ensures.exact in
    let right_ok = simp to_z-of_z at c.in_ok-right.ensures.ok in
    let right = rw right_is at right_ok.1 in
    let ascent_v : SFits w32 c.args.ends.ascent = search rules in
    let ascent_d : SFits w64 c.args.self.ascent = search rules in
    let ascent_m : SFits w64 c.moved_end-3.result = search rules in
    let ascent_is = simp to_z-of_z at c.moved_end-3.ensures.exact in
    let ascent_ok = simp to_z-of_z at c.in_ok-ascent.ensures.ok in
    let ascent = rw ascent_is at ascent_ok.1 in
    let descent_v : SFits w32 c.args.ends.descent = search rules in
    let descent_d : SFits w64 c.args.self.descent = search rules in
    let descent_m : SFits w64 c.moved_end-4.result = search rules in
    let descent_is = simp to_z-of_z at c.moved_end-4.ensures.exact in
    let descent_ok = simp to_z-of_z at c.in_ok-descent.ensures.ok in
    let descent = rw descent_is at descent_ok.1 in
    let left_w : SFits w32 c.in_ok-left.left = search rules in
    let left_value = left_ok.0 ∙ left_is in
    let right_w : SFits w32 c.in_ok-right.right = search rules in
    let right_value = right_ok.0 ∙ right_is in
    let ascent_w : SFits w32 c.in_ok-ascent.ascent = search rules in
    let ascent_value = ascent_ok.0 ∙ ascent_is in
    let descent_w : SFits w32 c.in_ok-descent.descent = search rules in
    let descent_value = descent_ok.0 ∙ descent_is in
    let p = phantom_units_view c.args.ends in
    let d = deltas_view c.args.self in
    simp to_z-of_z (rw (left_value, right_value, ascent_value, descent_value) (ends-made c.args.at p d (all-ends p d left right ascent descent)))

pub returns-clause-sound : goal.returns-clause-sound
returns-clause-sound c =
    let left_v : SFits w32 c.args.ends.left = search rules in
    let left_d : SFits w64 c.args.self.left = search rules in
    let left_m : SFits w64 c.moved_end.result = search rules in
    let left_is = simp to_z-of_z at c.moved_end.ensures.exact in
    let left_ok = simp to_z-of_z at c.in_ok-left.ensures.ok in
    let left = rw left_is at left_ok.1 in
    let right_v : SFits w32 c.args.ends.right = search rules in
    let right_d : SFits w64 c.args.self.right = search rules in
    let right_m : SFits w64 c.moved_end-2.result = search rules in
    let right_is = simp to_z-of_z at c.moved_end-2.ensures.exact in
    let right_ok = simp to_z-of_z at c.in_ok-right.ensures.ok in
    let right = rw right_is at right_ok.1 in
    let ascent_v : SFits w32 c.args.ends.ascent = search rules in
    let ascent_d : SFits w64 c.args.self.ascent = search rules in
    let ascent_m : SFits w64 c.moved_end-3.result = search rules in
    let ascent_is = simp to_z-of_z at c.moved_end-3.ensures.exact in
    let ascent_ok = simp to_z-of_z at c.in_ok-ascent.ensures.ok in
    let ascent = rw ascent_is at ascent_ok.1 in
    let descent_v : SFits w32 c.args.ends.descent = search rules in
    let descent_d : SFits w64 c.args.self.descent = search rules in
    let descent_m : SFits w64 c.moved_end-4.result = search rules in
    let descent_is = simp to_z-of_z at c.moved_end-4.ensures.exact in
    let descent_ok = simp to_z-of_z at c.in_ok-descent.ensures.ok in
    let descent = rw descent_is at descent_ok.1 in
    all-ends (phantom_units_view c.args.ends) (deltas_view c.args.self) left right ascent descent
