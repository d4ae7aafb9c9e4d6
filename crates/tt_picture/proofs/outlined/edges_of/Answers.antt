use Rattle.std.proofs.Common.{◌≡◌, ◌≤◌, ◌-ℤ◌, Bool, true, Option, None, Some, pos, unsigned_abs, SFits, w32, w64, get_or, rules, arith}
use Rattle.std.specs.Prelude.{IfSome, is_some}
use Rattle.std.proofs.lemmas.Int.{ints, to_z-of_z}
use Rattle.std.proofs.lemmas.Result.{IfOk-weaker}
use Rattle.tt_core.specs.Limits.{coordinate_limit}
use Rattle.tt_scan_dropouts.specs.declared.boxed.BoxedRules.{BoxedRules}
use Rattle.tt_picture.proofs.outlined.edges_of.Goals.{After-edges}
use Rattle.tt_picture.proofs.outlined.edges_of.Goals as goal

-- what is told where it is asked for is told where dropouts are filled
where_filled : (filled : Option BoxedRules) (asked : Bool) (P : Type 0) → asked ≡ is_some filled → (asked ≡ true → P)
    → IfSome filled (λ rules. P)
where_filled None asked P is told = tt
where_filled (Some rules) asked P is told = told is

origin_fits : (c : After-edges) → SFits w64 (pos 0 -ℤ c.from.result)
origin_fits c =
    let origin : SFits w64 c.from.result = search rules in
    let bits : SFits w32 (get_or c.args.outline.now.phantom 0 (pos 0, pos 0)).0 = search rules in
    let within = c.requires.outline.phantom.left.0 in
    let origin_is = simp to_z-of_z at c.from.ensures in
    let small : unsigned_abs c.from.result ≤ coordinate_limit = rw origin_is within in
    omega (arith, ints)

origin_is : (c : After-edges) → c.from.result ≡ (get_or c.args.outline.now.phantom 0 (pos 0, pos 0)).0
origin_is c =
    let bits : SFits w32 (get_or c.args.outline.now.phantom 0 (pos 0, pos 0)).0 = search rules in
    simp to_z-of_z at c.from.ensures

pub returns-clause-exact : goal.returns-clause-exact
returns-clause-exact c =
    let all = (goal.at.returns-clause-exact c).After-edges in
    let origin : SFits w64 c.from.result = search rules in
    let fits : SFits w64 (pos 0 -ℤ c.from.result) = origin_fits all in
    let is : c.from.result ≡ (get_or c.args.outline.now.phantom 0 (pos 0, pos 0)).0 = origin_is all in
    rw is at (simp to_z-of_z at c.edges.ensures.exact)

pub returns-clause-chords : goal.returns-clause-chords
returns-clause-chords c =
    let all = (goal.at.returns-clause-chords c).After-edges in
    let origin : SFits w64 c.from.result = search rules in
    let fits : SFits w64 (pos 0 -ℤ c.from.result) = origin_fits all in
    let is : c.from.result ≡ (get_or c.args.outline.now.phantom 0 (pos 0, pos 0)).0 = origin_is all in
    rw is at (simp to_z-of_z at c.edges.ensures.chords)

pub returns-clause-contours : goal.returns-clause-contours
returns-clause-contours c =
    let all = (goal.at.returns-clause-contours c).After-edges in
    let origin : SFits w64 c.from.result = search rules in
    let fits : SFits w64 (pos 0 -ℤ c.from.result) = origin_fits all in
    let is : c.from.result ≡ (get_or c.args.outline.now.phantom 0 (pos 0, pos 0)).0 = origin_is all in
    IfOk-weaker c.edges.result _ _ (λ e told. where_filled c.args.filled c.is_some.result _ c.is_some.ensures told)
    (rw is at (simp to_z-of_z at c.edges.ensures.contours))

pub returns-clause-ends : goal.returns-clause-ends
returns-clause-ends c =
    IfOk-weaker c.edges.result _ _ (λ e told. where_filled c.args.filled c.is_some.result _ c.is_some.ensures told)
    c.edges.ensures.ends
