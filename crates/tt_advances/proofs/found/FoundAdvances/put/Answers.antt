use Rattle.std.proofs.Common.{◌≡◌, ◌∙◌, refl, ap, ℕ, ◌+◌, ◌<◌, ◌≤◌, ◌^◌, List, All, Result, Ok, drop, get_or, length, set, take, arith, rules}
use Rattle.std.proofs.lemmas.List.{drop-set-lt, length-set, take_all, take_more_set}
use Rattle.std.proofs.lemmas.List.Elements.{All-nil, All-push}
use Rattle.std.proofs.lemmas.Result.{err_from_is_err_and}
use Rattle.tt_advances.specs.Found.{all_found, glyph_units}
use Rattle.tt_advances.proofs.Known.{all_placed, all_tested, first_left, later_left, numbers, one_more_placed, one_more_tested, refused_here}
use Rattle.tt_advances.proofs.found.FoundAdvances.put.Goals as goal

pub loop-i-init : goal.loop-i-init
loop-i-init c = record { same = refl; count = refl; rest = refl; placed = refl; bound = All-nil (λ (p : ℕ × ℕ). p.1 < 2 ^ 16); tested = refl }

pub loop-i-preserved : goal.loop-i-preserved
loop-i-preserved c =
    let z = c.args.self.now in
    let found = glyph_units z.face.instance z.face.metrics z.tables in
    let ps = c.args.line.now in
    let line = c.loop-i.line in
    let i = c.loop-i.i in
    let was = c.loop-i.invariant in
    let below : i < length ps = omega (arith, c.loop-i-test.true) in
    let many = was.count in
    let under : i < length line = omega (arith, below, many) in
    let read : get_or line i (0, 0) ≡ get_or ps i (0, 0) = first_left line ps i was.rest under below in
    let is : found (get_or ps i (0, 0)).0 ≡ Ok c.in_ok-units.units = rw (was.same, read) at c.in_ok-units.ensures.exact in
    let next = one_more_tested found ps i (all_found found (numbers ps)) below was.tested in
    let small : c.in_ok-units.units < 2 ^ 16 = search rules in
    rw c.from.ensures (record {
      same = c.in_ok-units.ensures.same ∙ was.same;
      count = length-set line i _ ∙ was.count;
      rest = drop-set-lt (i + 1) line i _ (omega arith) ∙ later_left line ps i was.rest;
      placed = one_more_placed found line ps i c.in_ok-units.units under below was.rest was.placed is;
      bound = rw (take_more_set line i ((get_or line i (0, 0)).0, c.in_ok-units.units) under)
          (All-push (λ (p : ℕ × ℕ). p.1 < 2 ^ 16) (take i line) ((get_or line i (0, 0)).0, c.in_ok-units.units) was.bound small);
      tested = rw is at next;
    })

pub returns-in_err-units-clause-exact : goal.returns-in_err-units-clause-exact
returns-in_err-units-clause-exact c =
    let p = err_from_is_err_and c.from_residual.result c.from_residual.ensures.1 in
    let z = c.args.self.now in
    let found = glyph_units z.face.instance z.face.metrics z.tables in
    let ps = c.args.line.now in
    let was = c.loop-i.invariant in
    let below : c.loop-i.i < length ps = omega (arith, c.loop-i-test.true) in
    let many = was.count in
    let under : c.loop-i.i < length c.loop-i.line = omega (arith, below, many) in
    let read : get_or c.loop-i.line c.loop-i.i (0, 0) ≡ get_or ps c.loop-i.i (0, 0) =
    first_left c.loop-i.line ps c.loop-i.i was.rest under below in
    let refused = rw (was.same, read) at c.in_err-units.ensures.exact in
    rw (p.1, p.2) (refused_here found ps c.loop-i.i (all_found found (numbers ps)) c.in_err-units.field-0.0 below was.tested refused)

pub returns-clause-exact : goal.returns-clause-exact
returns-clause-exact c =
    let z = c.args.self.now in
    let found = glyph_units z.face.instance z.face.metrics z.tables in
    let ps = c.args.line.now in
    let was = c.loop-i.invariant in
    let many = was.count in
    let over : length ps ≤ c.loop-i.i = omega (arith, c.loop-i-test.false, many) in
    all_tested found ps c.loop-i.i (all_found found (numbers ps)) over was.tested

pub returns-clause-units : goal.returns-clause-units
returns-clause-units c =
    let z = c.args.self.now in
    let found = glyph_units z.face.instance z.face.metrics z.tables in
    let ps = c.args.line.now in
    let was = c.loop-i.invariant in
    let many = was.count in
    let over : length ps ≤ c.loop-i.i = omega (arith, c.loop-i-test.false, many) in
    all_placed found c.loop-i.line ps c.loop-i.i over was.placed

pub returns-clause-bound : goal.returns-clause-bound
returns-clause-bound c =
    let was = c.loop-i.invariant in
    let many = was.count in
    let over : length c.loop-i.line ≤ c.loop-i.i = omega (arith, c.loop-i-test.false, many) in
    rw (take_all c.loop-i.i c.loop-i.line over) at was.bound
