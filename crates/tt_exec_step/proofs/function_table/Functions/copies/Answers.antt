use Rattle.std.proofs.Common.{◌≡◌, ◌∙◌, ◌+◌, ap, map, length, refl, arith}
use Rattle.std.proofs.lemmas.List.{length-map}
use Rattle.tt_exec_step.specs.FunctionTable.{listed}
use Rattle.tt_exec_step.specs.Numbered.{table_copies}
use Rattle.tt_exec_step.specs.Views.{body_of}
use Rattle.tt_exec_step.proofs.function_table.Functions.copies.Goals as goal

pub returns : goal.returns
returns c =
    let functions = listed c.self.inside.places.items (map body_of c.self.inside.bodies.items) in
    let many : length functions ≡ length c.self.inside.bodies.items = c.self.invariant.placed.many ∙ rw length-map refl in
    let bodies = ap length c.as_slice.ensures.value in
    let places = ap length c.as_slice-2.ensures.value in
    let all : length c.as_slice.result.now + length c.as_slice-2.result.now ≡ table_copies functions =
    omega (arith, many, bodies, places, c.self.invariant.ended) in
    rw (← c.self.view_is) all
