use Rattle.std.proofs.Common.{◌≡◌, ◌∙◌, ◌<◌, pos, map, SFits, w32, rules}
use Rattle.std.proofs.lemmas.Int.{to_z-of_z}
use Rattle.tt_exec_step.specs.Views.{body_of}
use Rattle.tt_exec_step.proofs.Entries.{as_number, number_at}
use Rattle.tt_exec_step.proofs.function_table.Functions.get.Goals as goal

pub returns : goal.returns
returns c =
    let n : SFits w32 c.args.n = c.ranges.n in
    let fits = simp to_z-of_z at c.in-Ok.ensures in
    let few : c.in-Ok.n < 65536 = search rules in
    let is : c.args.n ≡ pos c.in-Ok.n = as_number c.args.n c.in-Ok.n fits.0 fits.1 in
    let bodies = map body_of c.self.inside.bodies.items in
    let found = number_at c.args.n c.in-Ok.n c.self.inside.places.items bodies is few in
    let there = rw (c.from.ensures, c.deref.ensures.value, c.deref-2.ensures.value) at c.body_at.ensures in
    rw (← c.self.view_is) (there ∙ found)
