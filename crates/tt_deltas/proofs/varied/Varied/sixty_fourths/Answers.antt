use Rattle.std.proofs.Common.{◌≡◌, ◌^◌, SFits, w16, w64, rules, arith}
use Rattle.std.proofs.lemmas.Int.{ints, to_z-of_z}
use Rattle.tt_axes.specs.Rounding.{sixty_fourths}
use Rattle.tt_deltas.proofs.varied.Varied.sixty_fourths.Goals as goal

pub returns-clause-exact : goal.returns-clause-exact
returns-clause-exact c =
    let at : SFits w16 c.args.self.at = search rules in
    let delta : SFits w64 c.args.self.delta = search rules in
    let part : SFits w64 c.sixty_fourths.result = search rules in
    let is_from : c.from.result ≡ c.args.self.at = simp to_z-of_z at c.from.ensures in
    let is_part : c.sixty_fourths.result ≡ sixty_fourths c.args.self.delta =
    simp to_z-of_z at c.sixty_fourths.ensures.exact in
    let within = simp to_z-of_z at c.sixty_fourths.ensures.within in
    let few = within (2 ^ 36) (omega (arith, c.requires)) in
    rw (← is_part) (omega (arith, ints, is_from, few))

pub returns-clause-bound : goal.returns-clause-bound
returns-clause-bound c =
    let at : SFits w16 c.args.self.at = search rules in
    let delta : SFits w64 c.args.self.delta = search rules in
    let part : SFits w64 c.sixty_fourths.result = search rules in
    let is_from : c.from.result ≡ c.args.self.at = simp to_z-of_z at c.from.ensures in
    let within = simp to_z-of_z at c.sixty_fourths.ensures.within in
    let few = within (2 ^ 36) (omega (arith, c.requires)) in
    omega (arith, ints, is_from, few)
