use Rattle.std.proofs.Common.{◌≡◌, ◌∙◌, SFits, w32, of_z, to_z, refl, rules}
use Rattle.std.proofs.lemmas.Int.{to_z-of_z}
use Rattle.tt_picture.proofs.glyph.Glyph.advance_left.Goals as goal

pub returns : goal.returns
returns c =
    let left = c.facts.result.advance_left in
    let fits : SFits w32 left = search rules in
    let same : to_z w32 (of_z w32 left) ≡ left = simp to_z-of_z refl in
    same ∙ rw (← c.self.view_is, c.facts.ensures) refl
