use Rattle.std.proofs.Common.{◌≡◌, ◌∙◌, SFits, w32, w64, rules}
use Rattle.std.proofs.lemmas.Int.{to_z-of_z}
use Rattle.std.proofs.lemmas.Result.{IfOk-weaker}
use Rattle.tt_glyph_pixels.proofs.Lines.{box_is}
use Rattle.tt_glyph_pixels.proofs.rows.white.Goals as goal

pub returns-clause-has : goal.returns-clause-has
returns-clause-has c =
    let w = c.args.window in
    let left : SFits w32 w.left = search rules in
    let first : SFits w64 c.from.result = search rules in
    let highest : SFits w64 c.top_of.result = search rules in
    let left_is : c.from.result ≡ w.left = simp to_z-of_z at c.from.ensures in
    IfOk-weaker c.new.result _ _ (λ b has k j. has k j ∙ box_is w c.from.result c.top_of.result k j left_is c.top_of.ensures)
    (simp to_z-of_z at c.new.ensures.has)
