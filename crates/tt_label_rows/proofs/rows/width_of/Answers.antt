use Rattle.std.proofs.Common.{◌≡◌, ◌∙◌, ℕ, ◌≤◌, length, take, sym, arith}
use Rattle.std.proofs.lemmas.List.{take_all}
use Rattle.std.proofs.lemmas.List.Sums.{sum-map}
use Rattle.tt_label_rows.proofs.rows.width_of.Goals as goal

pub returns-clause-exact : goal.returns-clause-exact
returns-clause-exact c =
    let gs = c.args.glyphs.now in
    let over : length gs ≤ c.loop-glyph.glyph-index = omega (arith, c.loop-glyph-test.false) in
    let all : take c.loop-glyph.glyph-index gs ≡ gs = take_all c.loop-glyph.glyph-index gs over in
    rw all at c.loop-glyph.invariant.sum ∙ sym (sum-map (λ (p : ℕ × ℕ). p.1) gs)
