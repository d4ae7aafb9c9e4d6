use Rattle.std.proofs.Common.{◌∙◌, ℕ, ◌+◌, drop, get_or, map, sym}
use Rattle.tt_line.proofs.Stepped.{no_tables, unkerned_before}
use Rattle.tt_line.proofs.steps.kerning_at.Goals as goal

pub returns-then-not-has_kerning-clause-exact : goal.returns-then-not-has_kerning-clause-exact
returns-then-not-has_kerning-clause-exact c =
    let none = no_tables c.args.metrics.now.kerning (sym c.if-not-has_kerning.true ∙ c.has_kerning.ensures) in
    let line = c.args.line.now in
    let i = c.args.i in
    sym (unkerned_before c.args.metrics.now (get_or line i (0, 0)).0 (map (λ (p : ℕ × ℕ). p.0) (drop (i + 1) line)) none)
