use Rattle.std.proofs.Common.{◌≡◌, refl, sym, Ok}
use Rattle.tt_fit.specs.Fitting.{fitted_outline, unfitted_fault}
use Rattle.tt_fit.specs.outline.Views.{outline_of}
use Rattle.tt_picture.proofs.OutlineBox.{rules_boxed}
use Rattle.tt_picture.proofs.Turns.{same_dropouts}
use Rattle.tt_glyphs.proofs.outlines.try_glyph.Goals.{in-Made, in-Refused}
use Rattle.tt_glyphs.proofs.outlines.try_glyph.Goals as goal

pub returns-clause-tried : goal.returns-clause-tried
returns-clause-tried c =
    let s = c.args.fitter.now in
    let n = c.args.number in
    let made = c.in_ok-outline.ensures in
    elim c.match-branch-2.branch [
      | in-Made w ↦
          let o = w.in-Made.outline in
          let shape : fitted_outline s n ≡ Ok (outline_of o) = sym (rw w.in-Made.is at made.exact) in
          let unfitted : o.unfitted ≡ unfitted_fault s n = rw w.in-Made.is at made.unfitted in
          rw (
            w.body-is,
            shape,
            w.rules_for-filled.ensures.exact,
            w.dropouts.ensures,
            made.after,
            unfitted,
            c.rule_by-rule.ensures,
            c.work.ensures,
            same_dropouts s n _ (outline_of o),
          ) refl
      | in-Refused w ↦ rw (w.body-is, sym (rw w.in-Refused.is at made.exact)) refl
    ]

pub returns-clause-ruled : goal.returns-clause-ruled
returns-clause-ruled c =
    elim c.match-branch-2.branch [
      | in-Made w ↦ rw w.body-is (rules_boxed w.rules_for-filled.result _ (outline_of w.in-Made.outline) w.rules_for-filled.ensures.exact)
      | in-Refused w ↦ rw w.body-is tt
    ]
