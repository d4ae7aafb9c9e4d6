-- The cost of a glyph's programs is one number, whatever remains of the job's work.
use Rattle.std.proofs.Common.{ℕ, zero, suc, List, [], ◌∷◌, Option, Result}
use Rattle.tt_core.specs.Faults.{Fault}
use Rattle.tt_fit_hinting.proofs.machine.RunCosts.{free, costs_both, is_cost}
use Rattle.tt_fit_hinting.specs.machine.Parts.{Parts}
use Rattle.tt_fit_hinting.specs.machine.RunCost.{HasCost}
use Rattle.tt_fit_hinting.specs.machine.Work.{Worked}
use Rattle.tt_face.specs.Programs.{ProgramTables}
use Rattle.tt_fit.specs.Fitting.{Fitter, with_hinting, begun_glyph, joined, added, finished_work, made_work, work_by, added_work, glyph_work}
use Rattle.tt_fit.specs.GlyphCost.{GlyphsHaveCosts}
use Rattle.tt_fit.specs.Preparation.{font_program, control_value_program, with_definitions, programs_work}
use Rattle.tt_fit.specs.Work.{joined_work}
use Rattle.tt_fit_hinting.proofs.ProgramCosts.{after-ok, of-code, of-hinted}
use Rattle.tt_fit_hinting.specs.Hinting.{run_of}
use Rattle.tt_fit_outline.specs.Outline.{Outline}
use Rattle.tt_fit_hinting.specs.Work.{if_ok, code_work, hinted_work}
use Rattle.tt_glyf.specs.declared.raw.Record.{Record}
use Rattle.tt_glyf.specs.GlyphData.{glyph_data_of}
use Rattle.tt_glyf.specs.Raw.{Raw}

of-joined : (add : Record → Outline → Result Outline Fault) (work : Record → Option ℕ → Worked)
    → ((r : Record) → HasCost (work r)) → (rs : List Record) (o : Outline) → HasCost (joined_work add work rs o)
of-joined add work each [] o = free
of-joined add work each (r ∷ rs) o =
    costs_both (work r) (if_ok (add r o) (joined_work add work rs)) (each r)
    (after-ok (add r o) (joined_work add work rs) (λ next. of-joined add work each rs next))

of-made : (s : Fitter) (add : Record → Outline → Result Outline Fault) (work : Record → Option ℕ → Worked)
    → ((r : Record) → HasCost (work r)) → (g : ℕ) (d : Raw) → HasCost (made_work s add work g d)
of-made s add work each g d =
    after-ok (begun_glyph s g d) (finished_work s add work)
    (λ b. costs_both (joined_work add work b.records b.outline)
    (if_ok (joined add b.records b.outline) (hinted_work s.hinting b.program))
    (of-joined add work each b.records b.outline)
    (after-ok (joined add b.records b.outline) (hinted_work s.hinting b.program) (of-hinted s.hinting b.program)))

of-one : (s : Fitter) (add : Record → Outline → Result Outline Fault) (work : Record → Option ℕ → Worked)
    → ((r : Record) → HasCost (work r)) → (g : ℕ) → HasCost (work_by s add work g)
of-one s add work each g = after-ok (glyph_data_of s.tables g) (made_work s add work g) (of-made s add work each g)

of-added : (s : Fitter) (levels : ℕ) (r : Record) → HasCost (added_work s levels r)
unfolding added_work
of-added s zero r = free
of-added s (suc levels) r = of-one s (added s levels) (added_work s levels) (of-added s levels) r.glyph

pub of-glyph : (s : Fitter) (g : ℕ) → HasCost (glyph_work s g)
of-glyph s g =
    let t = with_hinting s s.hinting in of-one t (added t s.levels) (added_work t s.levels) (of-added t s.levels) g

pub glyphs-have-costs : GlyphsHaveCosts
glyphs-have-costs s g = (_, is_cost (glyph_work s g) (of-glyph s g))

-- the font's two programs
pub of-programs : (parts : Parts) (programs : ProgramTables) → HasCost (programs_work parts programs)
unfolding programs_work
of-programs parts programs =
    costs_both (code_work (font_program programs.fpgm) parts)
    (if_ok (run_of (font_program programs.fpgm) parts)
    (λ font. code_work (control_value_program programs.prep) (with_definitions parts font)))
    (of-code (font_program programs.fpgm) parts)
    (after-ok (run_of (font_program programs.fpgm) parts)
    (λ font. code_work (control_value_program programs.prep) (with_definitions parts font))
    (λ font. of-code (control_value_program programs.prep) (with_definitions parts font)))
