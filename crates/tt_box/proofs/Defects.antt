-- A fault of the font that a size meets.
use Rattle.std.proofs.Common.{◌≡◌, subst, ℕ, ◌+◌, ◌-◌, ◌<◌, ◌≤◌, List, arith}
use Rattle.std.specs.Prelude.{IfSome}
use Rattle.tt_box.specs.Boxes.{least_size}
use Rattle.tt_box.specs.Defects.{IsTriedDefect}
use Rattle.tt_core.specs.declared.draw_fault.DrawFault.{DrawFault}
use Rattle.tt_core.specs.declared.draw_fault.DrawFault.TheVariants as draw
use Rattle.tt_core.specs.Outcomes.{draw_font_fault}
use Rattle.tt_face.specs.Faces.{Face}
use Rattle.tt_fit.specs.declared.programs.Fit.{Fit}
use Rattle.tt_strike.specs.Defects.{IsLineDefect}
use Rattle.tt_strike.specs.Job.{job_for}

pub met_in_box : (face : Face) (how : Fit) (greatest : ℕ) (text : List ℕ) (margin least ppem : ℕ) (glyphs : List ℕ) (e : DrawFault)
    → least ≡ least_size greatest → least < ppem → ppem ≤ greatest + 1
    → IfSome (draw_font_fault e) (IsLineDefect face (job_for (ppem - 1) how text margin) glyphs)
    → IfSome (draw_font_fault e) (IsTriedDefect face how greatest glyphs)
met_in_box face how greatest text margin least ppem glyphs (draw.Font f) is above high met = record {
  ppem = ppem - 1;
  low = subst (λ l. l ≤ ppem - 1) is (omega (arith, above));
  high = omega (arith, high);
  met = met;
}
met_in_box face how greatest text margin least ppem glyphs (draw.Job j) is above high met = tt
met_in_box face how greatest text margin least ppem glyphs draw.Memory is above high met = tt
