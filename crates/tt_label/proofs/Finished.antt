-- The glyphs of a text that are fitted, and then drawn.
use Rattle.std.proofs.Common.{◌≡◌, ◌∙◌, subst, ℕ, List, Result, Ok, Err}
use Rattle.std.specs.Prelude.{IfOk}
use Rattle.tt_core.specs.declared.draw_fault.DrawFault.{DrawFault}
use Rattle.tt_core.specs.Faults.{Fault}
use Rattle.tt_face.specs.Faces.{Face}
use Rattle.tt_fit.specs.Fitting.{Fitter}
use Rattle.tt_label.specs.Gathered.{AreReady, gathered}
use Rattle.tt_line.specs.Layout.{Placement}
use Rattle.tt_picture.specs.declared.glyphs.Glyphs.{Glyphs}
use Rattle.tt_picture.specs.Glyphs.{Glyph}
use Rattle.tt_strike.specs.Costs.{line_cost}
use Rattle.tt_strike.specs.Job.{Job}
use Rattle.tt_strike.specs.Made.{AreMade}
use Rattle.tt_strike.specs.Picture.{setting_in}
use Rattle.tt_strike.specs.Strikes.{SizedFace, job_by, job_with}
use Rattle.tt_strike.proofs.Textless.{cost_textless, made_textless}

-- two fitters of one setting are one
same_fitter : (r : Result Fitter Fault) (s t : Fitter) → r ≡ Ok s → r ≡ Ok t → s ≡ t
same_fitter r s t one other = cc

-- gathered glyphs that are drawn are ready
pub drawn_ready : (z : SizedFace) (text : List ℕ) (margin : ℕ) (gs : List ℕ) (l : Placement) (result : Result Glyphs DrawFault) → l ≡ gathered gs
    → IfOk result (λ g. AreMade z.face (job_with z margin) l g.made.items)
    → IfOk result (λ g. line_cost z.face (job_with z margin) l ≡ Ok g.cost)
    → IfOk result (λ g. (t : Fitter) → setting_in z.face (job_by z text margin) ≡ Ok t → AreReady z.face (job_by z text margin) t gs g.made.items g.cost)
drawn_ready z text margin gs l (Ok g) one made cost = λ t other.
    let own = rw one at made in
    let is = made_textless z text margin (gathered gs) own in
    let costs = rw one at cost in
    record {
      drawn = is;
      setting = same_fitter (setting_in z.face (job_by z text margin)) is.setting t is.opened other;
      cost = cost_textless z text margin (gathered gs) ∙ costs;
    }
drawn_ready z text margin gs l (Err e) one made cost = tt

-- glyphs that are ready for one fitter of a setting are ready for each
pub ready_again : (face : Face) (a : Job) (s : Fitter) (gs : List ℕ) (made : List Glyph) (n : ℕ) → setting_in face a ≡ Ok s → AreReady face a s gs made n
    → (t : Fitter) → setting_in face a ≡ Ok t → AreReady face a t gs made n
ready_again face a s gs made n there ready t other =
    subst (λ (x : Fitter). AreReady face a x gs made n) (same_fitter (setting_in face a) s t there other) ready
