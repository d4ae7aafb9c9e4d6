-- A label that is laid out by advances: what its glyphs stop, and what they tell.
use Rattle.std.proofs.Common.{◌≡◌, ◌∙◌, refl, sym, false, ℕ, List, Ok, Err}
use Rattle.std.specs.Prelude.{IfSome}
use Rattle.tt_advances.specs.Found.{advances_tested}
use Rattle.tt_advances.specs.Lines.{advance_step}
use Rattle.tt_core.specs.Chains.{came-through}
use Rattle.tt_core.specs.declared.draw_fault.DrawFault.{DrawFault}
use Rattle.tt_core.specs.declared.font_fault.FontFault.{FontFault}
use Rattle.tt_core.specs.declared.font_fault.FontFault.TheVariants as fault
use Rattle.tt_core.specs.Outcomes.{◌>>=◌, draw_fault_of_font, font_fault}
use Rattle.tt_face.specs.Faces.{Face}
use Rattle.tt_label.specs.Label.{joint, joint_numbers, label_glyphs, label_placed, stepped_lines}
use Rattle.tt_label.specs.Made.{label_shapes}
use Rattle.tt_label.proofs.Lines.{numbers_stepped}
use Rattle.tt_label.proofs.Placed.{placed_by_advances, placed_lines, shapes_tell}
use Rattle.tt_line.specs.declared.align.Align.{Align}
use Rattle.tt_line.specs.Labels.{label_placement}
use Rattle.tt_line.specs.Layout.{Placement}
use Rattle.tt_picture.specs.Glyphs.{Glyph}
use Rattle.tt_strike.specs.Job.{Job, tested}
use Rattle.tt_strike.specs.Made.{AreMade, shapes_made}
use Rattle.tt_strike.specs.Refusals.{as_font, as_job, refusal}
use Rattle.tt_strike.specs.Strikes.{SizedFace, job_by, job_with}
use Rattle.tt_strike.specs.Work.{is_bounded}
use Rattle.tt_strike.proofs.Placed.{of-job}
use Rattle.tt_strike.proofs.Textless.{made_textless, shapes_textless}

-- the glyphs of a line whose job has no text any more: those of the joint line
pub textless_tell : (z y : SizedFace) (text : List ℕ) (margin k : ℕ) (how : Align) (lines : List Placement) (l : Placement) (d : DrawFault)
    → y ≡ z → l ≡ joint lines → label_placed z.face (job_by z text margin) how ≡ Ok lines
    → IfSome (refusal d) (λ r. shapes_made y.face (job_with y k) l ≡ Err r)
    → IfSome (refusal d) (λ r. label_shapes z.face (job_by z text margin) how ≡ Err r)
textless_tell z y text margin k how lines l d same one placed fails =
    let told = rw (same, one) at fails in
    shapes_tell z.face (job_by z text margin) how lines d placed (rw (shapes_textless z text margin (joint lines)) told)

pub made_as_joint : {gs : List Glyph} (z y : SizedFace) (text : List ℕ) (margin k : ℕ) (lines : List Placement) (l : Placement)
    → y ≡ z → k ≡ margin → l ≡ joint lines → AreMade y.face (job_with y k) l gs
    → AreMade z.face (job_by z text margin) (joint lines) gs
made_as_joint z y text margin k lines l same at one made =
    let is = rw (same, at, one) at made in made_textless z text margin (joint lines) is

-- the lines of a text, by the advances that are found
abbrev pub FontLines : Face → Job → List (List (ℕ × ℕ)) → Type 0
FontLines face a lines = (advances_tested face (label_glyphs face.cmap a.text)
    >>= λ u. Ok (stepped_lines face.metrics (advance_step face a.ppem) face.cmap a.text)) ≡ Ok lines

-- a label that is laid out has the glyphs of its text
pub glyphs_by_advances : (face : Face) (a : Job) (how : Align) (lines : List Placement) → tested a ≡ Ok tt → is_bounded a.fit ≡ false
    → label_placed face a how ≡ Ok lines → joint_numbers lines ≡ label_glyphs face.cmap a.text
glyphs_by_advances face a how lines passes unbounded placed =
    let step = advance_step face a.ppem in
    let ls = stepped_lines face.metrics step face.cmap a.text in
    let found = came-through (as_font (advances_tested face (label_glyphs face.cmap a.text))) _ lines
    (sym (placed_by_advances face a how passes unbounded) ∙ placed) in
    let is = of-job (label_placement face.metrics a.ppem a.margin how ls) lines found.rest in
    (placed_lines face.metrics a.ppem a.margin how ls lines is).numbers ∙ numbers_stepped face.metrics step face.cmap a.text

-- how its layout stops: where advances are not found, or at its size
pub units_stop_label : (face : Face) (a : Job) (how : Align) (e : FontFault) → tested a ≡ Ok tt → is_bounded a.fit ≡ false
    → IfSome (font_fault e) (λ f. advances_tested face (label_glyphs face.cmap a.text) ≡ Err f)
    → IfSome (refusal (draw_fault_of_font e)) (λ r. label_placed face a how ≡ Err r)
units_stop_label face a how (fault.Font f) passes unbounded fails = placed_by_advances face a how passes unbounded ∙ rw fails refl
units_stop_label face a how fault.Memory passes unbounded fails = tt

pub units_ready_label : (face : Face) (a : Job) (how : Align) (lines : List (List (ℕ × ℕ))) → tested a ≡ Ok tt → is_bounded a.fit ≡ false
    → FontLines face a lines
    → label_placed face a how ≡ as_job (label_placement face.metrics a.ppem a.margin how lines)
units_ready_label face a how lines passes unbounded found =
    let both = came-through (advances_tested face (label_glyphs face.cmap a.text)) _ lines found in
    let same : stepped_lines face.metrics (advance_step face a.ppem) face.cmap a.text ≡ lines = let last = both.rest in cc in
    placed_by_advances face a how passes unbounded ∙ rw (both.first, same) refl
