-- The line of a text: laid out by the steps of its glyphs where work is bounded, and by advances elsewhere.
use Rattle.std.proofs.Common.{◌≡◌, ap, refl, ℕ, Bool, true, false, List, map, Result, Ok, Err}
use Rattle.tt_advances.proofs.Advances.{plain_advances}
use Rattle.tt_advances.specs.Found.{advances_tested}
use Rattle.tt_advances.specs.Lines.{advance_steps}
use Rattle.tt_core.specs.Chains.{came-through}
use Rattle.tt_core.specs.Faults.{Fault}
use Rattle.tt_core.specs.declared.fault.JobFault.{JobFault}
use Rattle.tt_face.specs.Faces.{Face, finds_advances}
use Rattle.tt_line.specs.Laws.{PlacesGlyphs, StepsLead}
use Rattle.tt_line.specs.Layout.{Placement, depth_of, laid_at, placement, rise_of, text_glyphs}
use Rattle.tt_strike.specs.Job.{Job, tested}
use Rattle.tt_strike.specs.Picture.{laid_out, outlines_tested, placed_by_steps, placed_by_units, setting_in, steps_in, text_placed}
use Rattle.tt_strike.specs.Refusals.{as_font, as_job}
use Rattle.tt_strike.specs.Work.{is_bounded}

-- a result of a font or of a job was not refused
pub of-font : {X : Type 0} (r : Result X Fault) (x : X) → as_font r ≡ Ok x → r ≡ Ok x
of-font (Ok y) x was = cc
of-font (Err f) x was = absurd cc

pub of-job : {X : Type 0} (r : Result X JobFault) (x : X) → as_job r ≡ Ok x → r ≡ Ok x
of-job (Ok y) x was = cc
of-job (Err j) x was = absurd cc

pub placed_by_its_steps : (face : Face) (a : Job) → is_bounded a.fit ≡ true → text_placed face a ≡ placed_by_steps face a
unfolding text_placed
placed_by_its_steps face a bounded = rw bounded refl

pub placed_by_its_units : (face : Face) (a : Job) → is_bounded a.fit ≡ false → text_placed face a ≡ placed_by_units face a
unfolding text_placed
placed_by_its_units face a other = rw other refl

-- where no advance is found, by those of the tables
pub placed_by_advances : (face : Face) (a : Job) → is_bounded a.fit ≡ false → finds_advances face ≡ false
    → text_placed face a ≡ as_job (placement face.metrics face.cmap a.text a.ppem a.margin)
unfolding text_placed placed_by_units placement
placed_by_advances face a other off =
    let gs = text_glyphs face.cmap a.text in
    let plain = plain_advances face off in
    rw (other, plain.tested gs) (ap (λ (line : List (ℕ × ℕ)). as_job (laid_at face.metrics a.ppem a.margin gs (map (λ (g : ℕ × ℕ). g.1) line)))
    (plain.line a.ppem gs))

-- a text that is laid out is tested, and placed
pub placed_of : (face : Face) (a : Job) (l : Placement) → laid_out face a ≡ Ok l → text_placed face a ≡ Ok l
placed_of face a l laid = (came-through (as_job (tested a)) _ l laid).rest

-- each unit of a placed text has its glyph
by_steps : StepsLead → (face : Face) (a : Job) (l : Placement) → placed_by_steps face a ≡ Ok l
    → map (λ g. g.0) l.glyphs ≡ text_glyphs face.cmap a.text
unfolding placed_by_steps
by_steps lead face a l was =
    let gs = text_glyphs face.cmap a.text in
    let by_setting = came-through (as_font (setting_in face a)) _ l was in
    let s = by_setting.value in
    let by_outlines = came-through (outlines_tested s a.fit gs) _ l by_setting.rest in
    let laid = of-job (laid_at face.metrics a.ppem a.margin gs (steps_in face.metrics a.ppem s gs)) l by_outlines.rest in
    (lead gs (steps_in face.metrics a.ppem s gs) a.margin (rise_of face.metrics a.ppem) (depth_of face.metrics a.ppem) l laid).numbers

-- a text that is placed by advances has them, and is laid out by them
pub record LaidByUnits (face : Face) (a : Job) (l : Placement) : Type 0 where
  pub found : advances_tested face (text_glyphs face.cmap a.text) ≡ Ok tt
  pub laid : laid_at face.metrics a.ppem a.margin (text_glyphs face.cmap a.text) (advance_steps face a.ppem (text_glyphs face.cmap a.text)) ≡ Ok l

pub laid_by_units : (face : Face) (a : Job) (l : Placement) → placed_by_units face a ≡ Ok l → LaidByUnits face a l
unfolding placed_by_units
laid_by_units face a l was =
    let gs = text_glyphs face.cmap a.text in
    let by_test = came-through (as_font (advances_tested face gs)) _ l was in
    record {
      found = of-font (advances_tested face gs) tt by_test.first;
      laid = of-job (laid_at face.metrics a.ppem a.margin gs (advance_steps face a.ppem gs)) l by_test.rest;
    }

by_units : StepsLead → (face : Face) (a : Job) (l : Placement) → placed_by_units face a ≡ Ok l
    → map (λ g. g.0) l.glyphs ≡ text_glyphs face.cmap a.text
by_units lead face a l was =
    let gs = text_glyphs face.cmap a.text in
    (lead gs (advance_steps face a.ppem gs) a.margin (rise_of face.metrics a.ppem) (depth_of face.metrics a.ppem) l
    (laid_by_units face a l was).laid).numbers

by_either : StepsLead → (bounded : Bool) (face : Face) (a : Job) (l : Placement) → is_bounded a.fit ≡ bounded
    → text_placed face a ≡ Ok l → map (λ g. g.0) l.glyphs ≡ text_glyphs face.cmap a.text
by_either lead true face a l is was = by_steps lead face a l (rw (placed_by_its_steps face a is) at was)
by_either lead false face a l is was = by_units lead face a l (rw (placed_by_its_units face a is) at was)

pub placed_glyphs : PlacesGlyphs → StepsLead → (face : Face) (a : Job) (l : Placement) → text_placed face a ≡ Ok l
    → map (λ g. g.0) l.glyphs ≡ text_glyphs face.cmap a.text
placed_glyphs places lead face a l was = by_either lead (is_bounded a.fit) face a l refl was
