-- The characters of a measured text are as many as its units.
use Rattle.std.proofs.Common.{◌≡◌, ◌∙◌, ℕ, ◌+◌, ◌||◌, nat_lt, true, false, Bool, List, length, Option, Some, None, Result, Ok, Err, ap, sym, if◌then◌else◌, refl}
use Rattle.std.specs.Str.{chars}
use Rattle.std.proofs.lemmas.List.{length-map}
use Rattle.tt_cmap.specs.Maps.{glyph_of_unit, units_by}
use Rattle.tt_core.specs.Chains.{came-through}
use Rattle.tt_core.specs.declared.fault.JobFault.TheVariants as fault
use Rattle.tt_core.specs.Limits.{height_limit, width_limit}
use Rattle.tt_face.specs.Faces.{Face}
use Rattle.tt_line.specs.Laws.{PlacesGlyphs, StepsLead}
use Rattle.tt_line.specs.Layout.{Placement}
use Rattle.tt_picture.specs.declared.ink_box.InkBox.{InkBox}
use Rattle.tt_render_settings.specs.Products.{measure_by}
use Rattle.tt_strike.specs.Grown.{grown, grown_line, grown_measured, grown_placement, not_large, with_sides, lacking}
use Rattle.tt_strike.specs.Job.{Job, tested}
use Rattle.tt_strike.specs.Measures as measures
use Rattle.tt_strike.specs.Measures.{Measure, line_ink, line_step, measured, measured_line}
use Rattle.tt_strike.specs.Picture.{frame_of, laid_out, line_shapes, setting_in}
use Rattle.tt_strike.specs.Refusals.{Refused, as_font, as_job}
use Rattle.tt_strike.proofs.Characters.{length-characters}
use Rattle.tt_strike.proofs.Placed.{of-job, placed_glyphs, placed_of}
use Rattle.tt_c_calls.specs.declared.asked.CJob.{CJob}
use Rattle.tt_c_calls.specs.Asked.{asked, fit_asked, grows, job_fit, job_opening, text_asked}
use Rattle.tt_c_calls.specs.Fonts.{job_opened, opened_wanted}
use Rattle.tt_c_calls.specs.Measures.{measure_wanted}
use Rattle.tt_c_calls.specs.Offsets.{offsets_asked}
use Rattle.tt_c_calls.specs.Pictures.{made_for, made_of}
use Rattle.tt_c_calls.specs.Refusals.{as_call, not_utf8}
use Rattle.tt_c_calls.proofs.AskedTables.{of_tables}
use Rattle.tt_c_calls.proofs.Counted.{units_counted}

-- a measured line has a character for each of its glyphs
line_counted : (face : Face) (a : Job) (line : Placement) (m : Measure) → measured_line face a line ≡ Ok m
    → length m.characters ≡ length line.glyphs
unfolding measured_line
line_counted face a line m is =
    let by_setting = came-through (as_font (setting_in face a)) _ m is in
    let s = by_setting.value in
    let by_glyphs = came-through (line_shapes s a line) _ m by_setting.rest in
    let own = measures.measure_by face.metrics (line_step face a s line) a.margin (line_ink s line) line in
    let same : own ≡ m = cc in
    rw (← same) (length-characters face.metrics (line_step face a s line) (frame_of line a.margin) (line_ink s line) line.glyphs)

-- an enlarged line has the glyphs of the line

enlarged_by : (large : Bool) (line l : Placement) → (if large then Err fault.PictureLarge else Ok line) ≡ Ok l → l ≡ line
enlarged_by true line l is = absurd cc
enlarged_by false line l is = cc

grown_counted : (line l : Placement) (ink : Option InkBox) → grown line ink ≡ Ok l → length l.glyphs ≡ length line.glyphs
unfolding not_large
grown_counted line l None is = let same : l ≡ line = cc in rw same refl
grown_counted line l (Some b) is =
    let wider = with_sides line (lacking line.width line.height b) in
    let same = enlarged_by (nat_lt width_limit wider.width || nat_lt height_limit wider.height) wider l is in
    rw same (length-map line.glyphs (λ (g : ℕ × ℕ). (g.0, g.1 + (lacking line.width line.height b).left)))

enlarged_counted : (face : Face) (a : Job) (line l : Placement) → grown_line face a line ≡ Ok l → length l.glyphs ≡ length line.glyphs
unfolding grown_line
enlarged_counted face a line l is =
    let by_measure = came-through (measured_line face a line) _ l is in
    grown_counted line l by_measure.value.ink (of-job (grown line by_measure.value.ink) l by_measure.rest)

-- a laid-out text has a glyph for each unit
laid_counted : PlacesGlyphs → StepsLead → (face : Face) (a : Job) (line : Placement) → laid_out face a ≡ Ok line
    → length line.glyphs ≡ length (units_by face.cmap (chars a.text))
laid_counted places lead face a line is =
    let numbers = placed_glyphs places lead face a line (placed_of face a line is) in
    sym (length-map line.glyphs (λ (g : ℕ × ℕ). g.0)) ∙ ap length numbers
    ∙ length-map (units_by face.cmap (chars a.text)) (glyph_of_unit face.cmap)

measured_counted : PlacesGlyphs → StepsLead → (face : Face) (a : Job) (m : Measure) → measured face a ≡ Ok m
    → length m.characters ≡ length (units_by face.cmap (chars a.text))
unfolding measured
measured_counted places lead face a m is =
    let was = came-through (laid_out face a) _ m is in
    line_counted face a was.value m was.rest ∙ laid_counted places lead face a was.value was.first

enlarged_measured : PlacesGlyphs → StepsLead → (face : Face) (a : Job) (m : Measure) → grown_measured face a ≡ Ok m
    → length m.characters ≡ length (units_by face.cmap (chars a.text))
unfolding grown_measured grown_placement
enlarged_measured places lead face a m is =
    let was = came-through (grown_placement face a) _ m is in
    let line = came-through (laid_out face a) _ was.value was.first in
    line_counted face a was.value m was.rest ∙ enlarged_counted face a line.value was.value line.rest
    ∙ laid_counted places lead face a line.value line.first

pub characters_counted : PlacesGlyphs → StepsLead → (grow : Bool) (face : Face) (a : Job) (m : Measure)
    → measure_by grow face a ≡ Ok m → length m.characters ≡ length (units_by face.cmap (chars a.text))
unfolding measure_by
characters_counted places lead false face a m is = measured_counted places lead face a m is
characters_counted places lead true face a m is = enlarged_measured places lead face a m is

-- what a call gives is what is drawn
of_call : {X : Type 0} (r : Result X Refused) (x : X) → as_call r ≡ Ok x → r ≡ Ok x
of_call (Ok y) x is = cc
of_call (Err why) x is = absurd cc

-- a measured text is UTF-8
pub measured_is_text : (j : CJob) (text font : List ℕ) (m : Measure) → measure_wanted j text font ≡ Ok m
    → text_asked text ≡ Err not_utf8 → ⊥
unfolding measure_wanted asked
measured_is_text j text font m is other =
    let by_job = came-through (asked j text) _ m is in
    let by_fit = came-through (job_fit j) _ by_job.value by_job.first in
    let by_text = came-through (text_asked text) _ by_job.value by_fit.rest in
    let taken : text_asked text ≡ Ok by_text.value = by_text.first in
    cc

-- its characters are as many as its offsets
pub wanted_counted : PlacesGlyphs → StepsLead → (j : CJob) (text font : List ℕ) (m : Measure) → measure_wanted j text font ≡ Ok m
    → length m.characters ≡ length (offsets_asked j text)
unfolding measure_wanted
wanted_counted places lead j text font m is =
    let by_job = came-through (asked j text) _ m is in
    let a = by_job.value in
    let drawn = of_call (made_for (λ face. measure_by (grows j) face a) j a font) m by_job.rest in
    let by_test = came-through (as_job (tested a)) _ m drawn in
    let passes : tested a ≡ Ok tt = of-job (tested a) by_test.value by_test.first in
    let tables = of_tables (measure_by (grows j)) j text font a by_job.first passes in
    let by_face = came-through (job_opened j a.fit font) (λ face. as_call (measure_by (grows j) face a)) m
    (sym tables ∙ is) in
    let face = by_face.value in
    characters_counted places lead (grows j) face a m (of_call (measure_by (grows j) face a) m by_face.rest)
    ∙ units_counted j text font a face by_job.first by_face.first
