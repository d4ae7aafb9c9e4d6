-- Faces with the same tables, the same metrics and the same glyphs for a text give the same picture.
use Rattle.std.proofs.Common.{◌≡◌, ◌∙◌, ℕ, Bool, not, ◌&&◌, if◌then◌else◌, List, map, Option, Result, Ok, Err, refl, sym, ap}
use Rattle.std.specs.Prelude.{is_some}
use Rattle.tt_advances.specs.Found.{advances_tested, all_found, face_units, glyph_units, or_zero, units_of}
use Rattle.tt_core.specs.Directory.{Directory, needed_table, or_missing}
use Rattle.tt_core.specs.Faults.{Fault}
use Rattle.tt_core.specs.Outcomes.{◌>>=◌}
use Rattle.tt_face.specs.Faces.{Face, FaceInstance, cvt_tag, fpgm_tag, glyphs_in, optional_table, or_empty, prep_tag, programs_of}
use Rattle.tt_face.specs.Files.{SameTables}
use Rattle.tt_face.specs.Programs.{ProgramTables}
use Rattle.tt_fit.specs.declared.programs.Fit.{Fit}
use Rattle.tt_fit.specs.declared.programs.Fit.TheVariants as fit
use Rattle.tt_fit.specs.Fitting.{Fitter}
use Rattle.tt_fit.specs.Preparation.{fitter_of}
use Rattle.tt_glyf.specs.Bytes.{glyf_tag}
use Rattle.tt_glyf.specs.Loca.{Glyf, Loca, loca_of, loca_tag, with_glyf}
use Rattle.tt_line.specs.Layout.{Placement, laid_at, text_glyphs}
use Rattle.tt_line.specs.Steps.{step_by_units, stepped}
use Rattle.tt_metrics.specs.Metrics.{Metrics, advance_of}
use Rattle.tt_picture.specs.Pictures.{Image, picture}
use Rattle.tt_strike.specs.Job.{Job}
use Rattle.tt_strike.specs.Picture.{drawn, frame_of, line_shapes, outlines_tested, pictured_by, placed_by_steps, placed_by_units, setting, setting_in, steps_in, text_placed}
use Rattle.tt_strike.specs.Programs.{programs_in}
use Rattle.tt_strike_laws.specs.ReadingLaws.{FacesDrawAlike}
use Rattle.tt_strike.specs.Refusals.{Refused, as_font, as_job}
use Rattle.tt_strike.specs.Work.{lays_after_glyphs}

-- the tables of glyphs
needed_same : (d e : Directory) (tag : List ℕ) → SameTables d e → needed_table d tag ≡ needed_table e tag
unfolding needed_table
needed_same d e tag same = ap (λ (t : Result (Option (List ℕ)) Fault). t >>= or_missing tag) (same tag)

abbrev by_loca : Directory → Loca → Result Glyf Fault
by_loca d loca = needed_table d glyf_tag >>= λ glyf. Ok (with_glyf loca glyf)

loca_then : (r : Result Loca Fault) (d e : Directory) → SameTables d e → (r >>= by_loca d) ≡ (r >>= by_loca e)
loca_then (Ok loca) d e same =
    ap (λ (t : Result (List ℕ) Fault). t >>= λ glyf. Ok (with_glyf loca glyf)) (needed_same d e glyf_tag same)
loca_then (Err f) d e same = refl

abbrev by_table : Directory → Metrics → List ℕ → Result Glyf Fault
by_table d m loca = loca_of loca m >>= by_loca d

table_then : (r : Result (List ℕ) Fault) (d e : Directory) (m : Metrics) → SameTables d e
    → (r >>= by_table d m) ≡ (r >>= by_table e m)
table_then (Ok loca) d e m same = loca_then (loca_of loca m) d e same
table_then (Err f) d e m same = refl

abbrev glyphs_at : Directory → Metrics → Result Glyf Fault
glyphs_at d m = needed_table d loca_tag >>= by_table d m

glyphs_same : (f g : Face) → SameTables f.directory g.directory → f.metrics ≡ g.metrics → glyphs_in f ≡ glyphs_in g
unfolding glyphs_in
glyphs_same f g same metrics =
    ap (λ (m : Metrics). glyphs_at f.directory m) metrics
    ∙ ap (λ (t : Result (List ℕ) Fault). t >>= by_table f.directory g.metrics) (needed_same f.directory g.directory loca_tag same)
    ∙ table_then (needed_table g.directory loca_tag) f.directory g.directory g.metrics same

-- the programs
optional_same : (d e : Directory) (tag : List ℕ) → SameTables d e → optional_table d tag ≡ optional_table e tag
unfolding optional_table
optional_same d e tag same = ap (λ (t : Result (Option (List ℕ)) Fault). t >>= λ table. Ok (or_empty table)) (same tag)

abbrev by_fpgm : Directory → List ℕ → List ℕ → Result ProgramTables Fault
by_fpgm d cvt fpgm = optional_table d prep_tag >>= λ prep. Ok (record { cvt = cvt; fpgm = fpgm; prep = prep })

fpgm_then : (r : Result (List ℕ) Fault) (d e : Directory) (cvt : List ℕ) → SameTables d e
    → (r >>= by_fpgm d cvt) ≡ (r >>= by_fpgm e cvt)
fpgm_then (Ok fpgm) d e cvt same =
    ap (λ (t : Result (List ℕ) Fault). t >>= λ prep. Ok (record { cvt = cvt; fpgm = fpgm; prep = prep }))
    (optional_same d e prep_tag same)
fpgm_then (Err f) d e cvt same = refl

abbrev by_cvt : Directory → List ℕ → Result ProgramTables Fault
by_cvt d cvt = optional_table d fpgm_tag >>= by_fpgm d cvt

cvt_then : (r : Result (List ℕ) Fault) (d e : Directory) → SameTables d e → (r >>= by_cvt d) ≡ (r >>= by_cvt e)
cvt_then (Ok cvt) d e same =
    ap (λ (t : Result (List ℕ) Fault). t >>= by_fpgm d cvt) (optional_same d e fpgm_tag same)
    ∙ fpgm_then (optional_table e fpgm_tag) d e cvt same
cvt_then (Err f) d e same = refl

programs_same : (d e : Directory) → SameTables d e → programs_of d ≡ programs_of e
unfolding programs_of
programs_same d e same =
    ap (λ (t : Result (List ℕ) Fault). t >>= by_cvt d) (optional_same d e cvt_tag same)
    ∙ cvt_then (optional_table e cvt_tag) d e same

fitting_same : (f g : Face) (how : Fit) → SameTables f.directory g.directory → programs_in f how ≡ programs_in g how
unfolding programs_in
fitting_same f g fit.None same = refl
fitting_same f g fit.Full same = programs_same f.directory g.directory same
fitting_same f g fit.Fallback same = programs_same f.directory g.directory same
fitting_same f g fit.Best same = programs_same f.directory g.directory same

-- the fitter
abbrev setting_by : Result Glyf Fault → Result ProgramTables Fault → Metrics → Option FaceInstance → ℕ → Fit → Result Fitter Fault
setting_by tables programs m i ppem how = tables >>= λ t. programs >>= λ p. fitter_of m t p i ppem how

setting_same : (f g : Face) (a : Job) → SameTables f.directory g.directory → f.metrics ≡ g.metrics → f.instance ≡ g.instance
    → setting_in f a ≡ setting_in g a
unfolding setting
setting_same f g a same metrics instance =
    ap (λ (t : Result Glyf Fault). setting_by t (programs_in f a.fit) f.metrics f.instance a.ppem a.fit) (glyphs_same f g same metrics)
    ∙ ap (λ (p : Result ProgramTables Fault). setting_by (glyphs_in g) p f.metrics f.instance a.ppem a.fit) (fitting_same f g a.fit same)
    ∙ ap (λ (m : Metrics). setting_by (glyphs_in g) (programs_in g a.fit) m f.instance a.ppem a.fit) metrics
    ∙ ap (λ (i : Option FaceInstance). setting_by (glyphs_in g) (programs_in g a.fit) g.metrics i a.ppem a.fit) instance

-- a picture by these three
abbrev finds_by : Option FaceInstance → Metrics → Bool
finds_by i m = is_some i && not (is_some m.advances)

abbrev units_with : Result Glyf Fault → Metrics → Option FaceInstance → ℕ → ℕ
units_with tables m i g =
    or_zero (if finds_by i m then (tables >>= λ t. glyph_units i m t g) else Ok (advance_of m g))

abbrev tested_with : Result Glyf Fault → Metrics → Option FaceInstance → List ℕ → Result (Unit {0}) Fault
tested_with tables m i gs = if finds_by i m then (tables >>= λ t. all_found (glyph_units i m t) gs) else Ok tt

abbrev placed_with : Result Glyf Fault → Result Fitter Fault → List ℕ → Metrics → Option FaceInstance → Job → Result Placement Refused
placed_with tables s gs m i a = if lays_after_glyphs a.fit
    then (as_font s >>= λ s. outlines_tested s a.fit gs >>= λ outlines. as_job (laid_at m a.ppem a.margin gs (steps_in m a.ppem s gs)))
    else (as_font (tested_with tables m i gs) >>= λ u.
    as_job (laid_at m a.ppem a.margin gs (map (λ g. g.1) (stepped m (step_by_units m a.ppem (units_with tables m i)) gs))))

abbrev drawn_with : Result Fitter Fault → Job → Placement → Result Image Refused
drawn_with s a line =
    as_font s >>= λ s. line_shapes s a line >>= λ glyphs. Ok (picture (frame_of line a.margin) glyphs)

abbrev pictured_with : Result Glyf Fault → Result Fitter Fault → List ℕ → Metrics → Option FaceInstance → Job → Result Image Refused
pictured_with tables s gs m i a = placed_with tables s gs m i a >>= drawn_with s a

by_five : (f : Face) (a : Job)
    → pictured_by f a ≡ pictured_with (glyphs_in f) (setting_in f a) (text_glyphs f.cmap a.text) f.metrics f.instance a
unfolding pictured_by text_placed placed_by_steps placed_by_units advances_tested units_of face_units drawn
by_five f a = refl

five_same : (t u : Result Glyf Fault) (r s : Result Fitter Fault) (gs hs : List ℕ) (m n : Metrics) (i j : Option FaceInstance) (a : Job)
    → t ≡ u → r ≡ s → gs ≡ hs → m ≡ n → i ≡ j → pictured_with t r gs m i a ≡ pictured_with u s hs n j a
five_same t u r s gs hs m n i j a tables fitters glyphs metrics instances =
    ap (λ (x : Result Glyf Fault). pictured_with x r gs m i a) tables
    ∙ ap (λ (x : Result Fitter Fault). pictured_with u x gs m i a) fitters
    ∙ ap (λ (xs : List ℕ). pictured_with u s xs m i a) glyphs
    ∙ ap (λ (x : Metrics). pictured_with u s hs x i a) metrics
    ∙ ap (λ (x : Option FaceInstance). pictured_with u s hs n x a) instances

pub faces_draw_alike : FacesDrawAlike
faces_draw_alike f g a same metrics instance glyphs =
    by_five f a
    ∙ five_same (glyphs_in f) (glyphs_in g) (setting_in f a) (setting_in g a) (text_glyphs f.cmap a.text) (text_glyphs g.cmap a.text)
    f.metrics g.metrics f.instance g.instance a (glyphs_same f g same metrics) (setting_same f g a same metrics instance) glyphs metrics instance
    ∙ sym (by_five g a)
