-- A font that gives a picture has no defect.
use Rattle.std.proofs.Common.{◌≡◌, ◌∙◌, refl, sym, Bool, true, false, ℕ, List, map, Ok, inl, inr}
use Rattle.tt_advances.proofs.Advances.{found_whole}
use Rattle.tt_core.specs.Chains.{came-through}
use Rattle.tt_core.specs.Directory.{HasNo}
use Rattle.tt_face.specs.Faces.{Face, glyphs_in}
use Rattle.tt_face.specs.Programs.{ProgramTables}
use Rattle.tt_face.specs.Instance.{face_at_instance}
use Rattle.tt_face.specs.Laws.{InstancesAreWhole}
use Rattle.tt_face.proofs.Whole.{glyph-tables-whole, programs-whole}
use Rattle.tt_fit.specs.declared.programs.Fit.{Fit}
use Rattle.tt_fit.specs.declared.programs.Fit.TheVariants as fit
use Rattle.tt_fit.specs.Fitting.{Fitter}
use Rattle.tt_line.specs.Laws.{PlacesGlyphs, StepsLead}
use Rattle.tt_line.specs.Layout.{Placement, text_glyphs}
use Rattle.tt_picture.specs.Pictures.{Image}
use Rattle.tt_strike.specs.Job.{Job}
use Rattle.tt_strike.specs.Defects.{IsLineDefect, IsMadeDefect, IsProgramTableDefect, IsSettingDefect, IsUnitsDefect}
use Rattle.tt_strike.specs.Work.{is_bounded}
use Rattle.tt_strike.specs.Programs.{programs_in}
use Rattle.tt_strike_laws.specs.Laws.{DrawnFontsAreWhole}
use Rattle.tt_strike.specs.Refusals.{as_font, as_job}
use Rattle.tt_strike.specs.Picture.{setting, setting_in, points_tested, shapes_in, line_shapes, drawn, pictured, pictured_by, text_placed}
use Rattle.tt_strike.proofs.Placed.{laid_by_units, of-font, placed_by_its_units, placed_glyphs}
use Rattle.tt_strike.proofs.Telling.{no_setting_defect, no_line_defect, no_run_defect}

-- without fitting no program is read
fitting-programs-whole : (face : Face) (how : Fit) (programs : ProgramTables) → programs_in face how ≡ Ok programs
    → HasNo (IsProgramTableDefect face how)
unfolding programs_in
fitting-programs-whole face fit.None programs was = λ fault defect. absurd defect
fitting-programs-whole face fit.Full programs was = programs-whole face.directory programs was
fitting-programs-whole face fit.Fallback programs was = programs-whole face.directory programs was
fitting-programs-whole face fit.Best programs was = programs-whole face.directory programs was

setting-whole : (face : Face) (a : Job) (s : Fitter) → setting_in face a ≡ Ok s → HasNo (IsSettingDefect face a)
unfolding setting
setting-whole face a s was =
    let by_tables = came-through (glyphs_in face) _ s was in
    let by_programs = came-through (programs_in face a.fit) _ s by_tables.rest in
    no_setting_defect face a by_tables.value by_programs.value s
    (glyph-tables-whole face by_tables.value by_tables.first)
    (fitting-programs-whole face a.fit by_programs.value by_programs.first) by_programs.first by_programs.rest

line-whole : (face : Face) (a : Job) (line : Placement) (i : Image) → drawn face a line ≡ Ok i
    → HasNo (IsMadeDefect face a (map (λ g. g.0) line.glyphs))
unfolding drawn
line-whole face a line i was =
    let by_setting = came-through (as_font (setting_in face a)) _ i was in
    let s = by_setting.value in
    let there = of-font (setting_in face a) s by_setting.first in
    let by_edges = came-through (line_shapes s a line) _ i by_setting.rest in
    let by_points = came-through (as_job (points_tested s a line)) _ by_edges.value by_edges.first in
    let by_glyphs = came-through (as_font (shapes_in s line)) _ by_edges.value by_points.rest in
    no_line_defect face a s line.glyphs by_glyphs.value there (setting-whole face a s there)
    (of-font (shapes_in s line) by_glyphs.value by_glyphs.first)

-- the advances of a text that is placed have no defect, where it is placed by them
units-whole : (bounded : Bool) (face : Face) (a : Job) (line : Placement) → is_bounded a.fit ≡ bounded → text_placed face a ≡ Ok line
    → HasNo (IsUnitsDefect face a (text_glyphs face.cmap a.text))
units-whole true face a line is placed = λ fault defect. let never : true ≡ false = sym is ∙ defect.0 in absurd cc
units-whole false face a line is placed = λ fault defect.
    let found = (laid_by_units face a line (rw (placed_by_its_units face a is) at placed)).found in
    found_whole face (text_glyphs face.cmap a.text) found fault defect.1

whole-line : (face : Face) (a : Job) (gs : List ℕ) → HasNo (IsMadeDefect face a gs) → HasNo (IsUnitsDefect face a gs)
    → HasNo (IsLineDefect face a gs)
whole-line face a gs made units = λ fault defect. elim defect [
  | inl one ↦ made fault one
  | inr other ↦ units fault other
]

pub drawn-whole : InstancesAreWhole → PlacesGlyphs → StepsLead → DrawnFontsAreWhole
unfolding pictured pictured_by
drawn-whole read places lead r asked a file i was =
    let by_face = came-through (as_font (face_at_instance file r asked)) _ i was in
    let face = by_face.value in
    let by_line = came-through (text_placed face a) _ i by_face.rest in
    let line = by_line.value in
    let there = of-font (face_at_instance file r asked) face by_face.first in
    let glyphs = placed_glyphs places lead face a line by_line.first in
    no_run_defect r asked a file face (map (λ g. g.0) line.glyphs) there (read file r asked face there) glyphs
    (whole-line face a (map (λ g. g.0) line.glyphs) (line-whole face a line i by_line.rest)
    (rw glyphs (units-whole (is_bounded a.fit) face a line refl by_line.first)))
