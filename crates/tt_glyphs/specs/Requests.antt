-- No part of the standard: a request for the bitmaps of a list of glyphs, and the order of its refusals (profile). Only
-- with best is the work bounded: the distinct glyphs count as those of a line. A refused glyph has its fault in its
-- report. A caller that wants no such report has the list refused.
use Rattle.std.specs.Prelude.{◌≡◌, refl, ℕ, ◌+◌, nat_lt, if◌then◌else◌, List, [], ◌∷◌, length, Result, Ok, Err}
use Rattle.std.specs.List.{sum_by}
use Rattle.tt_core.specs.declared.collection.Reading.{Reading}
use Rattle.tt_core.specs.declared.fault.JobFault.{JobFault}
use Rattle.tt_core.specs.declared.fault.JobFault.TheVariants as job
use Rattle.tt_core.specs.Faults.{Fault}
use Rattle.tt_core.specs.Limits.{text_limit}
use Rattle.tt_core.specs.Outcomes.{◌>>=◌}
use Rattle.tt_face.specs.Faces.{Face}
use Rattle.tt_face.specs.Files.{face_by}
use Rattle.tt_fit.specs.declared.programs.Fit.{Fit}
use Rattle.tt_fit.specs.Fitting.{Fitter, fitted_outline}
use Rattle.tt_fit.specs.outline.Outline.{Outline}
use Rattle.tt_picture.specs.Distinct.{distinct}
use Rattle.tt_picture.specs.Shapes.{chords_with, edges_at, filled_by, filling_crossings}
use Rattle.tt_scan_dropouts.specs.Counted.{edges_counted}
use Rattle.tt_strike.specs.Job.{size_tested}
use Rattle.tt_strike.specs.Picture.{outlines_in, setting}
use Rattle.tt_strike.specs.Refusals.{Refused, as_font, as_job}
use Rattle.tt_strike.specs.Work.{asked_tested, chords_in, edges_limited, line_fitter, work_left}
use Rattle.tt_glyphs.specs.declared.told.GlyphEntry.{GlyphEntry}
use Rattle.tt_glyphs.specs.Entries.{all_rows, bytes_wanted, entries, known}

-- a list of glyph numbers, the pixels per em, and how outlines are fitted
pub record GlyphJob : Type 0 where
  pub glyphs : List ℕ
  pub ppem : ℕ
  pub fit : Fit

abbrev pub job_for : List ℕ → ℕ → Fit → GlyphJob
job_for gs ppem how = record { glyphs = gs; ppem = ppem; fit = how }

-- the limits of a request, in the order of their tests
unfoldable pub count_tested : List ℕ → Result (Unit {0}) JobFault
count_tested gs = if nat_lt text_limit (length gs) then Err job.TextLong else Ok tt

abbrev pub limits_tested : List ℕ → ℕ → Result (Unit {0}) JobFault
limits_tested gs ppem = size_tested ppem >>= λ u. count_tested gs

abbrev pub request_tested : GlyphJob → Result (Unit {0}) JobFault
request_tested a = limits_tested a.glyphs a.ppem

-- the crossings of an outline in a picture that holds all of it; a glyph that is refused has none
abbrev pub outline_crossings : Fitter → ℕ → Result Outline Fault → ℕ
outline_crossings s g (Ok o) = edges_counted (edges_at (chords_with s) 0 o)
    + filling_crossings (filled_by s g o) (edges_at (chords_with s) 0 o)
outline_crossings s g (Err fault) = 0

unfoldable pub glyph_crossings : Fitter → ℕ → ℕ
glyph_crossings s g = outline_crossings s g (fitted_outline s g)

-- the crossings of the distinct glyphs of a list
abbrev pub crossings_of_list : Fitter → List ℕ → ℕ
crossings_of_list s gs = sum_by (λ g. glyph_crossings (line_fitter s gs g) g) (distinct gs)

-- a list's glyphs have few enough points and deltas
abbrev pub points_of_list_tested : Fit → Fitter → List ℕ → Result (Unit {0}) JobFault
points_of_list_tested how s gs = asked_tested how s gs

-- and few enough chords and crossings for the work that remains
abbrev pub edges_of_list_tested : Fit → Fitter → List ℕ → Result (Unit {0}) JobFault
edges_of_list_tested how s gs = edges_limited how (work_left s gs) (chords_in s gs) (crossings_of_list s gs)

-- the fitter for a request, once the points and deltas of the list's glyphs are tested; or the first refusal
unfoldable pub fitter_for_request : Face → GlyphJob → Result Fitter Refused
fitter_for_request face a =
    as_font (setting face a.ppem a.fit) >>= λ s.
    as_job (points_of_list_tested a.fit s (known s a.glyphs)) >>= λ u.
    Ok s

-- the same, once the request is tested
unfoldable pub request_begun : Face → GlyphJob → Result Fitter Refused
request_begun face a = as_job (request_tested a) >>= λ u. fitter_for_request face a

-- the entries, the bytes of all rows, and the rows
pub record Bitmaps : Type 0 where
  pub entries : List GlyphEntry
  pub wanted : ℕ
  pub rows : List ℕ

abbrev pub bitmaps_by : Fit → List ℕ → Fitter → Bitmaps
bitmaps_by how gs s = record { entries = entries how s gs; wanted = bytes_wanted how s gs; rows = all_rows how s gs }

-- the bitmaps by a fitter, once the chords and the crossings are tested
abbrev pub bitmaps_tested : Fit → List ℕ → Fitter → Result Bitmaps Refused
bitmaps_tested how gs s = as_job (edges_of_list_tested how s (known s gs)) >>= λ u. Ok (bitmaps_by how gs s)

-- the bitmaps of a request by a face's tables, or the first refusal
unfoldable pub bitmaps_in : Face → GlyphJob → Result Bitmaps Refused
bitmaps_in face a = fitter_for_request face a >>= λ s. bitmaps_tested a.fit a.glyphs s

-- the same, once the request is tested
unfoldable pub bitmaps_outcome : Face → GlyphJob → Result Bitmaps Refused
bitmaps_outcome face a = as_job (request_tested a) >>= λ u. bitmaps_in face a

-- the same where no glyph may be refused: the first glyph whose outline is refused refuses the list, after the points are
-- tested and before the chords
unfoldable pub sound_in : Face → GlyphJob → Result Bitmaps Refused
sound_in face a =
    fitter_for_request face a >>= λ s.
    as_font (outlines_in s (known s a.glyphs)) >>= λ outlines.
    bitmaps_tested a.fit a.glyphs s

unfoldable pub sound_outcome : Face → GlyphJob → Result Bitmaps Refused
sound_outcome face a = as_job (request_tested a) >>= λ u. sound_in face a

-- the same by a reading of a font file
abbrev pub bitmaps_of_file : Reading → GlyphJob → List ℕ → Result Bitmaps Refused
bitmaps_of_file r a file =
    as_job (request_tested a) >>= λ u. as_font (face_by file r) >>= λ face. bitmaps_in face a

-- what a call with a room for rows answers: all is done, or the bytes that are wanted
pub data Roomed : Type 0 where
  done : Bitmaps → Roomed
  small : ℕ → Roomed

abbrev pub in_room : ℕ → Bitmaps → Roomed
in_room room b = if nat_lt room b.wanted then small b.wanted else done b

-- the answer of a call
unfoldable pub bitmaps_answer : ℕ → Face → GlyphJob → Result Roomed Refused
bitmaps_answer room face a = bitmaps_outcome face a >>= λ b. Ok (in_room room b)

-- worked values
as_much_as_wanted : in_room 2 (record { entries = []; wanted = 2; rows = 0xC0 ∷ 0xC0 ∷ [] })
    ≡ done (record { entries = []; wanted = 2; rows = 0xC0 ∷ 0xC0 ∷ [] })
as_much_as_wanted = refl

one_byte_less : in_room 1 (record { entries = []; wanted = 2; rows = 0xC0 ∷ 0xC0 ∷ [] }) ≡ small 2
one_byte_less = refl
