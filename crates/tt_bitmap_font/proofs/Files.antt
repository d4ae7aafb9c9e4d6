-- The steps of a file, joined.
use Rattle.std.proofs.Common.{◌≡◌, refl, ℕ, List, Result, Ok, Err}
use Rattle.std.specs.Prelude.{IfSome}
use Rattle.tt_bdf.specs.Asked.{file_characters}
use Rattle.tt_core.specs.declared.draw_fault.DrawFault.{DrawFault}
use Rattle.tt_core.specs.declared.draw_fault.DrawFault.TheVariants as draw
use Rattle.tt_core.specs.declared.fault.JobFault.{JobFault}
use Rattle.tt_core.specs.Faults.{Fault}
use Rattle.tt_core.specs.Outcomes.{JobGives, draw_font_fault}
use Rattle.tt_face.specs.Faces.{Face}
use Rattle.tt_glyphs.specs.Defects.{IsListDefect}
use Rattle.tt_glyphs.specs.Listed.{known_of}
use Rattle.tt_glyphs.specs.Requests.{Bitmaps, sound_outcome}
use Rattle.tt_metrics.specs.Metrics.{glyphs_of}
use Rattle.tt_render_settings.specs.TextsOutcome.{told}
use Rattle.tt_render_texts.specs.Views.{refusal_of_draw}
use Rattle.tt_strike.specs.Refusals.{job, refusal}
use Rattle.tt_bitmap_font.specs.Bitmaps.{size_of_rows_tested}
use Rattle.tt_bitmap_font.specs.Characters.{asked_ranges, file_glyphs, glyphs_for}
use Rattle.tt_bitmap_font.specs.declared.font_file.FontFile.{FontFile}
use Rattle.tt_bitmap_font.specs.FontFiles.{IsGlyphsDefect, answer_by, bdf_outcome, file_bitmaps, glyph_job}
use Rattle.tt_bitmap_font.proofs.FileGlyphs.{list_to_file}

-- the characters refuse a file
pub characters_refuse : (a : FontFile) (face : Face) (d : DrawFault)
    → JobGives {X = List ℕ} (λ cs. cs) (Err d) (file_characters face.cmap (asked_ranges a.ranges.now a.text.now))
    → IfSome (refusal d) (λ e. file_bitmaps a face ≡ Err e)
unfolding file_bitmaps
characters_refuse a face (draw.Font f) gives = absurd gives
characters_refuse a face (draw.Job j) gives = rw gives refl
characters_refuse a face draw.Memory gives = tt

pub characters_tell : (P : Fault → Type 0) (d : DrawFault) (r : Result (List ℕ) JobFault)
    → JobGives {X = List ℕ} (λ cs. cs) (Err d) r → IfSome (draw_font_fault d) P
characters_tell P (draw.Font f) r gives = absurd gives
characters_tell P (draw.Job j) r gives = tt
characters_tell P draw.Memory r gives = tt

-- the glyphs refuse a file
pub list_refuses : (a : FontFile) (face : Face) (cs : List ℕ) (d : DrawFault)
    → file_characters face.cmap (asked_ranges a.ranges.now a.text.now) ≡ Ok cs
    → IfSome (refusal d) (λ e. sound_outcome face (glyph_job a face cs) ≡ Err e)
    → IfSome (refusal d) (λ e. file_bitmaps a face ≡ Err e)
unfolding file_bitmaps
list_refuses a face cs (draw.Font f) are refused = rw (are, refused) refl
list_refuses a face cs (draw.Job j) are refused = rw (are, refused) refl
list_refuses a face cs draw.Memory are refused = tt

pub list_tells : (a : FontFile) (face : Face) (cs : List ℕ) (d : DrawFault)
    → known_of (glyphs_of face.metrics) (glyphs_for face.cmap cs) ≡ file_glyphs a.ranges.now face.cmap a.text.now
    → IfSome (draw_font_fault d) (IsListDefect face (glyph_job a face cs))
    → IfSome (draw_font_fault d) (IsGlyphsDefect a face)
list_tells a face cs (draw.Font f) same stands = list_to_file a face cs f same stands
list_tells a face cs (draw.Job j) same stands = tt
list_tells a face cs draw.Memory same stands = tt

-- the size of the bitmaps refuses a file, or does not
pub size_refuses : (a : FontFile) (face : Face) (cs : List ℕ) (b : Bitmaps) (j : JobFault)
    → file_characters face.cmap (asked_ranges a.ranges.now a.text.now) ≡ Ok cs
    → sound_outcome face (glyph_job a face cs) ≡ Ok b → size_of_rows_tested b ≡ Err j → file_bitmaps a face ≡ Err (job j)
unfolding file_bitmaps
size_refuses a face cs b j are made refused = rw (are, made, refused) refl

pub bitmaps_made : (a : FontFile) (face : Face) (cs : List ℕ) (b : Bitmaps)
    → file_characters face.cmap (asked_ranges a.ranges.now a.text.now) ≡ Ok cs
    → sound_outcome face (glyph_job a face cs) ≡ Ok b → size_of_rows_tested b ≡ Ok tt → file_bitmaps a face ≡ Ok (cs, b)
unfolding file_bitmaps
bitmaps_made a face cs b are made fits = rw (are, made, fits) refl

-- a refusal of the bitmaps is one of the file
pub bitmaps_stop : (a : FontFile) (face : Face) (d : DrawFault) → IfSome (refusal d) (λ e. file_bitmaps a face ≡ Err e)
    → IfSome (told (refusal_of_draw d)) (λ e. bdf_outcome a face ≡ Err e)
unfolding bdf_outcome
bitmaps_stop a face (draw.Font f) is = rw is refl
bitmaps_stop a face (draw.Job j) is = rw is refl
bitmaps_stop a face draw.Memory is = tt

pub answer_made : (a : FontFile) (face : Face) (p : List ℕ × Bitmaps) → file_bitmaps a face ≡ Ok p
    → bdf_outcome a face ≡ Ok (answer_by a face p)
unfolding bdf_outcome
answer_made a face p is = rw is refl
