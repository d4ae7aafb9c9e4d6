-- The characters of a file, and the defects of their glyphs.
use Rattle.std.proofs.Common.{◌≡◌, refl, sym, subst, ℕ, ◌<◌, Bool, true, false, nat_lt, List, [], ◌∷◌, length, Result, Ok, Err, inl, inr, arith}
use Rattle.std.specs.Prelude.{All, if◌then◌else◌}
use Rattle.std.proofs.lemmas.Bool.Decides.{nat_tests}
use Rattle.std.proofs.lemmas.List.Elements.{All-head, All-tail}
use Rattle.tt_bdf.specs.Asked.{characters_of, file_characters, some_character}
use Rattle.tt_bdf.specs.declared.range.CodeRange.{CodeRange}
use Rattle.tt_cmap.specs.Maps.{CharacterMap}
use Rattle.tt_core.specs.declared.fault.JobFault.{JobFault}
use Rattle.tt_core.specs.declared.fault.JobFault.TheVariants as job
use Rattle.tt_core.specs.Directory.{HasNo}
use Rattle.tt_core.specs.Faults.{Fault}
use Rattle.tt_core.specs.Limits.{text_limit}
use Rattle.tt_core.specs.Outcomes.{◌>>=◌}
use Rattle.tt_face.specs.Faces.{Face}
use Rattle.tt_glyphs.specs.Defects.{IsListDefect}
use Rattle.tt_glyphs.proofs.RefusedAdvances.{list_advances}
use Rattle.tt_glyphs.specs.Listed.{known_of}
use Rattle.tt_glyphs.specs.Requests.{Bitmaps, sound_outcome}
use Rattle.tt_metrics.specs.Metrics.{glyphs_of}
use Rattle.tt_render_settings.specs.Settings.{job_by}
use Rattle.tt_strike.specs.Defects.{IsLineDefect, IsMadeDefect}
use Rattle.tt_bitmap_font.specs.Characters.{asked_ranges, file_glyphs, glyphs_for}
use Rattle.tt_bitmap_font.specs.declared.font_file.FontFile.{FontFile}
use Rattle.tt_bitmap_font.specs.FontFiles.{IsGlyphsDefect, glyph_job, setting_of}

came : (b : Bool) (xs cs : List ℕ)
    → ◌≡◌ {A = Result (List ℕ) JobFault} ((if b then Err job.TextLong else Ok xs) >>= some_character) (Ok cs) → xs ≡ cs
came true xs cs is = absurd cc
came false [] cs is = absurd cc
came false (x ∷ xs) cs is = cc

-- the characters of a file that is not refused are those of the definition
pub characters_are : (m : CharacterMap) (rs : List CodeRange) (cs : List ℕ) → file_characters m rs ≡ Ok cs
    → characters_of m rs ≡ cs
unfolding file_characters
characters_are m rs cs is = came (nat_lt text_limit (length (characters_of m rs))) (characters_of m rs) cs is

-- all numbers below a count are known
pub all_known : (n : ℕ) (gs : List ℕ) → All (λ g. g < n) gs → known_of n gs ≡ gs
all_known n [] all = refl
all_known n (g ∷ gs) all =
    let below : g < n = All-head (λ h. h < n) g gs all in
    let is : nat_lt g n ≡ true = grind (arith, nat_tests, below) in
    rw (is, all_known n gs (All-tail (λ h. h < n) g gs all)) refl

-- the glyphs of a request are those of the file
pub same_glyphs : (a : FontFile) (face : Face) (cs : List ℕ)
    → file_characters face.cmap (asked_ranges a.ranges.now a.text.now) ≡ Ok cs
    → All (λ g. g < glyphs_of face.metrics) (glyphs_for face.cmap cs)
    → known_of (glyphs_of face.metrics) (glyphs_for face.cmap cs) ≡ file_glyphs a.ranges.now face.cmap a.text.now
same_glyphs a face cs is known =
    let characters = characters_are face.cmap (asked_ranges a.ranges.now a.text.now) cs is in
    rw (all_known (glyphs_of face.metrics) (glyphs_for face.cmap cs) known, characters) refl

pub list_to_file : (a : FontFile) (face : Face) (cs : List ℕ) (f : Fault)
    → known_of (glyphs_of face.metrics) (glyphs_for face.cmap cs) ≡ file_glyphs a.ranges.now face.cmap a.text.now
    → IsListDefect face (glyph_job a face cs) f → IsGlyphsDefect a face f
list_to_file a face cs f same stands =
    inl (subst (λ (gs : List ℕ). IsMadeDefect face (job_by (setting_of a) a.text.now) gs f) same stands)

-- glyphs that are made have advances
pub file_sound : (a : FontFile) (face : Face) (cs : List ℕ) (b : Bitmaps)
    → known_of (glyphs_of face.metrics) (glyphs_for face.cmap cs) ≡ file_glyphs a.ranges.now face.cmap a.text.now
    → sound_outcome face (glyph_job a face cs) ≡ Ok b → HasNo (IsListDefect face (glyph_job a face cs)) → HasNo (IsGlyphsDefect a face)
file_sound a face cs b same made none = λ f defect.
    let P : List ℕ → Type 0 = λ gs. IsLineDefect face (job_by (setting_of a) a.text.now) gs f in
    let advances = list_advances face (glyph_job a face cs) b made none in
    elim (subst P (sym same) defect) [
      | inl one ↦ none f one
      | inr units ↦ advances f units.1
    ]
