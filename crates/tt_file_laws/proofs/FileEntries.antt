-- The characters of a file with the entries of their glyphs, all of which are made.
use Rattle.std.proofs.Common.{◌≡◌, ◌∙◌, refl, sym, ap, ap₂, subst, ℕ, zero, suc, ◌<◌, ◌==◌, Bool, true, false, ◌||◌, cond, nat_lt, List, [], ◌∷◌, length, get_or, map, find, Option, Some, Result, Ok, All, Contains, arith}
use Rattle.std.proofs.lemmas.Bool.{eqb-true, or_parts, or_right}
use Rattle.std.proofs.lemmas.Bool.Decides.{nat_tests}
use Rattle.std.proofs.lemmas.List.{get_or-map, length-map}
use Rattle.std.proofs.lemmas.List.Elements.{All-head, All-tail}
use Rattle.std.specs.List.{cons_option}
use Rattle.tt_bdf.specs.Asked.{file_characters}
use Rattle.tt_bdf.specs.Composed.{characters_in}
use Rattle.tt_bdf.specs.declared.character.BdfCharacter.{BdfCharacter}
use Rattle.tt_core.specs.Chains.{came-through, passed}
use Rattle.tt_core.specs.declared.fault.JobFault.TheVariants as job
use Rattle.tt_face.specs.Faces.{Face}
use Rattle.tt_fit.specs.Fitting.{Fitter}
use Rattle.tt_glyphs.specs.Defects.{AreSound, IsSoundReport}
use Rattle.tt_glyphs.specs.declared.told.GlyphEntry.{GlyphEntry}
use Rattle.tt_glyphs.specs.declared.told.MadeBitmap.{MadeBitmap}
use Rattle.tt_glyphs.specs.declared.told.Told.{Told}
use Rattle.tt_glyphs.specs.declared.told.Told.TheVariants as told
use Rattle.tt_glyphs.specs.Entries.{entries, entry_of, known, number_told}
use Rattle.tt_glyphs.specs.Requests.{Bitmaps, bitmaps_by, edges_of_list_tested, request_begun, sound_outcome}
use Rattle.tt_glyphs.proofs.ListFacts.{begun_setting, entries_sound, sound_begun}
use Rattle.tt_metrics.specs.Metrics.{glyphs_of}
use Rattle.tt_picture.specs.Distinct.{is_among}
use Rattle.tt_strike.specs.Picture.{outlines_in, setting}
use Rattle.tt_strike.specs.Refusals.{as_font, as_job}
use Rattle.tt_strike.proofs.Placed.{of-font, of-job}
use Rattle.tt_bitmap_font.specs.Bitmaps.{character_by, character_told, characters_by, has_large, is_too_large, rows_limit, size_of_rows_tested}
use Rattle.tt_bitmap_font.specs.Characters.{asked_ranges, glyph_for, glyphs_for}
use Rattle.tt_bitmap_font.specs.declared.font_file.FontFile.{FontFile}
use Rattle.tt_bitmap_font.specs.FontFiles.{file_bitmaps, glyph_job}

-- a file that is not refused: its characters, and the entries and rows of their glyphs by its fitter
pub record IsFile (a : FontFile) (face : Face) (cs : List ℕ) (b : Bitmaps) : Type 0 where
  pub listed : file_characters face.cmap (asked_ranges a.ranges.now a.text.now) ≡ Ok cs
  pub fitter : Fitter
  pub set : setting face a.size a.fit ≡ Ok fitter
  pub is : b ≡ bitmaps_by a.fit (glyphs_for face.cmap cs) fitter
  pub sound : AreSound (glyphs_of fitter.metrics) (entries a.fit fitter (glyphs_for face.cmap cs))
  pub small : has_large b.entries ≡ false

ok_same : {X E : Type 0} (x y : X) → ◌≡◌ {A = Result X E} (Ok x) (Ok y) → x ≡ y
ok_same x y is = cc

small_by : (b : Bitmaps) (u : Unit {0}) → size_of_rows_tested b ≡ Ok u → has_large b.entries ≡ false
unfolding size_of_rows_tested
small_by b u is =
    let test = passed (has_large b.entries || nat_lt rows_limit b.wanted) job.PictureLarge tt u is in
    (or_parts (has_large b.entries) (nat_lt rows_limit b.wanted) test.0).0

by_list : (a : FontFile) (face : Face) (cs : List ℕ) (b : Bitmaps) (u : Unit {0})
    → file_characters face.cmap (asked_ranges a.ranges.now a.text.now) ≡ Ok cs
    → sound_outcome face (glyph_job a face cs) ≡ Ok b → size_of_rows_tested b ≡ Ok u → IsFile a face cs b
by_list a face cs b u listed made fits =
    let j = glyph_job a face cs in
    let gs = glyphs_for face.cmap cs in
    let by_fitter = came-through (request_begun face j) _ b (sym (sound_begun face j) ∙ made) in
    let s = by_fitter.value in
    let by_outlines = came-through (as_font (outlines_in s (known s gs))) _ b by_fitter.rest in
    let by_edges = came-through (as_job (edges_of_list_tested a.fit s (known s gs))) _ b by_outlines.rest in
    record {
      listed = listed;
      fitter = s;
      set = begun_setting face j s by_fitter.first;
      is = sym (ok_same (bitmaps_by a.fit gs s) b by_edges.rest);
      sound = entries_sound a.fit s gs by_outlines.value (of-font (outlines_in s (known s gs)) by_outlines.value by_outlines.first);
      small = small_by b u fits;
    }

pub is_file : (a : FontFile) (face : Face) (cs : List ℕ) (b : Bitmaps) → file_bitmaps a face ≡ Ok (cs, b) → IsFile a face cs b
unfolding file_bitmaps
is_file a face cs b was =
    let by_codes = came-through (as_job (file_characters face.cmap (asked_ranges a.ranges.now a.text.now))) _ (cs, b) was in
    let ds = by_codes.value in
    let by_glyphs = came-through (sound_outcome face (glyph_job a face ds)) _ (cs, b) by_codes.rest in
    let d = by_glyphs.value in
    let by_size = came-through (as_job (size_of_rows_tested d)) _ (cs, b) by_glyphs.rest in
    let first : List ℕ × Bitmaps = (ds, d) in
    let given : List ℕ × Bitmaps = (cs, b) in
    let both : first ≡ given = ok_same first given by_size.rest in
    let listed = of-job (file_characters face.cmap (asked_ranges a.ranges.now a.text.now)) ds by_codes.first in
    let fits = of-job (size_of_rows_tested d) by_size.value by_size.first in
    subst (λ (p : List ℕ × Bitmaps). IsFile a face p.0 p.1) both (by_list a face ds d by_size.value listed by_glyphs.first fits)

-- each character has the entry of its glyph

pub characters_made : (face : Face) (entry : ℕ → GlyphEntry) (cs : List ℕ)
    → characters_by face cs (map entry (glyphs_for face.cmap cs)) ≡ map (λ (x : ℕ). character_by face x (entry (glyph_for face.cmap x))) cs
characters_made face entry [] = refl
characters_made face entry (c ∷ cs) =
    ap (λ (ds : List BdfCharacter). character_by face c (entry (glyph_for face.cmap c)) ∷ ds) (characters_made face entry cs)

pub code_is : (code units at : ℕ) (t : Told) → (character_told code units at t).code ≡ code
code_is code units at told.Unknown = refl
code_is code units at (told.Broken fault) = refl
code_is code units at told.Large = refl
code_is code units at (told.Made m) = refl

pub codes_are : (file : ℕ → BdfCharacter) → ((x : ℕ) → (file x).code ≡ x) → (cs : List ℕ)
    → map (λ (c : BdfCharacter). c.code) (map file cs) ≡ cs
codes_are file coded [] = refl
codes_are file coded (c ∷ cs) = ap₂ (λ (x : ℕ) (xs : List ℕ). x ∷ xs) (coded c) (codes_are file coded cs)

-- a character is found by its code point

found_later : (file : ℕ → BdfCharacter) → ((y : ℕ) → (file y).code ≡ y) → (c x : ℕ) (rest : Option BdfCharacter) (b : Bool)
    → ((file c).code == x) ≡ b → rest ≡ Some (file x) → cond b (Some (file c)) rest ≡ Some (file x)
found_later file coded c x rest true is later =
    let same : c ≡ x = sym (coded c) ∙ eqb-true (file c).code x is in
    ap (λ (y : ℕ). Some (file y)) same
found_later file coded c x rest false is later = later

found : (file : ℕ → BdfCharacter) → ((y : ℕ) → (file y).code ≡ y) → (cs : List ℕ) (x k : ℕ) → k < length cs
    → get_or cs k x ≡ x → find (λ (c : BdfCharacter). c.code == x) (map file cs) ≡ Some (file x)
found file coded [] x k below at = absurd (omega (arith, below))
found file coded (c ∷ cs) x zero below at =
    let code : (file c).code ≡ x = coded c ∙ at in
    let test : ((file c).code == x) ≡ true = grind (arith, nat_tests, code) in
    rw test (ap (λ (y : ℕ). Some (file y)) at)
found file coded (c ∷ cs) x (suc k) below at =
    found_later file coded c x (find (λ (d : BdfCharacter). d.code == x) (map file cs)) ((file c).code == x) refl
    (found file coded cs x k (omega (arith, below)) at)

-- so the characters of a text are those of its code points
pub characters_are : (file : ℕ → BdfCharacter) → ((y : ℕ) → (file y).code ≡ y) → (cs text : List ℕ)
    → All (λ (x : ℕ). Contains cs x) text → characters_in (map file cs) text ≡ map file text
characters_are file coded cs [] all = refl
characters_are file coded cs (x ∷ xs) all =
    let P : ℕ → Type 0 = λ y. Contains cs y in
    let here = All-head P x xs all in
    ap₂ (λ (o : Option BdfCharacter) (ds : List BdfCharacter). cons_option o ds) (found file coded cs x here.0 here.1 here.2)
    (characters_are file coded cs xs (All-tail P x xs all))

-- a glyph of a file is made

none_large : (es : List GlyphEntry) (k : ℕ) (e : GlyphEntry) → has_large es ≡ false → k < length es
    → is_too_large (get_or es k e).told ≡ false
none_large [] k e small below = absurd (omega (arith, below))
none_large (d ∷ es) zero e small below = (or_parts (is_too_large d.told) (has_large es) small).0
none_large (d ∷ es) (suc k) e small below =
    none_large es k e (or_parts (is_too_large d.told) (has_large es) small).1 (omega (arith, below))

made_by : (count g : ℕ) (t : Told) → g < count → IsSoundReport count g t → is_too_large t ≡ false
    → (m : MadeBitmap) × (t ≡ told.Made m)
made_by count g told.Unknown below sound small = absurd (omega (arith, below, sound))
made_by count g (told.Broken fault) below sound small = absurd sound
made_by count g told.Large below sound small = absurd cc
made_by count g (told.Made m) below sound small = (m, refl)

pub is_made : (a : FontFile) (face : Face) (cs : List ℕ) (b : Bitmaps) (f : IsFile a face cs b) (x : ℕ) → Contains cs x
    → glyph_for face.cmap x < glyphs_of (f.fitter).metrics
    → (m : MadeBitmap) × (number_told a.fit f.fitter (glyphs_for face.cmap cs) (glyph_for face.cmap x) ≡ told.Made m)
is_made a face cs b f x here below =
    let s = f.fitter in
    let gs = glyphs_for face.cmap cs in
    let g = glyph_for face.cmap x in
    let entry = entry_of a.fit s gs in
    let e = entry g in
    let k = here.0 in
    let first : k < length cs = here.1 in
    let second : k < length gs = omega (arith, first, length-map cs (glyph_for face.cmap)) in
    let third : k < length (entries a.fit s gs) = omega (arith, second, length-map gs entry) in
    let number : get_or gs k 0 ≡ g = get_or-map (glyph_for face.cmap) cs k x 0 first ∙ ap (glyph_for face.cmap) here.2 in
    let at : get_or (entries a.fit s gs) k e ≡ e = get_or-map entry gs k 0 e second ∙ ap entry number in
    let sound : IsSoundReport (glyphs_of s.metrics) g e.told =
    subst (λ (d : GlyphEntry). IsSoundReport (glyphs_of s.metrics) d.glyph d.told) at (f.sound k e third) in
    let none : has_large (entries a.fit s gs) ≡ false = sym (ap (λ (c : Bitmaps). has_large c.entries) f.is) ∙ f.small in
    let small : is_too_large e.told ≡ false =
    sym (ap (λ (d : GlyphEntry). is_too_large d.told) at) ∙ none_large (entries a.fit s gs) k e none third in
    made_by (glyphs_of s.metrics) g e.told below sound small

-- and it is among the glyphs of the file
pub among_glyphs : (h : ℕ → ℕ) (cs : List ℕ) (x k : ℕ) → k < length cs → get_or cs k x ≡ x → is_among (h x) (map h cs) ≡ true
among_glyphs h [] x k below at = absurd (omega (arith, below))
among_glyphs h (c ∷ cs) x zero below at =
    let same : h c ≡ h x = ap h at in
    let test : (h c == h x) ≡ true = grind (arith, nat_tests, same) in
    rw test refl
among_glyphs h (c ∷ cs) x (suc k) below at =
    or_right (h c == h x) (is_among (h x) (map h cs)) (among_glyphs h cs x k (omega (arith, below)) at)
