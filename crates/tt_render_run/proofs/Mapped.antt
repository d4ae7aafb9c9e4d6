-- The lines of a text by the advances of its glyphs, which are found first.
use Rattle.std.proofs.Common.{◌≡◌, ◌∙◌, refl, sym, ap, ℕ, true, false, List, [], ◌∷◌, ◌++◌, map, Option, Result, Ok, Err, inl, inr, subst}
use Rattle.std.proofs.lemmas.List.{append-nil, append_assoc}
use Rattle.std.specs.Prelude.{IfSome, IsOkAnd}
use Rattle.tt_advances.proofs.Advances.{plain_advances, units_by_tables}
use Rattle.tt_advances.specs.Defects.{IsAdvanceDefect}
use Rattle.tt_advances.specs.Found.{advances_tested, all_found, glyph_units, units_of}
use Rattle.tt_cmap.specs.declared.units.TextUnit.{TextUnit}
use Rattle.tt_core.specs.declared.collection.Reading.{Reading}
use Rattle.tt_core.specs.declared.font_fault.FontFault.{FontFault}
use Rattle.tt_core.specs.declared.font_fault.FontFault.TheVariants as fault
use Rattle.tt_core.specs.Directory.{HasNo}
use Rattle.tt_core.specs.Faults.{Fault}
use Rattle.tt_core.specs.Outcomes.{◌>>=◌, FontGives, font_fault}
use Rattle.tt_face.specs.Faces.{Face, finds_advances, glyphs_in}
use Rattle.tt_face.specs.Instance.{Asked, IsDefectAtInstance, face_at_instance}
use Rattle.tt_face.specs.Rules.{plain_opening}
use Rattle.tt_glyf.specs.Loca.{Glyf}
use Rattle.tt_line.specs.Layout.{text_glyphs}
use Rattle.tt_render_run.specs.MapLines.{IsMapDefect, lines_in, lines_of, map_lines}
use Rattle.tt_strike.specs.Defects.{TellsDefects}

-- where no advance is found, the lines are those of the tables
pub plain_lines : (face : Face) (text bytes : List ℕ) → finds_advances face ≡ false → bytes ≡ map_lines face text → lines_in face text ≡ Ok bytes
unfolding lines_in
plain_lines face text bytes off are = rw ((plain_advances face off).tested (text_glyphs face.cmap text), are) refl

-- the lines of a face are those of its file
pub lines_of_face : {X : Type 0} (view : X → List ℕ) (r : Reading) (i : Option Asked) (file text : List ℕ) (face : Face) (result : Result X FontFault)
    → face_at_instance file (plain_opening r) i ≡ Ok face → FontGives view result (lines_in face text)
    → FontGives view result (lines_of r i file text)
unfolding lines_of
lines_of_face view r i file text face result there gives = rw there gives

pub face_stops : {X : Type 0} (view : X → List ℕ) (r : Reading) (i : Option Asked) (file text : List ℕ) (f : Fault)
    → face_at_instance file (plain_opening r) i ≡ Err f → lines_of r i file text ≡ Err f
unfolding lines_of
face_stops view r i file text f fails = rw fails refl

-- and so are its defects
pub tells_of_face : {X : Type 0} (r : Reading) (i : Option Asked) (file text : List ℕ) (face : Face) (result : Result X FontFault)
    → face_at_instance file (plain_opening r) i ≡ Ok face → HasNo (IsDefectAtInstance file (plain_opening r) i)
    → TellsDefects font_fault (IsAdvanceDefect face (text_glyphs face.cmap text)) result
    → TellsDefects font_fault (IsMapDefect r i text file) result
tells_of_face r i file text face (Ok x) there none tells = λ f defect. elim defect [
  | inl of_face ↦ none f of_face
  | inr of_glyph ↦
      let P : Result Face Fault → Type 0 = λ o. IsOkAnd o (λ face. IsAdvanceDefect face (text_glyphs face.cmap text) f) in
      tells f (subst P there of_glyph)
]
tells_of_face r i file text face (Err fault.Memory) there none tells = tt
tells_of_face r i file text face (Err (fault.Font f)) there none tells = inr (rw there tells)

-- a face that is refused
pub face_tells : (r : Reading) (i : Option Asked) (file text : List ℕ) (f : Fault) → IsDefectAtInstance file (plain_opening r) i f
    → IsMapDefect r i text file f
face_tells r i file text f stands = inl stands

-- a walk over units: those so far, and then those that are left, are all
pub goes-on : {A : Type 0} (done left rest all : List A) (x : A) → left ≡ x ∷ rest → done ++ left ≡ all
    → (done ++ x ∷ []) ++ rest ≡ all
goes-on done left rest all x first split = append_assoc done (x ∷ []) rest ∙ ap (λ xs. done ++ xs) (sym first) ∙ split

pub at-the-end : {A : Type 0} (done left all : List A) → left ≡ [] → done ++ left ≡ all → done ≡ all
at-the-end done left all none split = sym (append-nil done) ∙ ap (λ xs. done ++ xs) (sym none) ∙ split

-- the units that are left, after one whose advance is found
pub found_next : (found : ℕ → Result ℕ Fault) (g : TextUnit → ℕ) (all : Result (Unit {0}) Fault) (us rest : List TextUnit) (u : TextUnit) (n : ℕ)
    → all ≡ all_found found (map g us) → us ≡ u ∷ rest → found (g u) ≡ Ok n → all ≡ all_found found (map g rest)
found_next found g all us rest u n is first there = rw (first, there) at is

-- and after one whose advance is refused
pub found_stops : (found : ℕ → Result ℕ Fault) (g : TextUnit → ℕ) (all : Result (Unit {0}) Fault) (us rest : List TextUnit) (u : TextUnit) (e : FontFault)
    → all ≡ all_found found (map g us) → us ≡ u ∷ rest → FontGives {X = ℕ} (λ n. n) (Err e) (found (g u))
    → IfSome (font_fault e) (λ f. all ≡ Err f)
found_stops found g all us rest u fault.Memory is first fails = tt
found_stops found g all us rest u (fault.Font f) is first fails = rw (first, fails) at is

pub none_left : (found : ℕ → Result ℕ Fault) (g : TextUnit → ℕ) (all : Result (Unit {0}) Fault) (us : List TextUnit)
    → all ≡ all_found found (map g us) → us ≡ [] → all ≡ Ok tt
none_left found g all us is none = rw none at is

-- a test of advances that fails
pub untested_lines : (face : Face) (text : List ℕ) (e : FontFault)
    → IfSome (font_fault e) (λ f. advances_tested face (text_glyphs face.cmap text) ≡ Err f)
    → IfSome (font_fault e) (λ f. lines_in face text ≡ Err f)
unfolding lines_in
untested_lines face text fault.Memory fails = tt
untested_lines face text (fault.Font f) fails = rw fails refl

pub tested_lines : (face : Face) (text bytes : List ℕ) → advances_tested face (text_glyphs face.cmap text) ≡ Ok tt → bytes ≡ map_lines face text
    → lines_in face text ≡ Ok bytes
unfolding lines_in
tested_lines face text bytes tested are = rw (tested, are) refl

-- the advance of a glyph that is found
pub units_found : (face : Face) (t : Glyf) (g n : ℕ) → glyphs_in face ≡ Ok t → glyph_units face.instance face.metrics t g ≡ Ok n
    → n ≡ units_of face g
unfolding units_of
units_found face t g n there is = rw (units_by_tables face t g there, is) refl
