-- Which advances are found, and what stops them.
use Rattle.std.proofs.Common.{◌≡◌, ◌∙◌, refl, sym, ap, ap₂, ℕ, zero, suc, ℤ, Bool, true, false, not, ◌&&◌, if◌then◌else◌, List, [], ◌∷◌, map, Option, Some, None, Result, Ok, Err, inl, inr, subst}
use Rattle.std.specs.List.{slice_get}
use Rattle.std.specs.Prelude.{IsOkAnd, is_some}
use Rattle.tt_advances.specs.Defects.{IsAdvanceDefect, RefusesOne}
use Rattle.tt_advances.specs.Found.{advances_tested, all_found, face_units, glyph_units, or_zero, units_by, units_of}
use Rattle.tt_advances.specs.Laws.{DefaultsGiveAdvances, FoundAdvancesAreWhole, HasPlainAdvances, TablesGiveAdvances}
use Rattle.tt_advances.specs.Lines.{advance_line, advance_step}
use Rattle.tt_core.specs.Chains.{came-through, was-err}
use Rattle.tt_core.specs.Directory.{HasNo}
use Rattle.tt_core.specs.Faults.{Fault}
use Rattle.tt_core.specs.Outcomes.{◌>>=◌}
use Rattle.tt_face.proofs.Whole.{glyph-tables-whole}
use Rattle.tt_face.specs.Defects.{IsGlyphTableDefect}
use Rattle.tt_face.specs.Faces.{Face, FaceInstance, finds_advances, glyphs_in}
use Rattle.tt_glyf.specs.Loca.{Glyf}
use Rattle.tt_line.specs.Steps.{kerning_before, step_in_pixels, step_of_units, stepped}
use Rattle.tt_metrics.specs.Metrics.{Metrics, advance_of}

-- a line by two ways of making steps that agree
pub stepped_alike : (m : Metrics) (f g : ℕ → ℤ → ℕ) (gs : List ℕ) → ((n : ℕ) (k : ℤ) → f n k ≡ g n k) → stepped m f gs ≡ stepped m g gs
stepped_alike m f g [] same = refl
stepped_alike m f g (n ∷ ns) same =
    ap₂ (λ (s : ℕ) (rest : List (ℕ × ℕ)). (n, s) ∷ rest) (same n (kerning_before m n ns)) (stepped_alike m f g ns same)

plain_units : (face : Face) → finds_advances face ≡ false → (g : ℕ) → units_of face g ≡ advance_of face.metrics g
unfolding units_of face_units
plain_units face off g = rw off refl

plain_tested : (face : Face) → finds_advances face ≡ false → (gs : List ℕ) → advances_tested face gs ≡ Ok tt
unfolding advances_tested
plain_tested face off gs = rw off refl

pub plain_advances : TablesGiveAdvances
plain_advances face off =
    let step : (ppem g : ℕ) (k : ℤ) → advance_step face ppem g k ≡ step_in_pixels face.metrics ppem g k =
    λ ppem g k. ap (λ (n : ℕ). step_of_units face.metrics ppem n k) (plain_units face off g) in
    record {
      units = plain_units face off;
      step = step;
      line = λ ppem gs. stepped_alike face.metrics (advance_step face ppem) (step_in_pixels face.metrics ppem) gs (step ppem);
      tested = plain_tested face off;
    }

pub plain_sound : (face : Face) (gs : List ℕ) → finds_advances face ≡ false → HasNo (IsAdvanceDefect face gs)
plain_sound face gs off = λ fault defect. let never : true ≡ false = sym defect.0 ∙ off in absurd cc

-- a face without an instance finds no advances
pub unvaried : (instance : Option FaceInstance) (by_hvar : Bool) → instance ≡ None → is_some instance && by_hvar ≡ false
unvaried None by_hvar is = refl
unvaried (Some i) by_hvar is = absurd cc

pub default_advances : DefaultsGiveAdvances
default_advances face none = plain_advances face (unvaried face.instance _ none)

-- a glyph of a face that finds no advances has that of the tables
by_hvar : (there : Bool) (i : FaceInstance) (m : Metrics) (t : Glyf) (g : ℕ) → not there ≡ false → units_by there i m t g ≡ Ok (advance_of m g)
by_hvar true i m t g is = refl
by_hvar false i m t g is = absurd cc

plain_glyph : (i : Option FaceInstance) (m : Metrics) (t : Glyf) (g : ℕ) → is_some i && not (is_some m.advances) ≡ false
    → glyph_units i m t g ≡ Ok (advance_of m g)
unfolding glyph_units
plain_glyph None m t g off = refl
plain_glyph (Some i) m t g off = by_hvar (is_some m.advances) i m t g off

by_tables : (finds : Bool) (face : Face) (t : Glyf) (g : ℕ) → finds_advances face ≡ finds → glyphs_in face ≡ Ok t
    → face_units face g ≡ glyph_units face.instance face.metrics t g
unfolding face_units
by_tables true face t g is there = rw (is, there) refl
by_tables false face t g is there = rw is (sym (plain_glyph face.instance face.metrics t g is))

-- the advance of a face is that by its instance, its metrics and its glyph data
pub units_by_tables : (face : Face) (t : Glyf) (g : ℕ) → glyphs_in face ≡ Ok t
    → face_units face g ≡ glyph_units face.instance face.metrics t g
units_by_tables face t g there = by_tables (finds_advances face) face t g refl there

-- the first glyph that is refused is one of them
pub one_refused : (found : ℕ → Result ℕ Fault) (gs : List ℕ) (f : Fault) → all_found found gs ≡ Err f → RefusesOne found gs f
one_refused found [] f was = absurd cc
one_refused found (g ∷ gs) f was = elim (was-err (found g) _ f was) [
  | inl here ↦ (zero, g, refl, here)
  | inr later ↦ let there = one_refused found gs f later.rest in (suc there.0, there.1, there.2, there.3)
]

pub none_refused : (found : ℕ → Result ℕ Fault) (gs : List ℕ) (f : Fault) → all_found found gs ≡ Ok tt
    → (i g : ℕ) → slice_get gs i ≡ Some g → found g ≡ Err f → ⊥
none_refused found [] f was i h there refused = absurd cc
none_refused found (g ∷ gs) f was zero h there refused =
    let first = came-through (found g) _ tt was in
    let same : g ≡ h = cc in
    let made : found h ≡ Ok first.value = rw (← same) first.first in
    absurd cc
none_refused found (g ∷ gs) f was (suc i) h there refused =
    let first = came-through (found g) _ tt was in
    none_refused found gs f first.rest i h there refused

-- a glyph that is refused is a defect of the face
pub refused_tells : (face : Face) (t : Glyf) (gs : List ℕ) (f : Fault) → finds_advances face ≡ true → glyphs_in face ≡ Ok t
    → all_found (glyph_units face.instance face.metrics t) gs ≡ Err f → IsAdvanceDefect face gs f
refused_tells face t gs f finds there was = (finds, inr (rw there (one_refused (glyph_units face.instance face.metrics t) gs f was)))

pub found_whole : FoundAdvancesAreWhole
unfolding advances_tested
found_whole face gs was = λ fault defect.
    let finds = defect.0 in
    let found : (glyphs_in face >>= λ t. all_found (glyph_units face.instance face.metrics t) gs) ≡ Ok tt = rw finds at was in
    let by_tables = came-through (glyphs_in face) _ tt found in
    elim defect.1 [
      | inl of_tables ↦ glyph-tables-whole face by_tables.value by_tables.first fault of_tables
      | inr of_glyph ↦
          let P : Result Glyf Fault → Type 0 = λ r. IsOkAnd r (λ t. RefusesOne (glyph_units face.instance face.metrics t) gs fault) in
          let one = subst P by_tables.first of_glyph in
          none_refused (glyph_units face.instance face.metrics by_tables.value) gs fault by_tables.rest one.0 one.1 one.2 one.3
    ]
