-- What finding the advances of some glyphs gives, by the glyph data of a face.
use Rattle.std.proofs.Common.{◌≡◌, ◌∙◌, refl, sym, ap, ap₂, ℕ, true, List, [], ◌∷◌, ◌++◌, map, Result, Ok, Err, inl, OnOk}
use Rattle.std.specs.Prelude.{IfSome}
use Rattle.tt_advances.specs.Defects.{IsAdvanceDefect}
use Rattle.tt_advances.specs.Found.{advances_tested, all_found, glyph_units, or_zero, units_of}
use Rattle.tt_advances.proofs.Advances.{found_whole, refused_tells, stepped_alike, units_by_tables}
use Rattle.tt_advances.specs.Lines.{advance_step}
use Rattle.tt_core.specs.declared.font_fault.FontFault.{FontFault}
use Rattle.tt_core.specs.declared.font_fault.FontFault.TheVariants as fault
use Rattle.tt_core.specs.Directory.{HasNo}
use Rattle.tt_core.specs.Faults.{Fault}
use Rattle.tt_core.specs.Outcomes.{◌>>=◌, FontGives, IfTold, font_fault}
use Rattle.tt_face.specs.Defects.{IsGlyphTableDefect}
use Rattle.tt_face.specs.Faces.{Face, finds_advances, glyphs_in}
use Rattle.tt_glyf.specs.Loca.{Glyf}
use Rattle.tt_line.specs.Steps.{step_by_units, step_of_units, stepped}

-- the test of some glyphs by glyph data that are open
pub tested_by : (face : Face) (t : Glyf) (gs : List ℕ) → finds_advances face ≡ true → glyphs_in face ≡ Ok t
    → advances_tested face gs ≡ all_found (glyph_units face.instance face.metrics t) gs
unfolding advances_tested
tested_by face t gs finds there = rw (finds, there) refl

pub tables_refuse : (face : Face) (gs : List ℕ) (e : FontFault) → finds_advances face ≡ true
    → IfSome (font_fault e) (λ f. glyphs_in face ≡ Err f) → IfSome (font_fault e) (λ f. advances_tested face gs ≡ Err f)
unfolding advances_tested
tables_refuse face gs fault.Memory finds was = tt
tables_refuse face gs (fault.Font f) finds was = rw (finds, was) refl

pub tables_tell : (face : Face) (gs : List ℕ) (e : FontFault) → finds_advances face ≡ true
    → IfSome (font_fault e) (IsGlyphTableDefect face) → IfSome (font_fault e) (IsAdvanceDefect face gs)
tables_tell face gs fault.Memory finds told = tt
tables_tell face gs (fault.Font f) finds told = (finds, inl told)

pub found_here : (face : Face) (t : Glyf) (gs : List ℕ) (r : Result (Unit {0}) FontFault) → finds_advances face ≡ true
    → glyphs_in face ≡ Ok t → FontGives (λ u. u) r (all_found (glyph_units face.instance face.metrics t) gs)
    → FontGives (λ u. u) r (advances_tested face gs)
found_here face t gs r finds there gives = rw (tested_by face t gs finds there) gives

pub sound_here : (face : Face) (t : Glyf) (gs : List ℕ) (r : Result (Unit {0}) FontFault) → finds_advances face ≡ true
    → glyphs_in face ≡ Ok t → FontGives (λ u. u) r (all_found (glyph_units face.instance face.metrics t) gs)
    → OnOk r (HasNo (IsAdvanceDefect face gs))
sound_here face t gs (Ok u) finds there gives = found_whole face gs (tested_by face t gs finds there ∙ gives)
sound_here face t gs (Err e) finds there gives = tt

pub tells_here : (face : Face) (t : Glyf) (gs : List ℕ) (r : Result (Unit {0}) FontFault) → finds_advances face ≡ true
    → glyphs_in face ≡ Ok t → FontGives (λ u. u) r (all_found (glyph_units face.instance face.metrics t) gs)
    → IfTold font_fault r (IsAdvanceDefect face gs)
tells_here face t gs (Ok u) finds there gives = tt
tells_here face t gs (Err fault.Memory) finds there gives = tt
tells_here face t gs (Err (fault.Font f)) finds there gives = refused_tells face t gs f finds there gives

-- each glyph with its advance, by the data that are open and by the face
same_pairs : (face : Face) (t : Glyf) (gs : List ℕ) → glyphs_in face ≡ Ok t
    → map {B = ℕ × ℕ} (λ g. (g, or_zero (glyph_units face.instance face.metrics t g))) gs ≡ map {B = ℕ × ℕ} (λ g. (g, units_of face g)) gs
unfolding units_of
same_pairs face t [] there = refl
same_pairs face t (g ∷ gs) there =
    ap₂ (λ (units : ℕ) (rest : List (ℕ × ℕ)). (g, units) ∷ rest) (ap or_zero (sym (units_by_tables face t g there))) (same_pairs face t gs there)

pub units_here : (face : Face) (t : Glyf) (gs : List ℕ) (line : List (ℕ × ℕ)) (r : Result (Unit {0}) FontFault) → glyphs_in face ≡ Ok t
    → OnOk r (line ≡ map (λ g. (g, or_zero (glyph_units face.instance face.metrics t g))) gs)
    → OnOk r (line ≡ map (λ g. (g, units_of face g)) gs)
units_here face t gs line (Ok u) there are = are ∙ same_pairs face t gs there
units_here face t gs line (Err e) there are = tt

-- the advance by the data that are open is that of the face
pub units_are : (face : Face) (t : Glyf) (g : ℕ) → glyphs_in face ≡ Ok t
    → or_zero (glyph_units face.instance face.metrics t g) ≡ units_of face g
unfolding units_of
units_are face t g there = ap or_zero (sym (units_by_tables face t g there))

-- and so are a line's steps
pub line_alike : (face : Face) (t : Glyf) (ppem : ℕ) (gs : List ℕ) → glyphs_in face ≡ Ok t
    → stepped face.metrics (step_by_units face.metrics ppem (λ g. or_zero (glyph_units face.instance face.metrics t g))) gs
    ≡ stepped face.metrics (advance_step face ppem) gs
line_alike face t ppem gs there =
    stepped_alike face.metrics (step_by_units face.metrics ppem (λ g. or_zero (glyph_units face.instance face.metrics t g)))
    (advance_step face ppem) gs (λ n k. ap (λ (units : ℕ). step_of_units face.metrics ppem units k) (units_are face t n there))

-- tests of two lists, one after the other
bind_then : (r : Result ℕ Fault) (a b : Result (Unit {0}) Fault) → (r >>= λ n. (a >>= λ u. b)) ≡ ((r >>= λ n. a) >>= λ u. b)
bind_then (Ok n) a b = refl
bind_then (Err f) a b = refl

pub found_append : (found : ℕ → Result ℕ Fault) (xs ys : List ℕ)
    → all_found found (xs ++ ys) ≡ (all_found found xs >>= λ u. all_found found ys)
found_append found [] ys = refl
found_append found (x ∷ xs) ys =
    ap (λ (rest : Result (Unit {0}) Fault). found x >>= λ n. rest) (found_append found xs ys)
    ∙ bind_then (found x) (all_found found xs) (all_found found ys)

pub lists_pass : (found : ℕ → Result ℕ Fault) (all : Result (Unit {0}) Fault) (gs xs ys : List ℕ) → all ≡ all_found found gs → gs ≡ xs ++ ys
    → all_found found xs ≡ Ok tt → all ≡ all_found found ys
lists_pass found all gs xs ys is parts tested = is ∙ rw (parts, found_append found xs ys, tested) refl

pub lists_stop : (found : ℕ → Result ℕ Fault) (all : Result (Unit {0}) Fault) (gs xs ys : List ℕ) (e : FontFault) → all ≡ all_found found gs
    → gs ≡ xs ++ ys → IfSome (font_fault e) (λ f. all_found found xs ≡ Err f) → IfSome (font_fault e) (λ f. all ≡ Err f)
lists_stop found all gs xs ys (fault.Font f) is parts fails = is ∙ rw (parts, found_append found xs ys, fails) refl
lists_stop found all gs xs ys fault.Memory is parts fails = tt

-- a test, and a value after it
pub after_test : {Y : Type 0} (x : Result (Unit {0}) Fault) (y z : Y) → (x >>= λ u. Ok y) ≡ Ok z → (x ≡ Ok tt) × (z ≡ y)
after_test (Ok tt) y z was = (refl, let same : y ≡ z = cc in sym same)
after_test (Err e) y z was = absurd cc

pub before_value : {Y : Type 0} (x : Result (Unit {0}) Fault) (y : Y) (e : FontFault) → IfSome (font_fault e) (λ f. (x >>= λ u. Ok y) ≡ Err f)
    → IfSome (font_fault e) (λ f. x ≡ Err f)
before_value x y fault.Memory fails = tt
before_value (Ok u) y (fault.Font f) fails = absurd cc
before_value (Err g) y (fault.Font f) fails = let same : g ≡ f = cc in ap Err same

pub then_value : {Y : Type 0} (x : Result (Unit {0}) Fault) (y : Y) (e : FontFault) → IfSome (font_fault e) (λ f. x ≡ Err f)
    → IfSome (font_fault e) (λ f. (x >>= λ u. Ok y) ≡ Err f)
then_value x y (fault.Font f) fails = rw fails refl
then_value x y fault.Memory fails = tt

-- a fault of the test is a defect
pub test_tells : (face : Face) (t : Glyf) (gs : List ℕ) (e : FontFault) → finds_advances face ≡ true → glyphs_in face ≡ Ok t
    → IfSome (font_fault e) (λ f. all_found (glyph_units face.instance face.metrics t) gs ≡ Err f) → IfSome (font_fault e) (IsAdvanceDefect face gs)
test_tells face t gs fault.Memory finds there fails = tt
test_tells face t gs (fault.Font f) finds there fails = refused_tells face t gs f finds there fails
