-- Lines whose advances are found one after the other.
use Rattle.std.proofs.Common.{◌≡◌, ◌∙◌, refl, sym, ap, ap₂, ℕ, ◌<◌, ◌≤◌, ℤ, pos, List, [], ◌∷◌, ◌++◌, Vec, Global, length, map, Result, Ok, Err, arith}
use Rattle.std.proofs.lemmas.List.{length-map, map-append}
use Rattle.std.specs.List.{flat_map}
use Rattle.std.specs.Prelude.{All, IfOk}
use Rattle.tt_advances.proofs.Advances.{stepped_alike}
use Rattle.tt_advances.proofs.Finding.{after_test, units_are}
use Rattle.tt_advances.specs.Found.{glyph_units, or_zero}
use Rattle.tt_advances.specs.Lines.{advance_step}
use Rattle.tt_core.specs.declared.font_fault.FontFault.{FontFault}
use Rattle.tt_core.specs.Faults.{Fault}
use Rattle.tt_core.specs.Outcomes.{◌>>=◌, FontGives}
use Rattle.tt_face.specs.Faces.{Face, glyphs_in}
use Rattle.tt_glyf.specs.Loca.{Glyf}
use Rattle.tt_label.specs.Fitted.{glyphs_in as line_glyphs, with_steps as line_steps}
use Rattle.tt_label.proofs.Joined.{all_flat, flat_all, lists_joined}
use Rattle.tt_cmap.specs.Maps.{CharacterMap}
use Rattle.tt_label.specs.Label.{stepped_lines}
use Rattle.tt_label_rows.specs.Units.{all_glyphs, stepped_lines as row_steps, stepped_units, unit_glyphs, with_steps}
use Rattle.tt_line.specs.Labels.{label_lines}
use Rattle.tt_line.specs.Layout.{text_glyphs}
use Rattle.tt_line.specs.Steps.{kerning_before, step_by_units, step_of_units, stepped}
use Rattle.tt_line.proofs.Stepped.{firsts}
use Rattle.tt_metrics.specs.Metrics.{Metrics}
use Rattle.tt_picture.proofs.Among.{of_same_glyphs}
use Rattle.tt_rows.specs.declared.unit.RowUnit.{RowUnit}

abbrev pub Line : Type 0
Line = Vec (ℕ × ℕ) Global

abbrev pub items_of : List Line → List (List (ℕ × ℕ))
items_of lines = map (λ (v : Line). v.items) lines

-- the glyphs of a line, and then those of the others
pub line_and_others : (l : List (ℕ × ℕ)) (ls : List (List (ℕ × ℕ))) → line_glyphs (l ∷ ls) ≡ map (λ (g : ℕ × ℕ). g.0) l ++ line_glyphs ls
line_and_others l ls = map-append (λ (g : ℕ × ℕ). g.0) l (flat_map (λ (l : List (ℕ × ℕ)). l) ls)

pub row_and_others : (us : List RowUnit) (ls : List (List RowUnit)) → all_glyphs (us ∷ ls) ≡ unit_glyphs us ++ all_glyphs ls
row_and_others us ls = refl

-- units by two ways of making steps that agree
units_alike : (m : Metrics) (f g : ℕ → ℤ → ℕ) (us : List RowUnit) → ((n : ℕ) (k : ℤ) → f n k ≡ g n k) → stepped_units m f us ≡ stepped_units m g us
units_alike m f g [] same = refl
units_alike m f g (u ∷ us) same =
    let k = kerning_before m u.glyph (unit_glyphs us) in
    let own : with_steps f u k ≡ with_steps g u k = rw (same u.glyph (pos 0), same u.glyph k) refl in
    ap₂ (λ (v : RowUnit) (vs : List RowUnit). v ∷ vs) own (units_alike m f g us same)

pub row_alike : (face : Face) (t : Glyf) (ppem : ℕ) (us : List RowUnit) → glyphs_in face ≡ Ok t
    → stepped_units face.metrics (step_by_units face.metrics ppem (λ g. or_zero (glyph_units face.instance face.metrics t g))) us
    ≡ stepped_units face.metrics (advance_step face ppem) us
row_alike face t ppem us there =
    units_alike face.metrics (step_by_units face.metrics ppem (λ g. or_zero (glyph_units face.instance face.metrics t g)))
    (advance_step face ppem) us (λ n k. ap (λ (units : ℕ). step_of_units face.metrics ppem units k) (units_are face t n there))

-- other steps change no glyph
glyphs_kept : (m : Metrics) (step : ℕ → ℤ → ℕ) (ls : List (List (ℕ × ℕ))) → line_glyphs (line_steps m step ls) ≡ line_glyphs ls
glyphs_kept m step [] = refl
glyphs_kept m step (l ∷ ls) =
    let first : ℕ × ℕ → ℕ = λ g. g.0 in
    let flat : List (List (ℕ × ℕ)) → List (ℕ × ℕ) = λ ls. flat_map (λ (l : List (ℕ × ℕ)). l) ls in
    map-append first (stepped m step (map first l)) (flat (line_steps m step ls))
    ∙ ap₂ (λ (a b : List ℕ). a ++ b) (firsts m step (map first l)) (glyphs_kept m step ls)
    ∙ sym (map-append first l (flat ls))

abbrev pub all_of : List Line → List (ℕ × ℕ)
all_of lines = flat_map (λ (v : Line). v.items) lines

-- lines with other steps have the glyphs of the lines before
pub numbers_alike : (m : Metrics) (step : ℕ → ℤ → ℕ) (lines others : List Line) → items_of others ≡ line_steps m step (items_of lines)
    → map (λ (g : ℕ × ℕ). g.0) (all_of others) ≡ map (λ (g : ℕ × ℕ). g.0) (all_of lines)
numbers_alike m step lines others are =
    let first : ℕ × ℕ → ℕ = λ g. g.0 in
    ap (map first) (sym (lists_joined others)) ∙ ap line_glyphs are ∙ glyphs_kept m step (items_of lines) ∙ ap (map first) (lists_joined lines)

pub as_many_lines : (m : Metrics) (step : ℕ → ℤ → ℕ) (lines others : List Line) → items_of others ≡ line_steps m step (items_of lines)
    → length others ≡ length lines
as_many_lines m step lines others are =
    let items : Line → List (ℕ × ℕ) = λ v. v.items in
    sym (length-map others items) ∙ ap length are ∙ length-map (items_of lines) _ ∙ length-map lines items

pub known_lines : (m : Metrics) (step : ℕ → ℤ → ℕ) (n : ℕ) (lines others : List Line) → items_of others ≡ line_steps m step (items_of lines)
    → All (λ (v : Line). All (λ (g : ℕ × ℕ). g.0 < n) v.items) lines → All (λ (v : Line). All (λ (g : ℕ × ℕ). g.0 < n) v.items) others
known_lines m step n lines others are known =
    let items : Line → List (ℕ × ℕ) = λ v. v.items in
    let P : ℕ × ℕ → Type 0 = λ g. g.0 < n in
    flat_all P items others (of_same_glyphs (λ k. k < n) (all_of lines) (all_of others) (numbers_alike m step lines others are)
    (all_flat P items lines known))

pub few_lines : (m : Metrics) (step : ℕ → ℤ → ℕ) (n : ℕ) (lines others : List Line) → items_of others ≡ line_steps m step (items_of lines)
    → length (all_of lines) ≤ n → length (all_of others) ≤ n
few_lines m step n lines others are few =
    let first : ℕ × ℕ → ℕ = λ g. g.0 in
    let same : length (all_of others) ≡ length (all_of lines) =
    sym (length-map (all_of others) first) ∙ ap length (numbers_alike m step lines others are) ∙ length-map (all_of lines) first in
    omega (arith, same, few)

-- the lines of a result that is given
pub given_lines : (r : Result (Vec Line Global) FontFault) (x : Result (Unit {0}) Fault) (ls : List (List (ℕ × ℕ)))
    → FontGives (λ (v : Vec Line Global). items_of v.items) r (x >>= λ u. Ok ls) → IfOk r (λ v. items_of v.items ≡ ls)
given_lines (Ok v) x ls gives = (after_test x ls (items_of v.items) gives).1
given_lines (Err e) x ls gives = tt

-- the lines of a text by two ways of making steps that agree
lines_by : (glyphs : List ℕ → List ℕ) (m : Metrics) (f g : ℕ → ℤ → ℕ) (ls : List (List ℕ)) → ((n : ℕ) (k : ℤ) → f n k ≡ g n k)
    → map (λ (l : List ℕ). stepped m f (glyphs l)) ls ≡ map (λ (l : List ℕ). stepped m g (glyphs l)) ls
lines_by glyphs m f g [] same = refl
lines_by glyphs m f g (l ∷ ls) same =
    ap₂ (λ (a : List (ℕ × ℕ)) (b : List (List (ℕ × ℕ))). a ∷ b) (stepped_alike m f g (glyphs l) same) (lines_by glyphs m f g ls same)

pub lines_alike : (m : Metrics) (f g : ℕ → ℤ → ℕ) (cmap : CharacterMap) (text : List ℕ) → ((n : ℕ) (k : ℤ) → f n k ≡ g n k)
    → stepped_lines m f cmap text ≡ stepped_lines m g cmap text
lines_alike m f g cmap text same = lines_by (text_glyphs cmap) m f g (label_lines text) same

pub rows_alike : (m : Metrics) (f g : ℕ → ℤ → ℕ) (ls : List (List RowUnit)) → ((n : ℕ) (k : ℤ) → f n k ≡ g n k)
    → row_steps m f ls ≡ row_steps m g ls
rows_alike m f g [] same = refl
rows_alike m f g (us ∷ ls) same =
    ap₂ (λ (a : List RowUnit) (b : List (List RowUnit)). a ∷ b) (units_alike m f g us same) (rows_alike m f g ls same)
