-- The glyphs of a text with the advances that are found for them.
use Rattle.std.proofs.Common.{◌≡◌, ◌∙◌, ℕ, false, List, [], ◌∷◌, Ok, Err, ap, ap₂, map, refl, sym}
use Rattle.std.specs.Prelude.{IfSome}
use Rattle.std.proofs.lemmas.List.{map-id}
use Rattle.std.proofs.lemmas.Simd.{map-map}
use Rattle.tt_advances.proofs.Advances.{plain_advances}
use Rattle.tt_advances.specs.Found.{advances_tested, units_of}
use Rattle.tt_core.specs.declared.font_fault.FontFault.{FontFault}
use Rattle.tt_core.specs.Outcomes.{font_fault}
use Rattle.tt_face.specs.Faces.{Face, finds_advances}
use Rattle.tt_metrics.specs.Metrics.{advance_of}
use Rattle.tt_c_calls.proofs.StrikeLines.{if_some_more}
use Rattle.tt_c_instances.specs.Maps.{units_found}

-- the glyphs of pairs that are made of glyphs
pub their_glyphs : (f : ℕ → ℕ) (gs : List ℕ) → map (λ (p : ℕ × ℕ). p.0) (map (λ g. (g, f g)) gs) ≡ gs
their_glyphs f gs = map-map (λ (p : ℕ × ℕ). p.0) (λ (g : ℕ). (g, f g)) gs ∙ map-id gs

alike : (f h : ℕ → ℕ × ℕ) (gs : List ℕ) → ((g : ℕ) → f g ≡ h g) → map f gs ≡ map h gs
alike f h [] same = refl
alike f h (g ∷ gs) same = ap₂ (λ (p : ℕ × ℕ) (rest : List (ℕ × ℕ)). p ∷ rest) (same g) (alike f h gs same)

pub all_units : (face : Face) (gs : List ℕ) (v : List (ℕ × ℕ)) → advances_tested face gs ≡ Ok tt
    → v ≡ map (λ g. (g, units_of face g)) gs → units_found face gs ≡ Ok v
all_units face gs v tested is = rw (tested, is) refl

pub units_fail : (face : Face) (gs : List ℕ) (d : FontFault) → IfSome (font_fault d) (λ f. advances_tested face gs ≡ Err f)
    → IfSome (font_fault d) (λ f. units_found face gs ≡ Err f)
units_fail face gs d = if_some_more (font_fault d) _ _ (λ f is. rw is refl)

-- where the tables give the advances, nothing is found
pub table_units : (face : Face) (gs : List ℕ) (v : List (ℕ × ℕ)) → finds_advances face ≡ false
    → v ≡ map (λ g. (g, advance_of face.metrics g)) gs → units_found face gs ≡ Ok v
table_units face gs v off is =
    let plain = plain_advances face off in
    let same : (g : ℕ) → (g, advance_of face.metrics g) ≡ (g, units_of face g) = λ g. ap (λ (n : ℕ). (g, n)) (sym (plain.units g)) in
    all_units face gs v (plain.tested gs)
    (is ∙ alike (λ g. (g, advance_of face.metrics g)) (λ g. (g, units_of face g)) gs same)
