-- OpenType, "gvar" (phantom points): the advances of a face in font units. At an instance of a font without HVAR an
-- advance goes from end to end of the glyph's own data. Then these are read, and can be refused (profile).
use Rattle.std.specs.Prelude.{◌≡◌, refl, ℕ, Bool, ◌==◌, is_some, if◌then◌else◌, List, [], ◌∷◌, map, Option, Some, None, Result, Ok, Err}
use Rattle.tt_core.specs.Faults.{Fault}
use Rattle.tt_core.specs.Outcomes.{◌>>=◌}
use Rattle.tt_face.specs.Faces.{Face, FaceInstance, finds_advances, glyphs_in}
use Rattle.tt_fit_variation.specs.Advance.{advance_without_hvar}
use Rattle.tt_glyf.specs.Loca.{Glyf}
use Rattle.tt_metrics.specs.Metrics.{Metrics, advance_of}

-- the advance of glyph g by the glyph's own data, unless HVAR is there
abbrev pub units_by : Bool → FaceInstance → Metrics → Glyf → ℕ → Result ℕ Fault
units_by by_hvar i m t g = if by_hvar then Ok (advance_of m g) else advance_without_hvar i.gvar i.coordinates t g (advance_of m g)

-- the advance of glyph g by the instance, the metrics and the glyph data of its font
unfoldable pub glyph_units : Option FaceInstance → Metrics → Glyf → ℕ → Result ℕ Fault
glyph_units None m t g = Ok (advance_of m g)
glyph_units (Some i) m t g = units_by (is_some m.advances) i m t g

-- the same by a face, which opens loca and glyf for this alone
unfoldable pub face_units : Face → ℕ → Result ℕ Fault
face_units face g =
    if finds_advances face then (glyphs_in face >>= λ t. glyph_units face.instance face.metrics t g)
    else Ok (advance_of face.metrics g)

-- a number that was found, else 0
abbrev pub or_zero : Result ℕ Fault → ℕ
or_zero (Ok n) = n
or_zero (Err fault) = 0

-- the advance of a glyph; 0 where the glyph is refused
unfoldable pub units_of : Face → ℕ → ℕ
units_of face g = or_zero (face_units face g)

-- a step for every glyph, or the first fault
abbrev pub all_found : (ℕ → Result ℕ Fault) → List ℕ → Result (Unit {0}) Fault
all_found found [] = Ok tt
all_found found (g ∷ gs) = found g >>= λ n. all_found found gs

-- the advances of some glyphs are found, or the first fault: of loca and glyf, and then of a glyph
unfoldable pub advances_tested : Face → List ℕ → Result (Unit {0}) Fault
advances_tested face gs =
    if finds_advances face then (glyphs_in face >>= λ t. all_found (glyph_units face.instance face.metrics t) gs) else Ok tt

-- worked values: the first fault is that of the first glyph, whichever glyph is refused later
the_first_is_refused : (f e : Fault) → all_found (λ g. if g == 1 then Err f else Err e) (1 ∷ 2 ∷ []) ≡ Err f
the_first_is_refused f e = refl

nothing_to_find : (f : Fault) → all_found (λ g. Err f) [] ≡ Ok tt
nothing_to_find f = refl
