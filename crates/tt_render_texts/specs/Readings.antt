-- No part of the standard: the reading that a request asks for (profile).
use Rattle.std.specs.Prelude.{◌≡◌, refl, ℕ, [], ◌∷◌, map, Option, Some, None}
use Rattle.tt_core.specs.declared.collection.Reading.{Reading}
use Rattle.tt_core.specs.declared.collection.Reading.TheVariants as reading
use Rattle.tt_fit.specs.declared.programs.Fit.{Fit}
use Rattle.tt_fit.specs.declared.programs.Fit.TheVariants as fit

-- the reading with a fit alone: wide with Best, which is for any font
abbrev pub fit_reading : Fit → Reading
fit_reading fit.Full = reading.Strict
fit_reading fit.None = reading.Strict
fit_reading fit.Fallback = reading.Strict
fit_reading fit.Best = reading.Wide 0

-- the wide reading of a face with a number; without one, the other reading
abbrev pub reading_asked : Option ℕ → Reading → Reading
reading_asked (Some face) other = reading.Wide face
reading_asked None other = other

-- worked values
without_a_face : map (λ how. reading_asked None (fit_reading how)) (fit.Full ∷ fit.None ∷ fit.Fallback ∷ fit.Best ∷ [])
    ≡ reading.Strict ∷ reading.Strict ∷ reading.Strict ∷ reading.Wide 0 ∷ []
without_a_face = refl

face_2 : map (λ how. reading_asked (Some 2) (fit_reading how)) (fit.Full ∷ fit.None ∷ fit.Fallback ∷ fit.Best ∷ [])
    ≡ reading.Wide 2 ∷ reading.Wide 2 ∷ reading.Wide 2 ∷ reading.Wide 2 ∷ []
face_2 = refl
