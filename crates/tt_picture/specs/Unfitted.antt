-- No part of the standard: unfitted glyphs, whose points are only scaled, each with the fault of a program (profile).
use Rattle.std.specs.Prelude.{◌≡◌, refl, ℕ, Bool, true, false, not, ◌&&◌, List, [], ◌∷◌, map, codes, Option, Some, None}
use Rattle.tt_core.specs.declared.fault.Why.TheVariants as why
use Rattle.tt_core.specs.Faults.{Fault, fault_at}
use Rattle.tt_fit.specs.Fitting.{Fitter, unfitted_fault}
use Rattle.tt_picture.specs.declared.report.Unfitted.{Unfitted}
use Rattle.tt_picture.specs.Distinct.{is_among}
use Rattle.tt_picture.specs.Glyphs.{Glyph}

-- puts a glyph before those after it, if a fault makes it unfitted
abbrev pub listed : ℕ → Option Fault → List Unfitted → List Unfitted
listed g None others = others
listed g (Some fault) others = record { glyph = g; fault = fault } ∷ others

-- the unfitted ones of some glyphs, in their order, by the fitter of each
abbrev pub unfitted_among : (ℕ → Fitter) → List ℕ → List Unfitted
unfitted_among maker [] = []
unfitted_among maker (g ∷ gs) = listed g (unfitted_fault (maker g) g) (unfitted_among maker gs)

-- the unfitted ones of a line's glyphs
abbrev pub unfitted_standing : List Glyph → List Unfitted
unfitted_standing [] = []
unfitted_standing (g ∷ gs) = listed g.number g.unfitted (unfitted_standing gs)

-- no number appears twice
abbrev pub all_differ : List ℕ → Bool
all_differ [] = true
all_differ (g ∷ gs) = not (is_among g gs) && all_differ gs

-- no glyph is listed twice
abbrev pub ListsOnce : List Unfitted → Type 0
ListsOnce entries = all_differ (map (λ u. u.glyph) entries) ≡ true

-- worked values
seven_and_three : all_differ (7 ∷ 3 ∷ []) ≡ true
seven_and_three = refl

seven_twice : all_differ (7 ∷ 3 ∷ 7 ∷ []) ≡ false
seven_twice = refl

one_of_two : listed 1 (Some (fault_at (codes "glyf") 14 why.OffProfile)) (listed 2 None [])
    ≡ record { glyph = 1; fault = fault_at (codes "glyf") 14 why.OffProfile } ∷ []
one_of_two = refl
