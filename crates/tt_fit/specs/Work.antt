-- No part of the standard: the work of a glyph's programs, where the work of a job is bounded (profile). Each
-- definition corresponds to that of the same outline. A program has the work that remains after the one before it.
use Rattle.std.specs.Prelude.{◌≡◌, ℕ, List, [], ◌∷◌, Option, Some, Result}
use Rattle.tt_core.specs.Faults.{Fault}
use Rattle.tt_fit_hinting.specs.machine.Work.{Worked, enough, spent, then_work}
use Rattle.tt_glyf.specs.declared.raw.Record.{Record}
use Rattle.tt_fit_outline.specs.Outline.{Outline}
use Rattle.tt_fit_hinting.specs.Work.{if_ok}

-- the work of each record in order, by how a record extends the outline so far, and by its work
abbrev pub joined_work : (Record → Outline → Result Outline Fault) → (Record → Option ℕ → Worked) → List Record → Outline
    → Option ℕ → Worked
joined_work add work [] o left = enough left
joined_work add work (r ∷ rs) o left = then_work (work r left) (if_ok (add r o) (joined_work add work rs))

-- the remaining work is enough
abbrev pub IsEnough : Worked → Type 0
IsEnough worked = (left : Option ℕ) × (worked ≡ enough left)

-- the job's remaining work: none for later glyphs where it was not enough
abbrev pub left_in : Worked → Option ℕ
left_in (enough left) = left
left_in (spent fault) = Some 0
