-- Laws of the advice: what it says is true of the file.
use Rattle.std.specs.Prelude.{◌≡◌, ℕ, ◌≤◌, true, List, drop, codes, Some, ◌⊎◌}
use Rattle.tt_core.specs.Faults.{Fault, why_number}
use Rattle.tt_core.specs.Numbers.{number_at}
use Rattle.tt_advice.specs.Advice.{advice, has_cff}
use Rattle.tt_advice.specs.declared.hint.FixedHint.TheVariants as fixed
use Rattle.tt_advice.specs.declared.hint.Hint.TheVariants as hint
use Rattle.tt_advice.specs.Kinds.{begins}

-- CFF outlines are reported only where the file has their version in place of its own, or a table of them
abbrev pub CffIsThere : Type 0
CffIsThere = (f : Fault) (file : List ℕ) (n : ℕ) → advice f file n ≡ hint.Fixed fixed.Cff
    → (begins (drop f.offset file) (codes "OTTO") ≡ true) ⊎ (has_cff file n ≡ true)

-- the number of faces that is reported is numFonts of a collection
abbrev pub FacesAreCounted : Type 0
FacesAreCounted = (f : Fault) (file : List ℕ) (n k : ℕ) → advice f file n ≡ hint.Faces k
    → (begins file (codes "ttcf") ≡ true) × (number_at file 8 4 ≡ Some k)

-- a program is reported only for the faults of programs
abbrev pub ProgramsAreRefused : Type 0
ProgramsAreRefused = (f : Fault) (file : List ℕ) (n : ℕ) → advice f file n ≡ hint.Fixed fixed.Program → 30 ≤ why_number f.why
