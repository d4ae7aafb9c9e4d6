-- OpenType, "Font Tables": head, maxp, hhea and hmtx are required. This file has their common test: a table is long
-- enough to be read.
use Rattle.std.specs.Prelude.{◌≡◌, ℕ, ◌<◌, nat_lt, if◌then◌else◌, List, length, Result, Ok, Err}
use Rattle.tt_core.specs.Faults.{Fault}
use Rattle.tt_core.specs.declared.fault.Why.TheVariants as why
use Rattle.tt_core.specs.Faults.{fault_at}

-- the table, or a refusal at its length if it has fewer bytes than needed
abbrev pub or_short : List ℕ → ℕ → List ℕ → Result (List ℕ) Fault
or_short tag least table = if nat_lt (length table) least then Err (fault_at tag (length table) why.MetricsShort) else
    Ok table

-- the table has fewer bytes than needed
abbrev pub IsShort : List ℕ → ℕ → List ℕ → Fault → Type 0
IsShort tag least table fault = (length table < least) × (fault ≡ fault_at tag (length table) why.MetricsShort)
