-- Apple TrueType Reference Manual, "The 'hmtx' table"; OpenType, "hmtx: Horizontal Metrics Table".
use Rattle.std.specs.Prelude.{ℕ, ◌+◌, ◌-◌, ◌*◌, min, nat_lt, if◌then◌else◌, List, codes, Result, ℤ, pos, unwrap_or}
use Rattle.tt_core.specs.Faults.{Fault}
use Rattle.tt_core.specs.Directory.{Directory, needed_table, IsDefectIn}
use Rattle.tt_core.specs.Numbers.{unsigned_at, signed_at}
use Rattle.tt_core.specs.Outcomes.{◌>>=◌}
use Rattle.tt_metrics.specs.Tables.{or_short, IsShort}

-- 'hmtx'
abbrev pub hmtx_tag : List ℕ
hmtx_tag = codes "hmtx"

-- the bytes of hmtx, which needs n pairs of advance and bearing
unfoldable pub hmtx_of : Directory → ℕ → Result (List ℕ) Fault
hmtx_of directory n = needed_table directory hmtx_tag >>= or_short hmtx_tag (4 * n)

-- the advance of glyph g, in font units; past the pairs, the last pair's advance
abbrev pub advance_in : List ℕ → ℕ → ℕ → ℕ
advance_in hmtx n g = unsigned_at hmtx (4 * min g (n - 1)) 2

-- the offset of the bearing of glyph g: in its pair, or in the list after the pairs
abbrev pub bearing_place : ℕ → ℕ → ℕ
bearing_place n g = if nat_lt g n then 4 * g + 2 else 4 * n + 2 * (g - n)

-- the left side bearing of glyph g, in font units; past the end of the table, 0 (profile)
abbrev pub bearing_in : List ℕ → ℕ → ℕ → ℤ
bearing_in hmtx n g = unwrap_or (signed_at hmtx (bearing_place n g)) (pos 0)

-- a defect of hmtx: the pairs do not fit
abbrev pub IsHmtxDefect : Directory → ℕ → Fault → Type 0
IsHmtxDefect directory n fault = IsDefectIn directory hmtx_tag (IsShort hmtx_tag (4 * n)) fault
