-- Apple TrueType Reference Manual, "The 'hhea' table"; OpenType, "hhea: Horizontal Header Table".
use Rattle.std.specs.Prelude.{◌≡◌, ℕ, ◌≤◌, ◌==◌, if◌then◌else◌, List, length, codes, Result, Ok, Err, ◌⊎◌}
use Rattle.tt_core.specs.Faults.{Fault}
use Rattle.tt_core.specs.declared.fault.Why.TheVariants as why
use Rattle.tt_core.specs.Directory.{Directory, needed_table, IsDefectIn}
use Rattle.tt_core.specs.Faults.{fault_at}
use Rattle.tt_core.specs.Numbers.{unsigned_at, signed16}
use Rattle.tt_core.specs.Outcomes.{◌>>=◌}
use Rattle.tt_metrics.specs.declared.hhea.Hhea.{Hhea}
use Rattle.tt_metrics.specs.Tables.{or_short, IsShort}

-- 'hhea'
abbrev pub hhea_tag : List ℕ
hhea_tag = codes "hhea"

-- ascent at 4, descent at 6, lineGap at 8, numOfLongHorMetrics at 34
abbrev pub hhea_fields : List ℕ → Result Hhea Fault
hhea_fields hhea =
    if unsigned_at hhea 34 2 == 0 then Err (fault_at hhea_tag 34 why.MetricsShort)
    else Ok (record {
      ascent = signed16 (unsigned_at hhea 4 2);
      descent = signed16 (unsigned_at hhea 6 2);
      line_gap = signed16 (unsigned_at hhea 8 2);
      long_metrics = unsigned_at hhea 34 2;
    })

-- the fields of hhea, which needs 36 bytes
unfoldable pub hhea_in : List ℕ → Result Hhea Fault
hhea_in hhea = or_short hhea_tag 36 hhea >>= hhea_fields

unfoldable pub hhea_of : Directory → Result Hhea Fault
hhea_of directory = needed_table directory hhea_tag >>= hhea_in

-- a defect of hhea: it is too short, or counts no long metrics
abbrev pub IsBadHhea : List ℕ → Fault → Type 0
IsBadHhea hhea fault =
    IsShort hhea_tag 36 hhea fault
    ⊎ ((36 ≤ length hhea) × (unsigned_at hhea 34 2 ≡ 0) × (fault ≡ fault_at hhea_tag 34 why.MetricsShort))

abbrev pub IsHheaDefect : Directory → Fault → Type 0
IsHheaDefect directory fault = IsDefectIn directory hhea_tag IsBadHhea fault
