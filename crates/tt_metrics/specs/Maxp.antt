-- Apple TrueType Reference Manual, "The 'maxp' table"; OpenType, "maxp: Maximum Profile". Only two of the maxima are
-- used: those of the twilight zone and of the storage area (profile).
use Rattle.std.specs.Prelude.{◌≡◌, ℕ, ◌≤◌, Bool, false, ◌==◌, if◌then◌else◌, List, length, codes, Result, Ok, Err, ◌⊎◌}
use Rattle.tt_core.specs.Faults.{Fault}
use Rattle.tt_core.specs.declared.fault.Why.TheVariants as why
use Rattle.tt_core.specs.Directory.{Directory, needed_table, IsDefectIn}
use Rattle.tt_core.specs.Faults.{fault_at}
use Rattle.tt_core.specs.Numbers.{unsigned_at}
use Rattle.tt_core.specs.Outcomes.{◌>>=◌}
use Rattle.tt_metrics.specs.declared.maxp.Maxp.{Maxp}
use Rattle.tt_metrics.specs.Tables.{or_short, IsShort}

-- 'maxp'
abbrev pub maxp_tag : List ℕ
maxp_tag = codes "maxp"

abbrev pub is_maxp_version : ℕ → Bool
is_maxp_version n = n == 0x00010000

-- the version is tested as soon as its four bytes exist
abbrev pub versioned_maxp : List ℕ → Result (List ℕ) Fault
versioned_maxp maxp = if is_maxp_version (unsigned_at maxp 0 4) then Ok maxp else Err
    (fault_at maxp_tag 0 why.MaxpVersion)

-- numGlyphs at 4, maxTwilightPoints at 16, maxStorage at 18
abbrev pub maxp_fields : List ℕ → Result Maxp Fault
maxp_fields maxp =
    if unsigned_at maxp 4 2 == 0 then Err (fault_at maxp_tag 4 why.MetricsShort)
    else Ok (record { glyphs = unsigned_at maxp 4 2; twilight = unsigned_at maxp 16 2; storage = unsigned_at maxp 18 2 })

-- the fields of maxp, which needs 32 bytes
unfoldable pub maxp_in : List ℕ → Result Maxp Fault
maxp_in maxp = or_short maxp_tag 4 maxp >>= versioned_maxp >>= or_short maxp_tag 32 >>= maxp_fields

unfoldable pub maxp_of : Directory → Result Maxp Fault
maxp_of directory = needed_table directory maxp_tag >>= maxp_in

-- a defect of maxp: the table is too short, or one of its fields has a refused value
abbrev pub IsBadMaxp : List ℕ → Fault → Type 0
IsBadMaxp maxp fault =
    IsShort maxp_tag 32 maxp fault
    ⊎ ((4 ≤ length maxp) × (is_maxp_version (unsigned_at maxp 0 4) ≡ false)
    × (fault ≡ fault_at maxp_tag 0 why.MaxpVersion))
    ⊎ ((6 ≤ length maxp) × (unsigned_at maxp 4 2 ≡ 0) × (fault ≡ fault_at maxp_tag 4 why.MetricsShort))

abbrev pub IsMaxpDefect : Directory → Fault → Type 0
IsMaxpDefect directory fault = IsDefectIn directory maxp_tag IsBadMaxp fault
