-- Apple TrueType Reference Manual, "The 'head' table"; OpenType, "head: Font Header Table".
use Rattle.std.specs.Prelude.{◌≡◌, ℕ, ◌≤◌, Bool, false, not, ◌&&◌, ◌||◌, ◌==◌, nat_le, if◌then◌else◌, List, length, codes, Result, Ok, Err, ◌⊎◌}
use Rattle.tt_core.specs.Faults.{Fault}
use Rattle.tt_core.specs.declared.fault.Why.TheVariants as why
use Rattle.tt_core.specs.Directory.{Directory, needed_table, IsDefectIn}
use Rattle.tt_core.specs.Faults.{fault_at}
use Rattle.tt_core.specs.Numbers.{unsigned_at}
use Rattle.tt_core.specs.Outcomes.{◌>>=◌}
use Rattle.tt_metrics.specs.declared.head.Head.{Head}
use Rattle.tt_metrics.specs.declared.head.LocaFormat.{LocaFormat}
use Rattle.tt_metrics.specs.declared.head.LocaFormat.TheVariants.{Short, Long}
use Rattle.tt_metrics.specs.Tables.{or_short, IsShort}

-- 'head'
abbrev pub head_tag : List ℕ
head_tag = codes "head"

abbrev pub is_magic : ℕ → Bool
is_magic n = n == 0x5F0F3CF5

-- the range of font units in an em, from the standard
abbrev pub smallest_em : ℕ
smallest_em = 16

abbrev pub largest_em : ℕ
largest_em = 16384

abbrev pub is_em : ℕ → Bool
is_em n = nat_le smallest_em n && nat_le n largest_em

abbrev pub is_loca_format : ℕ → Bool
is_loca_format n = (n == 0) || (n == 1)

abbrev pub loca_format_of : ℕ → LocaFormat
loca_format_of n = if n == 0 then Short else Long

-- magicNumber at 12, unitsPerEm at 18, indexToLocFormat at 50
abbrev pub head_fields : List ℕ → Result Head Fault
head_fields head =
    if not (is_magic (unsigned_at head 12 4)) then Err (fault_at head_tag 12 why.HeadMagic)
    else (if not (is_em (unsigned_at head 18 2)) then Err (fault_at head_tag 18 why.EmRange)
    else (if not (is_loca_format (unsigned_at head 50 2)) then Err (fault_at head_tag 50 why.LocaFormat)
    else Ok (record { units_per_em = unsigned_at head 18 2; loca_format = loca_format_of (unsigned_at head 50 2) })))

-- the fields of head, which needs 54 bytes
unfoldable pub head_in : List ℕ → Result Head Fault
head_in head = or_short head_tag 54 head >>= head_fields

unfoldable pub head_of : Directory → Result Head Fault
head_of directory = needed_table directory head_tag >>= head_in

-- a defect of head: it is too short, or a field that exists has a refused value
abbrev pub IsBadHead : List ℕ → Fault → Type 0
IsBadHead head fault =
    IsShort head_tag 54 head fault
    ⊎ ((16 ≤ length head) × (is_magic (unsigned_at head 12 4) ≡ false) × (fault ≡ fault_at head_tag 12 why.HeadMagic))
    ⊎ ((20 ≤ length head) × (is_em (unsigned_at head 18 2) ≡ false) × (fault ≡ fault_at head_tag 18 why.EmRange))
    ⊎ ((52 ≤ length head) × (is_loca_format (unsigned_at head 50 2) ≡ false)
    × (fault ≡ fault_at head_tag 50 why.LocaFormat))

abbrev pub IsHeadDefect : Directory → Fault → Type 0
IsHeadDefect directory fault = IsDefectIn directory head_tag IsBadHead fault
