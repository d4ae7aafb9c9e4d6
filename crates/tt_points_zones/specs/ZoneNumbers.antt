-- Apple TrueType Reference Manual, "Graphics State" (zone pointers): a zone by its number.
use Rattle.std.specs.Prelude.{◌≡◌, ℤ, pos, if◌then◌else◌, Result, Ok, Err, refl}
use Rattle.std.specs.Ordering.{int_eq}
use Rattle.tt_core.specs.declared.fault.Why.{Why}
use Rattle.tt_core.specs.declared.fault.Why.TheVariants as why
use Rattle.tt_state.specs.declared.graphics_state.Zone.{Zone}
use Rattle.tt_state.specs.declared.graphics_state.Zone.TheVariants as zone

abbrev pub zone_of : ℤ → Result Zone Why
zone_of n =
    if int_eq n (pos 0) then Ok zone.Twilight else (if int_eq n (pos 1) then Ok zone.Glyph else Err why.ZoneRange)

-- worked value
no_zone_two : zone_of (pos 2) ≡ Err why.ZoneRange
no_zone_two = refl
