-- OpenType, "gvar", "Point numbers and processing for composite glyphs": the components of a glyph at an instance. A
-- component with offsets is moved by whole font units, and its arguments stay int16 (profile). One that matches points
-- stays.
use Rattle.std.specs.Prelude.{◌≡◌, refl, ℕ, ◌&&◌, if◌then◌else◌, ℤ, pos, negsuc, ◌+ℤ◌, List, [], ◌∷◌, Result, Ok, Err}
use Rattle.tt_core.specs.Faults.{Fault}
use Rattle.tt_core.specs.Outcomes.{◌>>=◌}
use Rattle.tt_axes.specs.Rounding.{whole_units}
use Rattle.tt_deltas.specs.declared.varied.Varied.{Varied}
use Rattle.tt_fit_outline.specs.Scaling.{coordinate_fault}
use Rattle.tt_glyf.specs.Composite.{one}
use Rattle.tt_glyf.specs.declared.raw.Record.{Record}
use Rattle.tt_glyf.specs.Format.{args_are_xy_values, has}
use Rattle.tt_fit_variation.specs.Moved.{is_unit}

abbrev pub with_arguments : Record → ℤ → ℤ → Record
with_arguments r x y = record r { arg1 = x; arg2 = y }

-- a component's record by the deltas of its point
abbrev pub moved_arguments : Record → ℤ → ℤ → Result Record Fault
moved_arguments r x y =
    if is_unit x && is_unit y then Ok (with_arguments r x y) else Err (coordinate_fault r.at)

unfoldable pub moved_record : Record → Varied → Varied → Result Record Fault
moved_record r x y =
    if has r.flags args_are_xy_values then moved_arguments r (r.arg1 +ℤ whole_units x.delta) (r.arg2 +ℤ whole_units y.delta)
    else Ok r

-- the records of a glyph in order, or the first fault
abbrev pub moved_records : List Record → List Varied → List Varied → Result (List Record) Fault
moved_records [] xs ys = Ok []
moved_records (r ∷ rs) [] ys = Ok []
moved_records (r ∷ rs) (x ∷ xs) [] = Ok []
moved_records (r ∷ rs) (x ∷ xs) (y ∷ ys) =
    moved_record r x y >>= λ moved. moved_records rs xs ys >>= λ others. Ok (moved ∷ others)

-- worked values: offsets of 10 and -10 units, or points 10 and -10, moved by a half and by less than a half
abbrev by : ℤ → Varied
by delta = record { at = pos 0; delta = delta }

abbrev its_record : ℕ → ℤ → Record
its_record flags x = record { at = 32; flags = flags; glyph = 1; arg1 = x; arg2 = negsuc 9; xx = one; yx = pos 0; xy = pos 0; yy = one }

by_a_half : moved_record (its_record 2 (pos 10)) (by (pos 32768)) (by (pos 32767)) ≡ Ok (its_record 2 (pos 11))
unfolding moved_record
by_a_half = refl

by_points : moved_record (its_record 0 (pos 10)) (by (pos 6553600)) (by (pos 6553600)) ≡ Ok (its_record 0 (pos 10))
unfolding moved_record
by_points = refl

past_16_bits : moved_record (its_record 2 (pos 32767)) (by (pos 32768)) (by (pos 0)) ≡ Err (coordinate_fault 32)
unfolding moved_record
past_16_bits = refl

-- the second record's fault
the_first_fault : moved_records (its_record 2 (pos 10) ∷ its_record 2 (pos 32767) ∷ []) (by (pos 0) ∷ by (pos 65536) ∷ []) (by (pos 0) ∷ by (pos 0) ∷ [])
    ≡ Err (coordinate_fault 32)
unfolding moved_record
the_first_fault = refl

-- offsets of 16 and 0 units, half of the way to 63 and -31 more
half_of_the_way : moved_record (record (its_record 2 (pos 16)) { arg2 = pos 0 }) (by (pos 2064384)) (by (negsuc 1015807))
    ≡ Ok (record (its_record 2 (pos 48)) { arg2 = negsuc 14 })
unfolding moved_record
half_of_the_way = refl
