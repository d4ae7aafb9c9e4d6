-- A record that is moved, by both of its arguments.
use Rattle.std.proofs.Common.{◌≡◌, true, false, ◌+ℤ◌, Ok, Err, refl}
use Rattle.tt_axes.specs.Rounding.{whole_units}
use Rattle.tt_deltas.specs.declared.varied.Varied.{Varied}
use Rattle.tt_fit_outline.specs.Scaling.{coordinate_fault}
use Rattle.tt_glyf.specs.declared.raw.Record.{Record}
use Rattle.tt_glyf.specs.Format.{args_are_xy_values, has}
use Rattle.tt_fit_variation.specs.Moved.{is_unit}
use Rattle.tt_fit_variation.specs.Records.{moved_record, with_arguments}

pub first-out : (r : Record) (x y : Varied) → has r.flags args_are_xy_values ≡ true → is_unit (r.arg1 +ℤ whole_units x.delta) ≡ false
    → moved_record r x y ≡ Err (coordinate_fault r.at)
unfolding moved_record
first-out r x y offsets first = rw (offsets, first) refl

pub second-out : (r : Record) (x y : Varied) → has r.flags args_are_xy_values ≡ true → is_unit (r.arg1 +ℤ whole_units x.delta) ≡ true
    → is_unit (r.arg2 +ℤ whole_units y.delta) ≡ false → moved_record r x y ≡ Err (coordinate_fault r.at)
unfolding moved_record
second-out r x y offsets first second = rw (offsets, first, second) refl

pub both-made : (r : Record) (x y : Varied) → has r.flags args_are_xy_values ≡ true → is_unit (r.arg1 +ℤ whole_units x.delta) ≡ true
    → is_unit (r.arg2 +ℤ whole_units y.delta) ≡ true
    → moved_record r x y ≡ Ok (with_arguments r (r.arg1 +ℤ whole_units x.delta) (r.arg2 +ℤ whole_units y.delta))
unfolding moved_record
both-made r x y offsets first second = rw (offsets, first, second) refl
