-- No part of the standard: the instance of a variable font in a job of C (profile).
use Rattle.std.specs.Prelude.{◌≡◌, refl, ℕ, ◌-◌, ◌==◌, ◌&&◌, min, nat_lt, if◌then◌else◌, List, [], ◌∷◌, ◌++◌, codes, map, replicate, take, pos, negsuc, Option, None, Some, Result, Ok, Err}
use Rattle.std.specs.Int.{to_be_bytes, w32}
use Rattle.tt_axes.specs.declared.values.AxisValue.{AxisValue}
use Rattle.tt_face.specs.Instance.{Asked, Named, by_number}
use Rattle.tt_c_calls.specs.declared.variation.CAxis.{CAxis}
use Rattle.tt_c_calls.specs.Refusals.{Refusal, axes_many}

-- the most values of axes in a job
abbrev pub axes_most : ℕ
axes_most = 16

-- the limit of the number of values
unfoldable pub axes_tested : ℕ → Result (Unit {0}) Refusal
axes_tested n = if nat_lt axes_most n then Err axes_many else Ok tt

-- a value with its tag in bytes, the highest byte of the number first
abbrev pub axis_value : CAxis → AxisValue
axis_value a = record { tag = to_be_bytes w32 a.tag; value = a.value }

-- the values before any is given
abbrev pub no_values : List AxisValue
no_values = replicate axes_most (record { tag = 0 ∷ 0 ∷ 0 ∷ 0 ∷ []; value = pos 0 })

-- the named instance of a number: none for 0, instance k for k + 1
abbrev pub instance_named : ℕ → Option Named
instance_named n = if n == 0 then None else Some (by_number (n - 1))

-- an instance by a number and some values of axes; none with neither
abbrev pub asked_by : ℕ → ℕ → List AxisValue → Option Asked
asked_by n count values =
    if (n == 0) && (count == 0) then None else Some (record { named = instance_named n; axes = values })

-- the instance by a number and the first values of a job; of more values than the limit the first ones
unfoldable pub instance_asked : ℕ → ℕ → List CAxis → Option Asked
instance_asked n count axis =
    asked_by n (min count axes_most) (map axis_value (take (min count axes_most) axis))

-- worked values: a weight of 700 and a width of 87.5, and no further value
abbrev pub no_axis : CAxis
no_axis = record { tag = 0; value = pos 0 }

abbrev pub two_values : List CAxis
two_values = record { tag = 0x77676874; value = pos 45875200 } ∷ record { tag = 0x77647468; value = pos 5734400 } ∷ replicate 14 no_axis

sixteen_values_and_one_more : map axes_tested (0 ∷ 16 ∷ 17 ∷ []) ≡ Ok tt ∷ Ok tt ∷ Err axes_many ∷ []
unfolding axes_tested
sixteen_values_and_one_more = refl

nothing_asked : instance_asked 0 0 two_values ≡ None
unfolding instance_asked
nothing_asked = refl

the_first_instance : instance_asked 1 0 two_values ≡ Some (record { named = Some (by_number 0); axes = [] })
unfolding instance_asked
the_first_instance = refl

a_weight_alone : instance_asked 0 1 two_values
    ≡ Some (record { named = None; axes = record { tag = codes "wght"; value = pos 45875200 } ∷ [] })
unfolding instance_asked
a_weight_alone = refl

an_instance_and_both : instance_asked 4 2 two_values ≡ Some (record {
  named = Some (by_number 3);
  axes = record { tag = codes "wght"; value = pos 45875200 } ∷ record { tag = codes "wdth"; value = pos 5734400 } ∷ [];
})
unfolding instance_asked
an_instance_and_both = refl
