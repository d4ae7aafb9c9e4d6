-- The coordinates of an instance of a font: fvar, then avar where it is there.
use Rattle.std.specs.Prelude.{◌≡◌, refl, ℕ, List, [], ◌∷◌, ◌++◌, codes, Option, None, Result, Ok, Err, IsOkAnd, ◌⊎◌, ℤ, pos}
use Rattle.tt_core.specs.declared.fault.Why.TheVariants as why
use Rattle.tt_core.specs.Directory.{Directory, file_directory, needed_table, table_of}
use Rattle.tt_core.specs.Faults.{Fault, fault_at}
use Rattle.tt_core.specs.Outcomes.{◌>>=◌}
use Rattle.tt_axes.specs.Avar.{all_mapped, avar_of, four_pairs, is_avar, mapped, mapped_by}
use Rattle.tt_axes.specs.Axes.{axis_of, coordinate_on}
use Rattle.tt_axes.specs.declared.values.AxisValue.{AxisValue}
use Rattle.tt_axes.specs.Fvar.{axis_count, fvar_in, fvar_of, fvar_tag, weights, IsFvarDefect}
use Rattle.tt_axes.specs.Instances.{coordinates_in, no_axis, weight, IsWrongInstance}

unfoldable pub coordinates_of : Directory → Option ℕ → List AxisValue → Result (List ℤ) Fault
coordinates_of directory named values = do
  fvar ← fvar_of directory
  coordinates ← coordinates_in fvar named values
  Ok (mapped_by (avar_of directory (axis_count fvar)) coordinates)

-- fvar has a defect, or a job asks in vain
abbrev pub IsInstanceDefect : Directory → Option ℕ → List AxisValue → Fault → Type 0
IsInstanceDefect directory named values fault =
    IsFvarDefect directory fault ⊎ IsOkAnd (fvar_of directory) (λ fvar. IsWrongInstance fvar named values fault)

-- worked values: a font with fvar and another table of 26 bytes, at an offset
abbrev font_with : List ℕ → ℕ → Directory
font_with tag at = file_directory (
    (0 ∷ 1 ∷ 0 ∷ 0 ∷ 0 ∷ 2 ∷ 0 ∷ 0 ∷ 0 ∷ 0 ∷ 0 ∷ 0 ∷ []) ++ (codes "fvar" ++ ((0 ∷ 0 ∷ 0 ∷ 0 ∷ 0 ∷ 0 ∷ 0 ∷ 44 ∷ 0 ∷ 0 ∷ 0 ∷ 36 ∷ [])
    ++ (tag ++ ((0 ∷ 0 ∷ 0 ∷ 0 ∷ 0 ∷ 0 ∷ 0 ∷ at ∷ 0 ∷ 0 ∷ 0 ∷ 26 ∷ []) ++ (weights ++ four_pairs))))))

by_avar : coordinates_of (font_with (codes "avar") 80) None (weight (pos 42598400) ∷ []) ≡ Ok (pos 16384 ∷ [])
unfolding coordinates_of fvar_of fvar_in coordinates_in axis_of coordinate_on avar_of is_avar all_mapped mapped needed_table table_of
by_avar = refl

without_avar : coordinates_of (font_with (codes "cvar") 80) None (weight (pos 42598400) ∷ []) ≡ Ok (pos 32768 ∷ [])
unfolding coordinates_of fvar_of fvar_in coordinates_in axis_of coordinate_on avar_of needed_table table_of
without_avar = refl

-- avar past the end of the file is not there
avar_past_the_end : coordinates_of (font_with (codes "avar") 81) None (weight (pos 42598400) ∷ []) ≡ Ok (pos 32768 ∷ [])
unfolding coordinates_of fvar_of fvar_in coordinates_in axis_of coordinate_on avar_of needed_table table_of
avar_past_the_end = refl

another_axis : coordinates_of (font_with (codes "avar") 80) None (record { tag = codes "wdth"; value = pos 0 } ∷ []) ≡ Err no_axis
unfolding coordinates_of fvar_of fvar_in coordinates_in needed_table table_of
another_axis = refl

no_fvar : coordinates_of (file_directory (0 ∷ 1 ∷ 0 ∷ 0 ∷ 0 ∷ 0 ∷ 0 ∷ 0 ∷ 0 ∷ 0 ∷ 0 ∷ 0 ∷ [])) None [] ≡ Err (fault_at fvar_tag 0 why.NoTable)
unfolding coordinates_of fvar_of needed_table table_of
no_fvar = refl
