-- No part of the standard: the rules of each fit (profile).
use Rattle.std.specs.Prelude.{◌≡◌, ℕ, ℤ, ◌*◌, ◌==◌, Bool, true, false, not, ◌&&◌, List, [], ◌∷◌, length, take, Option, Some, None, refl}
use Rattle.tt_core.specs.Limits.{level_limit, best_level_limit, work_limit}
use Rattle.tt_state.specs.declared.tolerance.Tolerance.TheVariants as tolerance
use Rattle.tt_fit.specs.declared.dropouts.DropoutsBy.{DropoutsBy}
use Rattle.tt_fit.specs.declared.dropouts.DropoutsBy.TheVariants as by
use Rattle.tt_fit.specs.declared.programs.Fit.{Fit}
use Rattle.tt_fit.specs.declared.programs.Fit.TheVariants as fit
use Rattle.tt_fit_outline.specs.declared.grid.GridRule.{GridRule}
use Rattle.tt_fit_outline.specs.declared.grid.GridRule.TheVariants as grid_rule
use Rattle.tt_fit_outline.specs.declared.rules.OutlineRules.{OutlineRules}
use Rattle.tt_fit_outline.specs.declared.rules.Scaling.TheVariants as scaling

-- the fits that make a glyph unfitted where a program is refused
abbrev pub falls_back : Fit → Bool
falls_back fit.Full = false
falls_back fit.None = false
falls_back fit.Fallback = true
falls_back fit.Best = true

-- the rules for running programs and scaling: those of the profile; or the whole instruction set, tolerance, and a
-- factor that is rounded first
abbrev pub of_profile : OutlineRules
of_profile = record { whole = false; tolerance = tolerance.Strict; scaling = scaling.Exact }

abbrev pub rules_of : Fit → OutlineRules
rules_of fit.Full = of_profile
rules_of fit.None = of_profile
rules_of fit.Fallback = of_profile
rules_of fit.Best = record { whole = true; tolerance = tolerance.Tolerant; scaling = scaling.Rounded }

-- when component offsets and phantom points are rounded to whole pixels
abbrev pub grid_of : Fit → GridRule
grid_of fit.Full = grid_rule.Always
grid_of fit.None = grid_rule.Always
grid_of fit.Fallback = grid_rule.Always
grid_of fit.Best = grid_rule.WhereHinted

-- Whether the font's programs are run. With Best no program is run where the font program and the control value program
-- are both empty: any glyph programs are left over from a font that had them (profile).
abbrev pub runs_programs : Fit → List ℕ → List ℕ → Bool
runs_programs fit.Full fpgm prep = true
runs_programs fit.None fpgm prep = false
runs_programs fit.Fallback fpgm prep = true
runs_programs fit.Best fpgm prep = not (length fpgm == 0 && length prep == 0)

-- how deep components may be nested
abbrev pub levels_of : Fit → ℕ
levels_of fit.Full = level_limit
levels_of fit.None = level_limit
levels_of fit.Fallback = level_limit
levels_of fit.Best = best_level_limit

-- the budget of work for a job's programs, None where it is unbounded
abbrev pub work_of : Fit → Option ℕ
work_of fit.Full = None
work_of fit.None = None
work_of fit.Fallback = None
work_of fit.Best = Some work_limit

-- control values that are read, if the job's work is bounded
abbrev pub cvt_limit : ℕ
cvt_limit = 65535

-- The bytes of the control values that are read. A value is two bytes. With Best the values past the limit are missing
-- (profile).
abbrev pub cvt_read : Fit → List ℕ → List ℕ
cvt_read fit.Full cvt = cvt
cvt_read fit.None cvt = cvt
cvt_read fit.Fallback cvt = cvt
cvt_read fit.Best cvt = take (2 * cvt_limit) cvt

-- The instance that programs can read, as the place on each axis in 2.14. Only the whole instruction set can.
abbrev pub instance_read : Fit → List ℤ → List ℤ
instance_read fit.Full instance = []
instance_read fit.None instance = []
instance_read fit.Fallback instance = []
instance_read fit.Best instance = instance

-- the source of the dropout rules: with Best the font's programs
abbrev pub dropouts_by : Fit → DropoutsBy
dropouts_by fit.Full = by.Nobody
dropouts_by fit.None = by.Nobody
dropouts_by fit.Fallback = by.Nobody
dropouts_by fit.Best = by.Programs

-- worked values
four_by_default : levels_of fit.Full ≡ 4
four_by_default = refl

eight_with_best : levels_of fit.Best ≡ 8
eight_with_best = refl

-- a font program of one byte is enough
left_over : runs_programs fit.Best [] [] ≡ false
left_over = refl

one_byte : runs_programs fit.Best (0x2D ∷ []) [] ≡ true
one_byte = refl

left_over_with_full : runs_programs fit.Full [] [] ≡ true
left_over_with_full = refl

best_is_bounded : work_of fit.Best ≡ Some 50000000
best_is_bounded = refl

limit_in_bytes : 2 * cvt_limit ≡ 131070
limit_in_bytes = refl

none_of_none : cvt_read fit.Best [] ≡ []
none_of_none = refl

-- an odd last byte remains, and is no value
few_are_read : cvt_read fit.Best (0 ∷ 100 ∷ 255 ∷ 255 ∷ 9 ∷ []) ≡ 0 ∷ 100 ∷ 255 ∷ 255 ∷ 9 ∷ []
few_are_read = refl
