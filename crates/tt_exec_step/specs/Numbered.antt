-- Apple TrueType Reference Manual, "Instruction set" (defining and using functions): functions by number.
use Rattle.std.specs.Prelude.{ℕ, ◌+◌, max, ℤ, pos, int_le, unsigned_abs, Bool, ◌&&◌, if◌then◌else◌, List, [], ◌∷◌, length, Option, None}
use Rattle.std.specs.BTreeMap.{insert_entry, is_at}
use Rattle.std.specs.Map.{lookup}
use Rattle.std.specs.Ordering.{nat_cmp}
use Rattle.tt_exec_step.specs.MachineState.{Body}

-- a number that a function can have
abbrev pub is_number : ℤ → Bool
is_number n = int_le (pos 0) n && int_le n (pos 65535)

-- a number that is an opcode
abbrev pub is_opcode : ℤ → Bool
is_opcode n = int_le (pos 0) n && int_le n (pos 255)

-- the function with a number
abbrev pub function_at : ℤ → List (ℕ × Body) → Option Body
function_at n functions = if is_number n then lookup (is_at (nat_cmp (unsigned_abs n))) functions else None

-- the functions with one more, which replaces an earlier one
abbrev pub with_function : ℕ → Body → List (ℕ × Body) → List (ℕ × Body)
with_function n f functions = insert_entry nat_cmp functions n f

-- the places of a table of functions: one for each number up to the greatest
abbrev pub extent : List (ℕ × Body) → ℕ
extent [] = 0
extent (f ∷ functions) = max (f.0 + 1) (extent functions)

-- the things copied for a table of functions: its bodies, and a place for each number up to the greatest
abbrev pub table_copies : List (ℕ × Body) → ℕ
table_copies functions = length functions + extent functions
