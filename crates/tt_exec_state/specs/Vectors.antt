-- Apple TrueType Reference Manual, "Instruction set": managing the graphics state, the vectors. The top of the stack
-- comes first.
use Rattle.std.specs.Prelude.{◌≡◌, ℕ, ◌+◌, ℤ, pos, negsuc, unsigned_abs, Bool, true, false, ◌&&◌, if◌then◌else◌, List, [], ◌∷◌, Result, Ok, Err, refl}
use Rattle.std.specs.Int.{int_rem_euclid}
use Rattle.std.specs.Ordering.{int_eq}
use Rattle.tt_core.specs.Numbers.{signed16}
use Rattle.tt_core.specs.Outcomes.{◌>>=◌}
use Rattle.tt_core.specs.declared.fault.Why.{Why}
use Rattle.tt_core.specs.declared.fault.Why.TheVariants as why
use Rattle.tt_state.specs.Axes.{pair_of, vector_of}
use Rattle.tt_state.specs.GraphicsState.{default_of}
use Rattle.tt_state.specs.Vectors.{pair, unit, root}
use Rattle.tt_state.specs.declared.graphics_state.Axis.{Axis}
use Rattle.tt_state.specs.declared.graphics_state.Axis.TheVariants as axis
use Rattle.tt_state.specs.declared.graphics_state.GraphicsState.{GraphicsState}
use Rattle.tt_state.specs.declared.vector.Vector.{Vector}
use Rattle.tt_state.specs.declared.vector.Vector.TheVariants as vector
use Rattle.tt_exec_state.specs.declared.instruction.Vectors.{Vectors}
use Rattle.tt_exec_state.specs.declared.instruction.Vectors.TheVariants as op
use Rattle.tt_exec_stack.specs.Stack.{pushed}

abbrev pub along : Axis → Vector
along axis.X = vector.X
along axis.Y = vector.Y

-- the projection vector and the dual one set
abbrev pub projects_along : Vector → GraphicsState → GraphicsState
projects_along v g = record g { proj = v; dual = v }

-- the low 16 bits of a stack value, in two's complement (profile)
unfoldable pub part : ℤ → ℤ
part n = signed16 (unsigned_abs (int_rem_euclid n (pos 65536)))

-- The unit vector in the direction of a pair (profile: the manual leaves a pair that is no unit vector to the font).
-- Without the whole instruction set only the pair of an axis, in 2.14, is allowed (profile).
abbrev pub vector_given : ℤ → ℤ → Bool → Result Vector Why
vector_given x y true = Ok (vector_of (unit (part x) (part y)))
vector_given x y false =
    if int_eq x (pos 16384) && int_eq y (pos 0) then Ok vector.X else (
    if int_eq x (pos 0) && int_eq y (pos 16384) then Ok vector.Y else Err why.OffProfile)

-- a vector's parts, its x first
abbrev pub vector_pushed : Vector → List ℤ → Result (List ℤ) Why
vector_pushed v s = pushed (pair_of v).x s >>= λ t. pushed (pair_of v).y t

abbrev pub svtca : Axis → GraphicsState → GraphicsState
svtca axis g = record (projects_along (along axis) g) { free = along axis }

abbrev pub spvtca : Axis → GraphicsState → GraphicsState
spvtca axis g = projects_along (along axis) g

abbrev pub sfvtca : Axis → GraphicsState → GraphicsState
sfvtca axis g = record g { free = along axis }

abbrev pub spvfs : List ℤ → GraphicsState → Result (List ℤ × GraphicsState) Why
spvfs (y ∷ x ∷ s) g = vector_given x y g.whole >>= λ v. Ok (s, projects_along v g)
spvfs _ g = Err why.StackShort

abbrev pub sfvfs : List ℤ → GraphicsState → Result (List ℤ × GraphicsState) Why
sfvfs (y ∷ x ∷ s) g = vector_given x y g.whole >>= λ v. Ok (s, record g { free = v })
sfvfs _ g = Err why.StackShort

abbrev pub gpv : List ℤ → GraphicsState → Result (List ℤ × GraphicsState) Why
gpv s g = vector_pushed g.proj s >>= λ t. Ok (t, g)

abbrev pub gfv : List ℤ → GraphicsState → Result (List ℤ × GraphicsState) Why
gfv s g = vector_pushed g.free s >>= λ t. Ok (t, g)

abbrev pub sfvtpv : GraphicsState → GraphicsState
sfvtpv g = record g { free = g.proj }

abbrev pub vectors_accessed : Vectors → List ℤ → GraphicsState → Result (List ℤ × GraphicsState) Why
vectors_accessed (op.Svtca axis) s g = Ok (s, svtca axis g)
vectors_accessed (op.Spvtca axis) s g = Ok (s, spvtca axis g)
vectors_accessed (op.Sfvtca axis) s g = Ok (s, sfvtca axis g)
vectors_accessed op.Spvfs s g = spvfs s g
vectors_accessed op.Sfvfs s g = sfvfs s g
vectors_accessed op.Gpv s g = gpv s g
vectors_accessed op.Gfv s g = gfv s g
vectors_accessed op.Sfvtpv s g = Ok (s, sfvtpv g)

-- the count of values that an instruction takes
abbrev pub takes : Vectors → ℕ
takes op.Spvfs = 2
takes op.Sfvfs = 2
takes other = 0

-- worked values: vectors by their parts, the part along y on top of the stack
y_on_top : vector_given (pos 0) (pos 16384) false ≡ Ok vector.Y
y_on_top = refl

a_diagonal_off_the_profile : vector_given (pos 11585) (pos 11585) false ≡ Err why.OffProfile
a_diagonal_off_the_profile = refl

three_four : spvfs (pos 4 ∷ pos 3 ∷ []) (default_of true)
    ≡ Ok ([], projects_along (vector_of (pair (pos 9830) (pos 13107))) (default_of true))
unfolding unit root part vector_of
three_four = refl

low_words : vector_given (negsuc 11584) (pos (65536 + 11585)) true ≡ Ok (vector_of (pair (negsuc 11584) (pos 11585)))
unfolding unit root part vector_of
low_words = refl

no_direction : vector_given (pos 65536) (pos 0) true ≡ Ok vector.X
unfolding unit root part vector_of
no_direction = refl

its_parts : vector_pushed (vector_of (pair (pos 7327) (pos 14654))) [] ≡ Ok (pos 14654 ∷ pos 7327 ∷ [])
unfolding vector_of pushed
its_parts = refl
