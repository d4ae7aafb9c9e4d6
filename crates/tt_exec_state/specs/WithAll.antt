-- Laws of the instructions that set the graphics state. The whole instruction set changes no result, except for the
-- refusals of the profile. Without it vectors stay on the axes.
use Rattle.std.specs.Prelude.{◌≡◌, ℕ, ℤ, false, List, IfOk}
use Rattle.tt_core.specs.declared.scaling.Scale.{Scale}
use Rattle.tt_state.specs.declared.graphics_state.GraphicsState.{GraphicsState}
use Rattle.tt_state.specs.declared.tolerance.Tolerance.{Tolerance}
use Rattle.tt_state.specs.declared.vector.Vector.{Vector}
use Rattle.tt_state.specs.declared.vector.Vector.TheVariants as vector
use Rattle.tt_points_zones.specs.WithAll.{with_all, Stays}
use Rattle.tt_exec_state.specs.Settings.{state_set}
use Rattle.tt_exec_state.specs.Vectors.{vectors_accessed}
use Rattle.tt_exec_state.specs.declared.instruction.GraphicsSetting.{GraphicsSetting}
use Rattle.tt_exec_state.specs.declared.instruction.Vectors.{Vectors}

-- the graphics state beside the stack
abbrev pub beside : List ℤ × GraphicsState → List ℤ × GraphicsState
beside t = (t.0, with_all t.1)

abbrev pub VectorsStay : Type 0
VectorsStay = (o : Vectors) (s : List ℤ) (g : GraphicsState)
    → Stays beside (vectors_accessed o s g) (vectors_accessed o s (with_all g))

abbrev pub SettingsStay : Type 0
SettingsStay = (o : GraphicsSetting) (ppem : ℕ) (scale : Scale) (t : Tolerance) (s : List ℤ) (g : GraphicsState)
    → Stays beside (state_set o ppem scale t s g) (state_set o ppem scale t s (with_all g))

abbrev pub IsAxis : Vector → Type 0
IsAxis vector.X = Unit {0}
IsAxis vector.Y = Unit {0}
IsAxis (vector.Off s) = ⊥

-- vectors on the axes, and a dual projection vector that is the projection vector
pub record AreOnAxes (g : GraphicsState) : Type 0 where
  pub whole : g.whole ≡ false
  pub projection : IsAxis g.proj
  pub dual : g.dual ≡ g.proj
  pub freedom : IsAxis g.free

abbrev pub AxesAreKept : Type 0
AxesAreKept = (o : Vectors) (s : List ℤ) (g : GraphicsState) → AreOnAxes g
    → IfOk (vectors_accessed o s g) (λ t. AreOnAxes t.1)
