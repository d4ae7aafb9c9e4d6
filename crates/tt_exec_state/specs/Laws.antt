-- Laws of the instructions that set or read a program's settings and values (profile): the tolerant machine beside a
-- strict one, and too few values.
use Rattle.std.specs.Prelude.{◌≡◌, ℕ, ◌<◌, ◌≤◌, ℤ, List, length, Err}
use Rattle.tt_core.specs.declared.scaling.Scale.{Scale}
use Rattle.tt_core.specs.declared.fault.Why.TheVariants as why
use Rattle.tt_state.specs.Loosening.{Loosens, IsTotal}
use Rattle.tt_state.specs.declared.graphics_state.GraphicsState.{GraphicsState}
use Rattle.tt_state.specs.declared.tolerance.Tolerance.{Tolerance}
use Rattle.tt_state.specs.declared.tolerance.Tolerance.TheVariants as tolerance
use Rattle.tt_exec_state.specs.Queries as queries
use Rattle.tt_exec_state.specs.Settings as settings
use Rattle.tt_exec_state.specs.StoredValues as values
use Rattle.tt_exec_state.specs.Vectors as vectors
use Rattle.tt_exec_state.specs.declared.instruction.Query.{Query}
use Rattle.tt_exec_state.specs.declared.instruction.GraphicsSetting.{GraphicsSetting}
use Rattle.tt_exec_state.specs.declared.instruction.StoredValues.{StoredValues}
use Rattle.tt_exec_state.specs.declared.instruction.Vectors.{Vectors}

-- a tolerant machine has the result of a strict one, or another in place of a refusal that tolerance lifts
abbrev pub SettingIsLoosened : Type 0
SettingIsLoosened = (o : GraphicsSetting) (ppem : ℕ) (scale : Scale) (s : List ℤ) (g : GraphicsState)
    → Loosens (settings.state_set o ppem scale tolerance.Strict s g) (settings.state_set o ppem scale tolerance.Tolerant s g)

abbrev pub ValuesAreLoosened : Type 0
ValuesAreLoosened = (o : StoredValues) (scale : Scale) (s storage cvt : List ℤ)
    → Loosens (values.values_accessed o scale tolerance.Strict s storage cvt)
    (values.values_accessed o scale tolerance.Tolerant s storage cvt)

-- with the values that it takes, an instruction does not fail with too few, and a missing thing is passed over
abbrev pub SettingIsTotal : Type 0
SettingIsTotal = (o : GraphicsSetting) (ppem : ℕ) (scale : Scale) (s : List ℤ) (g : GraphicsState) → settings.takes o ≤ length s
    → IsTotal (settings.state_set o ppem scale tolerance.Tolerant s g)

abbrev pub ValuesAreTotal : Type 0
ValuesAreTotal = (o : StoredValues) (scale : Scale) (s storage cvt : List ℤ) → values.takes o ≤ length s
    → IsTotal (values.values_accessed o scale tolerance.Tolerant s storage cvt)

abbrev pub VectorsAreTotal : Type 0
VectorsAreTotal = (o : Vectors) (s : List ℤ) (g : GraphicsState) → vectors.takes o ≤ length s
    → IsTotal (vectors.vectors_accessed o s g)

abbrev pub QueriesAreTotal : Type 0
QueriesAreTotal = (o : Query) (ppem : ℕ) (instance s : List ℤ) → queries.takes o ≤ length s
    → IsTotal (queries.answered o ppem instance s)

-- with fewer values an instruction is refused
abbrev pub SettingIsShort : Type 0
SettingIsShort = (o : GraphicsSetting) (ppem : ℕ) (scale : Scale) (t : Tolerance) (s : List ℤ) (g : GraphicsState)
    → length s < settings.takes o → settings.state_set o ppem scale t s g ≡ Err why.StackShort

abbrev pub ValuesAreShort : Type 0
ValuesAreShort = (o : StoredValues) (scale : Scale) (t : Tolerance) (s storage cvt : List ℤ)
    → length s < values.takes o → values.values_accessed o scale t s storage cvt ≡ Err why.StackShort

abbrev pub VectorsAreShort : Type 0
VectorsAreShort = (o : Vectors) (s : List ℤ) (g : GraphicsState) → length s < vectors.takes o
    → vectors.vectors_accessed o s g ≡ Err why.StackShort

abbrev pub QueriesAreShort : Type 0
QueriesAreShort = (o : Query) (ppem : ℕ) (instance s : List ℤ) → length s < queries.takes o
    → queries.answered o ppem instance s ≡ Err why.StackShort
