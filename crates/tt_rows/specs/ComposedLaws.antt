-- Laws of composed letters. A line without a pair that composes is unchanged, and composing again changes nothing.
use Rattle.std.specs.Prelude.{◌≡◌, ℕ, ◌≤◌, Bool, false, ◌||◌, List, [], ◌∷◌, length, None, Some}
use Rattle.std.specs.Option.{is_some}
use Rattle.tt_cmap.specs.Maps.{CharacterMap}
use Rattle.tt_rows.specs.Composed.{composed, composite_in}
use Rattle.unicode_normalization.specs.Compose.{primary_composite}

-- the characters after a character have a pair that composes, the first of them with that character
abbrev pub has_pair_after : CharacterMap → ℕ → List ℕ → Bool
has_pair_after m a [] = false
has_pair_after m a (b ∷ cs) = is_some (composite_in m a b) || has_pair_after m b cs

-- some characters have a pair that composes
abbrev pub has_pair : CharacterMap → List ℕ → Bool
has_pair m [] = false
has_pair m (c ∷ cs) = has_pair_after m c cs

-- a line without such a pair is unchanged
abbrev pub UncomposedLinesStay : Type 0
UncomposedLinesStay = (m : CharacterMap) (cs : List ℕ) → has_pair m cs ≡ false → composed m cs ≡ cs

-- composing again changes nothing
abbrev pub ComposingAgainChangesNothing : Type 0
ComposingAgainChangesNothing = (m : CharacterMap) (cs : List ℕ) → composed m (composed m cs) ≡ composed m cs

-- a line does not get longer
abbrev pub ComposedLinesAreNoLonger : Type 0
ComposedLinesAreNoLonger = (m : CharacterMap) (cs : List ℕ) → length (composed m cs) ≤ length cs

-- no composite is the second character of a primary composite
abbrev pub CompositesAreNeverSecond : Type 0
CompositesAreNeverSecond = (a b c d : ℕ) → primary_composite a b ≡ Some c → primary_composite d c ≡ None
