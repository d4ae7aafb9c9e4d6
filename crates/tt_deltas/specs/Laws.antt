-- Lemmas about moved coordinates, for all tuples.
use Rattle.std.specs.Prelude.{◌≡◌, ℕ, ℤ, pos, ◌+ℤ◌, ◌*ℤ◌, ◌<◌, ◌≤◌, List, length, get_or, Option, Some, None}
use Rattle.tt_deltas_inference.specs.Bounds.{AreContourEnds}
use Rattle.tt_deltas.specs.Along.{own_delta, varied_along}
use Rattle.tt_deltas.specs.declared.varied.Varied.{Varied}

-- a point that a tuple names moves by its own delta, times the tuple's share
abbrev pub NamedPointsMove : Type 0
NamedPointsMove = (share : ℕ) (numbers : Option (List ℕ)) (deltas : List ℤ) (ends : List ℕ) (vs : List Varied)
    (v : Varied) (i : ℕ) (d : ℤ) → AreContourEnds 0 ends (length vs) → i < length vs
    → own_delta numbers deltas i ≡ Some d
    → (get_or (varied_along share numbers deltas ends vs) i v).delta ≡ (get_or vs i v).delta +ℤ (d *ℤ pos share)

-- a point after all contours, so a phantom point, a component or a control value, stays where the tuple does not name it
abbrev pub OtherPointsStay : Type 0
OtherPointsStay = (share : ℕ) (numbers : Option (List ℕ)) (deltas : List ℤ) (ends : List ℕ) (vs : List Varied)
    (v : Varied) (i n : ℕ) → AreContourEnds 0 ends n → n ≤ i → i < length vs → own_delta numbers deltas i ≡ None
    → (get_or (varied_along share numbers deltas ends vs) i v).delta ≡ (get_or vs i v).delta
