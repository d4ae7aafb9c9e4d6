-- The lines of a label, each enlarged by the same ink; and the ink of all lines.
use Rattle.std.proofs.Common.{◌≡◌, refl, ap, ℕ, ℤ, List, [], ◌∷◌, ◌++◌, append_assoc, append-nil, map, Option, None, Result, Ok, Err}
use Rattle.tt_core.specs.Outcomes.{◌>>=◌, each, after_each}
use Rattle.tt_label.specs.Label.{line_box}
use Rattle.tt_line.specs.Layout.{Placement}
use Rattle.tt_metrics.specs.Metrics.{Metrics}
use Rattle.tt_picture.specs.declared.ink_box.InkBox.{InkBox}
use Rattle.tt_picture.specs.Ink.{all_joined, ink_at}
use Rattle.tt_scan_edges.specs.declared.edge.Frame.{Frame}
use Rattle.tt_bitmap.specs.declared.ink.LeastBox.{LeastBox}
use Rattle.tt_strike.specs.declared.measuring.CharacterMeasure.{CharacterMeasure}
use Rattle.tt_strike.specs.Measures.{characters_at, measure_by}
use Rattle.tt_strike.specs.Picture.{frame_of}

behind : {B E : Type 0} (r : Result (List B) E) (before : List B) (y : B) → (r >>= λ ys. Ok ((before ++ y ∷ []) ++ ys))
    ≡ ((r >>= λ ys. Ok (y ∷ ys)) >>= λ ys. Ok (before ++ ys))
behind (Ok ys) before y = ap Ok (append_assoc before (y ∷ []) ys)
behind (Err e) before y = refl

-- the result of the next element comes after the others
pub next_made : {A B E : Type 0} (f : A → Result B E) (x : A) (xs : List A) (before : List B) (y : B) → f x ≡ Ok y
    → after_each f xs (before ++ y ∷ []) ≡ after_each f (x ∷ xs) before
next_made f x xs before y is = rw is (behind (each f xs) before y)

pub next_refused : {A B E : Type 0} (f : A → Result B E) (x : A) (xs : List A) (before : List B) (e : E) → f x ≡ Err e
    → after_each f (x ∷ xs) before ≡ Err e
next_refused f x xs before e is = rw is refl

pub all_made : {A B E : Type 0} (f : A → Result B E) (before : List B) (all : Result (List B) E) → after_each f [] before ≡ all
    → all ≡ Ok before
all_made f before all is = rw (← is, append-nil before) refl

-- the ink of a measure is the box of the line
boxes : (m : Metrics) (step : ℕ → ℤ → ℕ) (f : Frame) (ink : ℕ → Option LeastBox) (gs : List (ℕ × ℕ))
    → map (λ (c : CharacterMeasure). c.ink) (characters_at m step f ink gs) ≡ map (λ (g : ℕ × ℕ). ink_at f g.1 (ink g.0)) gs
boxes m step f ink [] = refl
boxes m step f ink (g ∷ gs) = ap (λ (bs : List (Option InkBox)). ink_at f g.1 (ink g.0) ∷ bs) (boxes m step f ink gs)

pub measured_box : (m : Metrics) (step : ℕ → ℤ → ℕ) (margin : ℕ) (ink : ℕ → Option LeastBox) (line : Placement)
    → (measure_by m step margin ink line).ink ≡ line_box ink margin line
measured_box m step margin ink line = ap (all_joined None) (boxes m step (frame_of line margin) ink line.glyphs)
