-- No part of the standard: the marks of a row's edges, and the black columns between them.
use Rattle.std.specs.Prelude.{◌≡◌, refl, ℕ, Bool, true, false, ◌&&◌, ◌||◌, not, int_le, int_lt, if◌then◌else◌, ℤ, pos, negsuc, ◌+ℤ◌, ◌-ℤ◌, ◌≤ℤ◌, List, [], ◌∷◌}
use Rattle.tt_scan_edges.specs.Winding.{is_zero}
use Rattle.tt_scan_edges.specs.declared.mark.TurnMark.{TurnMark}
use Rattle.tt_scan_edges.specs.declared.mark.Span.{Span}

-- the black columns of a row, and the number of edges for whose marks a sweep has memory
pub record Swept : Type 0 where
  pub spans : List Span
  pub room : ℕ

-- a column lies in some span of a list
abbrev pub covers : List Span → ℤ → Bool
covers [] c = false
covers (s ∷ ss) c = (int_le s.first c && int_le c s.last) || covers ss c

-- spans cover column k from one of some pens
abbrev pub covers_from : List Span → List ℕ → ℕ → Bool
covers_from ss [] k = false
covers_from ss (pen ∷ pens) k = covers ss (pos k -ℤ pos pen) || covers_from ss pens k

-- the turn of the edge that made a mark
abbrev pub turn_of : TurnMark → ℤ
turn_of m = if int_le (pos 0) m.sign then pos 1 else negsuc 0

-- the sum of the turns of the marks at a column or left of it
abbrev pub turns : List TurnMark → ℤ → ℤ
turns [] c = pos 0
turns (m ∷ ms) c = (if int_le m.first c then turn_of m else pos 0) +ℤ turns ms c

-- marks in order of their columns: from a column on, and from the first mark on
abbrev pub IsRisingFrom : ℤ → List TurnMark → Type 0
IsRisingFrom from [] = Unit {0}
IsRisingFrom from (m ∷ ms) = (from ≤ℤ m.first) × IsRisingFrom m.first ms

abbrev pub IsRising : List TurnMark → Type 0
IsRising [] = Unit {0}
IsRising (m ∷ ms) = IsRisingFrom m.first ms

-- a column is black, by the marks that remain from a column on and the sum of the turns before them; each mark ends a
-- stretch, which is black where the sum isn't 0
abbrev pub stretches : ℤ → ℤ → List TurnMark → ℤ → Bool
stretches from sum [] c = int_le from c && not (is_zero sum)
stretches from sum (m ∷ ms) c =
    (int_le from c && int_lt c m.first && not (is_zero sum)) || stretches m.first (sum +ℤ turn_of m) ms c

-- worked values: an edge rises left of column -1 and one falls left of column 3
two_marks : List TurnMark
two_marks = record { first = negsuc 0; sign = pos 1 } ∷ record { first = pos 3; sign = negsuc 0 } ∷ []

between_them_is_black : stretches (pos 0) (pos 0) two_marks (negsuc 0) ≡ true
unfolding two_marks
between_them_is_black = refl

right_of_both_is_white : stretches (pos 0) (pos 0) two_marks (pos 3) ≡ false
unfolding two_marks
right_of_both_is_white = refl

they_cancel_out : turns two_marks (pos 3) ≡ pos 0
unfolding two_marks
they_cancel_out = refl

a_span_holds_its_last_column : covers (record { first = negsuc 1; last = pos 2 } ∷ []) (pos 2) ≡ true
a_span_holds_its_last_column = refl

and_not_the_next : covers (record { first = negsuc 1; last = pos 2 } ∷ []) (pos 3) ≡ false
and_not_the_next = refl

from_the_second_pen : covers_from (record { first = negsuc 1; last = pos 2 } ∷ []) (9 ∷ 3 ∷ []) 5 ≡ true
from_the_second_pen = refl

from_neither_pen : covers_from (record { first = negsuc 1; last = pos 2 } ∷ []) (9 ∷ 3 ∷ []) 6 ≡ false
from_neither_pen = refl
