-- Lemmas about the definitions: joined edges blacken and meet what the edges do.
use Rattle.std.specs.Prelude.{◌≡◌, ◌≤◌, true, false, ℤ, List, length}
use Rattle.tt_scan_edges.specs.declared.edge.Edge.{Edge}
use Rattle.tt_scan_edges.specs.declared.edge.Frame.{Frame}
use Rattle.tt_scan_edges.specs.Joined.{joined, line_at, meets_none}
use Rattle.tt_scan_edges.specs.Winding.{crossings_of, is_between, is_black, rows_met}

-- where two places meet no line, none lies between them, both included
abbrev pub NoLineBetween : Type 0
NoLineBetween = (a b k : ℤ) → meets_none a b ≡ true → is_between a b (line_at k) ≡ false

-- a place at the height of a line is black by joined edges if and only if it is by the edges
abbrev pub JoinedBlackenAlike : Type 0
JoinedBlackenAlike = (es : List Edge) (x k : ℤ) → is_black (joined es) x (line_at k) ≡ is_black es x (line_at k)

-- as many joined edges meet a line as edges do
abbrev pub JoinedMeetAlike : Type 0
JoinedMeetAlike = (es : List Edge) (k : ℤ) → rows_met (joined es) (line_at k) ≡ rows_met es (line_at k)

-- so a picture needs as many crossings
abbrev pub JoinedCrossAlike : Type 0
JoinedCrossAlike = (f : Frame) (es : List Edge) → crossings_of f (joined es) ≡ crossings_of f es

-- there are no more of them than edges
abbrev pub JoinedAreFewer : Type 0
JoinedAreFewer = (es : List Edge) → length (joined es) ≤ length es
