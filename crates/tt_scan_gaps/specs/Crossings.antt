-- OpenType, "TrueType Fundamentals", the scan converter: where edges cross the centre lines of rows, and between which
-- pixels. Columns are the rows of an outline with x and y exchanged. In 1/8192 pixel, except the numbers of lines and
-- gaps. A crossing is rounded down to a whole number (profile).
use Rattle.std.specs.Prelude.{◌≡◌, refl, ℕ, ◌+◌, Bool, not, if◌then◌else◌, ◌==◌, ◌&&◌, ◌||◌, ℤ, pos, ◌+ℤ◌, ◌-ℤ◌, ◌*ℤ◌, int_lt, unsigned_abs, List, [], ◌∷◌, map}
use Rattle.std.specs.List.{range_with_len}
use Rattle.std.specs.Int.{int_div_euclid, int_rem_euclid}
use Rattle.std.specs.Ordering.{int_eq}
use Rattle.tt_scan_edges.specs.declared.edge.Edge.{Edge}
use Rattle.tt_scan_gaps.specs.declared.mark.Crossing.{Crossing}

-- the height of line j, and the place of centre c of a row
abbrev pub centre : ℤ → ℤ
centre j = pos 8192 *ℤ j +ℤ pos 4096

-- the first line that is not below a height
abbrev pub line_from : ℤ → ℤ
line_from y = int_div_euclid (y +ℤ pos 4095) (pos 8192)

-- the edge from its lower end to its upper
abbrev pub upward : Edge → Edge
upward e = if int_lt e.by e.ay then record { ax = e.bx; ay = e.by; bx = e.ax; by = e.ay } else e

-- both rise, or neither
abbrev pub agree : Bool → Bool → Bool
agree up other = if up then other else not other

abbrev pub is_rising : Edge → Bool
is_rising e = int_lt e.ay e.by

-- the number of lines that an edge crosses, from its lower end up to its upper: the lower end counts, the upper does
-- not
abbrev pub lines_crossed : Edge → ℕ
lines_crossed e = unsigned_abs (line_from e.by -ℤ line_from e.ay)

-- the lines in the order of their crossing
abbrev pub line_crossed : Edge → ℕ → ℤ
line_crossed e k = if is_rising e then line_from e.ay +ℤ pos k else line_from e.ay -ℤ pos (k + 1)

-- the place of an edge at a height, rounded down to a whole number
abbrev pub edge_x : Edge → ℤ → ℤ
edge_x e y = let u = upward e in u.ax +ℤ int_div_euclid ((u.bx -ℤ u.ax) *ℤ (y -ℤ u.ay)) (u.by -ℤ u.ay)

-- the gap from centre c up to the next, and the distance from that centre
abbrev pub gap_at : ℤ → ℤ
gap_at x = int_div_euclid (x -ℤ pos 4096) (pos 8192)

abbrev pub place_at : ℤ → ℕ
place_at x = unsigned_abs (int_rem_euclid (x -ℤ pos 4096) (pos 8192))

-- the crossing of a line at a place
abbrev pub crossing_at : Bool → ℤ → ℤ → Crossing
crossing_at up j x = record { line = j; gap = gap_at x; place = place_at x; up = up }

abbrev pub crossing : Edge → ℤ → Crossing
crossing e j = crossing_at (is_rising e) j (edge_x e (centre j))

-- the crossings of an edge, from its start to its end
abbrev pub crossings : Edge → List Crossing
crossings e = map (λ k. crossing e (line_crossed e k)) (range_with_len 0 (lines_crossed e))

-- the upper end of an edge that is not level, where it lies on a line: the edge touches the line and does not cross it
abbrev pub touches : Edge → List Crossing
touches e =
    let u = upward e in
    if int_lt u.ay u.by && (unsigned_abs (int_rem_euclid (u.by -ℤ pos 4096) (pos 8192)) == 0)
    then crossing_at (is_rising e) (gap_at u.by) u.bx ∷ [] else []

-- a height is that of a line
abbrev pub is_on_line : ℤ → Bool
is_on_line y = int_eq (int_rem_euclid (y -ℤ pos 4096) (pos 8192)) (pos 0)

-- an end of an edge lies on a line, of rows or of columns
abbrev pub has_end_on_line : Edge → Bool
has_end_on_line e = (is_on_line e.ax || is_on_line e.ay) || (is_on_line e.bx || is_on_line e.by)

-- an edge from one height to another crosses a line or, where that counts, has an end on one
abbrev pub meets_line : Bool → ℤ → ℤ → Bool
meets_line ends_count a b =
    not (int_eq (line_from a) (line_from b)) || (ends_count && (is_on_line a || is_on_line b))

-- worked values: an edge that rises from (1, 0) to (2, 3) pixels crosses three lines
rising : Edge
rising = record { ax = pos 8192; ay = pos 0; bx = pos 16384; by = pos 24576 }

it_crosses_three_lines : map (λ (c : Crossing). c.line) (crossings rising) ≡ pos 0 ∷ pos 1 ∷ pos 2 ∷ []
unfolding rising
it_crosses_three_lines = refl

at_its_places : map (λ (c : Crossing). c.place) (crossings rising) ≡ 5461 ∷ 0 ∷ 2730 ∷ []
unfolding rising
at_its_places = refl
