-- No part of the standard: where gaps are crossed rising and falling, in a table with a place for each of 128 lines
-- times 128 gaps, eight places a byte.
use Rattle.std.specs.Prelude.{◌≡◌, ℕ, ◌+◌, ◌*◌, ◌/◌, ◌%◌, ◌==◌, Bool, true, false, ◌&&◌, ℤ, pos, negsuc, int_le, int_lt, if◌then◌else◌, slice_index, unsigned_abs, List}
use Rattle.std.specs.Int.{bit_at, int_rem_euclid}
use Rattle.std.specs.List.{list_any}
use Rattle.std.specs.Ordering.{int_eq}
use Rattle.tt_scan_edges.specs.declared.edge.Edge.{Edge}
use Rattle.tt_scan_edges.specs.Winding.{is_black}
use Rattle.tt_scan_gaps.specs.Crossings.{agree, centre, crossings}
use Rattle.tt_scan_gaps.specs.Gaps.{is_free}
use Rattle.tt_scan_gaps.specs.declared.mark.Crossing.{Crossing}
use Rattle.tt_scan_gaps.specs.declared.seen.Over.{Over}
use Rattle.tt_scan_gaps.specs.declared.seen.Over.TheVariants as over

-- the looks that a glyph begins with (profile)
abbrev pub look_limit : ℕ
look_limit = 16

-- pixel p of line q is black by rules 1 and 2, as a pass over all edges sees it
abbrev pub is_black_seen : Over → List Edge → ℤ → ℤ → Bool
is_black_seen over.Rows all p q = is_black all (centre p) (centre q)
is_black_seen over.Columns all p q = is_black all (centre q) (centre p)

-- a crossing that goes through gap c of line j, rising or falling
abbrev pub is_through : Bool → ℤ → ℤ → Crossing → Bool
is_through up j c q = int_eq q.line j && int_eq q.gap c && agree q.up up

-- an edge has a crossing through gap c of line j, rising or falling
abbrev pub goes_through : Bool → ℤ → ℤ → Edge → Bool
goes_through up j c e = list_any (is_through up j c) (crossings e)

-- some edge has a crossing through gap c of line j, rising or falling
abbrev pub crosses_gap : Bool → List Edge → ℤ → ℤ → Bool
crosses_gap up es j c = list_any (goes_through up j c) es

-- no gap that is crossed both ways is free
abbrev pub NoneFreeBothWays : (ℤ → ℤ → Bool) → List Edge → Type 0
NoneFreeBothWays black es = (j c : ℤ) → (crosses_gap true es j c && crosses_gap false es j c) ≡ true
    → is_free black c j ≡ false

-- the place of a gap of a line in the table
abbrev pub slot : ℤ → ℤ → ℕ
slot j c = 128 * unsigned_abs (int_rem_euclid j (pos 128)) + unsigned_abs (int_rem_euclid c (pos 128))

-- a table has a mark at a place
unfoldable pub has_mark : List ℕ → ℕ → Bool
has_mark table s = bit_at (slice_index table (s / 8)) (s % 8) == 1

-- a table has the gaps that edges cross one way
abbrev pub AreMarked : Bool → List Edge → List ℕ → Type 0
AreMarked up es table = (j c : ℤ) → crosses_gap up es j c ≡ true → has_mark table (slot j c) ≡ true

-- two tables have the gaps that edges cross rising and falling, and no gap that is crossed both ways is free
pub record AreTold (black : ℤ → ℤ → Bool) (es : List Edge) (rising falling : List ℕ) : Type 0 where
  pub up : AreMarked true es rising
  pub down : AreMarked false es falling
  pub none : NoneFreeBothWays black es

-- what an edge adds to a winding, by two products whose difference is the point's side
abbrev pub turn_by : ℤ → ℤ → ℤ → ℤ → ℤ → ℤ
turn_by from to y p q =
    if int_le from y && int_lt y to && int_lt p q then pos 1
    else (if int_le to y && int_lt y from && int_lt q p then negsuc 0 else pos 0)
