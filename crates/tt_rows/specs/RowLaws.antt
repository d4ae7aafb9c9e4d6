-- Laws of the rows of a line: each unit stands in one row, rows are as long as they may be, and words are broken only
-- where they have to be.
use Rattle.std.specs.Prelude.{◌≡◌, ℕ, ◌+◌, ◌<◌, ◌≤◌, true, false, ◌⊎◌, ⊤, List, [], ◌∷◌, ◌++◌, length, take}
use Rattle.std.specs.List.{flat_map}
use Rattle.tt_rows.specs.declared.row.LineRow.{LineRow}
use Rattle.tt_rows.specs.declared.unit.RowUnit.{RowUnit}
use Rattle.tt_rows.specs.Breaks.{breaks_before}
use Rattle.tt_rows.specs.Classes.{is_blank}
use Rattle.tt_rows.specs.Rows.{fitting, row_between, rows}
use Rattle.tt_rows.specs.Widths.{part, row_width}

-- each row of some has a property
abbrev pub EachRow : (LineRow → Type 0) → List LineRow → Type 0
EachRow P [] = ⊤
EachRow P (r ∷ rs) = P r × EachRow P rs

-- all units of a row, with the blanks at its end
abbrev pub units_of : List RowUnit → LineRow → List RowUnit
units_of line r = part line r.from r.next

-- each unit of a line stands in exactly one row, in the line's order
abbrev pub RowsHaveEachUnit : Type 0
RowsHaveEachUnit = (line : List RowUnit) (room : ℕ) → flat_map (units_of line) (rows line room) ≡ line

-- some units are all blanks
abbrev pub AreBlanks : List RowUnit → Type 0
AreBlanks [] = ⊤
AreBlanks (u ∷ us) = (is_blank u.character ≡ true) × AreBlanks us

-- the units of a row that are drawn, and after them blanks alone
abbrev pub DropsBlanks : List RowUnit → LineRow → Type 0
DropsBlanks line r = (blanks : List RowUnit) × (units_of line r ≡ part line r.from r.until ++ blanks) × AreBlanks blanks

abbrev pub RowsDropBlanks : Type 0
RowsDropBlanks = (line : List RowUnit) (room : ℕ) → EachRow (DropsBlanks line) (rows line room)

-- a row may end before a unit, or the line ends there
abbrev pub MayEnd : List RowUnit → ℕ → Type 0
MayEnd line j = (breaks_before line j ≡ true) ⊎ (j ≡ length line)

-- a row that breaks no word ends where it may, and is no wider than the room
abbrev pub FitsWhole : List RowUnit → ℕ → LineRow → Type 0
FitsWhole line room r = r.broken ≡ false → MayEnd line r.next × (row_width (units_of line r) ≤ room)

-- a row from unit `from` up to before unit j is wider than the room, or a beginning of it is. Only kerning that is wider
-- than the next unit makes a row narrower than its beginning
abbrev pub Overflows : List RowUnit → ℕ → ℕ → ℕ → Type 0
Overflows line room from j = (k : ℕ) × (from < k) × (k ≤ j) × (room < row_width (part line from k))

-- every longer row that ends where it may overflows the room
abbrev pub IsLongest : List RowUnit → ℕ → LineRow → Type 0
IsLongest line room r = (j : ℕ) → r.next < j → j ≤ length line → MayEnd line j → Overflows line room r.from j

-- from the first unit of a row that breaks a word on, every row that ends where it may overflows the room. The row has one
-- unit, or is no wider than the room, and is wider with the first unit of the next row
abbrev pub BreaksOfNeed : List RowUnit → ℕ → LineRow → Type 0
BreaksOfNeed line room r = r.broken ≡ true
    → ((j : ℕ) → r.from < j → j ≤ length line → MayEnd line j → Overflows line room r.from j)
    × ((r.next ≡ r.from + 1) ⊎ (row_width (units_of line r) ≤ room))
    × (r.next < length line → Overflows line room r.from (r.next + 1))

abbrev pub RowsFit : Type 0
RowsFit = (line : List RowUnit) (room : ℕ) → EachRow (FitsWhole line room) (rows line room)

abbrev pub RowsAreGreedy : Type 0
RowsAreGreedy = (line : List RowUnit) (room : ℕ) → EachRow (IsLongest line room) (rows line room)

abbrev pub WordsBreakOfNeed : Type 0
WordsBreakOfNeed = (line : List RowUnit) (room : ℕ) → EachRow (BreaksOfNeed line room) (rows line room)

-- a line that fits, and each of whose beginnings fits, is one row
abbrev pub LinesThatFitStay : Type 0
LinesThatFitStay = (line : List RowUnit) (room : ℕ) → ((k : ℕ) → k ≤ length line → row_width (take k line) ≤ room)
    → rows line room ≡ row_between line 0 (length line) false ∷ []

-- kerning draws no unit of some nearer
abbrev pub AreNotPulled : List RowUnit → Type 0
AreNotPulled [] = ⊤
AreNotPulled (u ∷ us) = (u.step ≤ u.kerned) × AreNotPulled us

-- the units that fit one after the other are the greatest number whose row is no wider than the room, where kerning draws
-- none nearer
abbrev pub FittingIsGreatest : Type 0
FittingIsGreatest = (room : ℕ) (units : List RowUnit) (k : ℕ) → AreNotPulled units → k ≤ length units
    → (row_width (take k units) ≤ room → k ≤ fitting room units) × (k ≤ fitting room units → row_width (take k units) ≤ room)
