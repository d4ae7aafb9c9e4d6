-- The columns and the lines of the box of edges within the limits: they are in order, and near.
use Rattle.std.proofs.Common.{◌≡◌, refl, ◌+◌, ◌^◌, ◌<◌, Bool, true, false, if◌then◌else◌, List, [], ◌∷◌, map, ℤ, pos, ◌+ℤ◌, ◌-ℤ◌, ◌*ℤ◌, ◌≤ℤ◌, int_le, All, arith}
use Rattle.std.specs.Int.{int_div_euclid, int_max, int_min}
use Rattle.std.specs.Prelude.{unsigned_abs}
use Rattle.std.proofs.lemmas.Int.{clamps, ints}
use Rattle.std.proofs.lemmas.List.Elements.{All-head, All-map, All-tail, All-weaker}
use Rattle.tt_scan_edges.specs.Winding.{EdgeFits}
use Rattle.tt_scan_edges.specs.declared.edge.Edge.{Edge}
use Rattle.tt_scan_gaps.specs.Crossings.{gap_at, line_from}
use Rattle.tt_scan_gaps.specs.Boxes.{ExtentsFit, columns_between, columns_of, columns_reached, greatest_x, least_x, reached, rows_reached}
use Rattle.tt_scan_gaps.specs.Seen.{turned_round}
use Rattle.tt_scan_gaps.specs.declared.extent.Extents.{Extents}
use Rattle.tt_scan_gaps.specs.declared.mark.Columns.{Columns}
use Rattle.tt_scan_gaps.proofs.Lines.{floor_high, floor_low}
use Rattle.tt_scan_ink.specs.Least.{AreNear}
use Rattle.tt_scan_gaps.proofs.Boxes as gaps

-- the extents of the ends of edges

least_near : (x : ℤ) (es : List Edge) → unsigned_abs x < 2 ^ 30 → All EdgeFits es → unsigned_abs (least_x x es) < 2 ^ 30
least_near x [] here fits = here
least_near x (e ∷ es) here fits =
    let one = All-head EdgeFits e es fits in
    let a = one.ax in
    let b = one.bx in
    least_near (int_min x (int_min e.ax e.bx)) es (omega (arith, ints, clamps, here, a, b))
    (All-tail EdgeFits e es fits)

greatest_near : (x : ℤ) (es : List Edge) → unsigned_abs x < 2 ^ 30 → All EdgeFits es
    → unsigned_abs (greatest_x x es) < 2 ^ 30
greatest_near x [] here fits = here
greatest_near x (e ∷ es) here fits =
    let one = All-head EdgeFits e es fits in
    let a = one.ax in
    let b = one.bx in
    greatest_near (int_max x (int_max e.ax e.bx)) es (omega (arith, ints, clamps, here, a, b))
    (All-tail EdgeFits e es fits)

-- the columns between two places

abbrev pub InOrder : Columns → Type 0
InOrder b = b.first ≤ℤ b.last

floor_near : (n : ℤ) → unsigned_abs n < 2 ^ 30 + 8192 → unsigned_abs (int_div_euclid n (pos 8192)) < 2 ^ 18
floor_near n near = omega (arith, ints, near, floor_low n, floor_high n)

chosen_order : (first last : ℤ) (some right : Bool) → (some ≡ true → first ≤ℤ last)
    → InOrder (if some then record { first = first; last = last }
    else (if right then record { first = first; last = first } else record { first = last; last = last }))
chosen_order first last true right order = order refl
chosen_order first last false true order = omega (arith, ints)
chosen_order first last false false order = omega (arith, ints)

chosen_near : (first last : ℤ) (some right : Bool) → unsigned_abs first < 2 ^ 18 → unsigned_abs last < 2 ^ 18
    → (some ≡ true → first ≤ℤ last)
    → AreNear (if some then record { first = first; last = last }
    else (if right then record { first = first; last = first } else record { first = last; last = last }))
chosen_near first last true right low high order = record { first = low; last = high; order = order refl }
chosen_near first last false true low high order = record { first = low; last = low; order = omega (arith, ints) }
chosen_near first last false false low high order = record { first = high; last = high; order = omega (arith, ints) }

in_order : (a b : ℤ) → int_le a b ≡ true → a ≤ℤ b
in_order a b is = grind (arith, ints)

pub between_near : (low high : ℤ) → unsigned_abs low < 2 ^ 30 → unsigned_abs high < 2 ^ 30
    → AreNear (columns_between low high)
between_near low high is also =
    let first = line_from low in
    let last = gap_at high in
    chosen_near first last (int_le first last) (int_le (pos 16384 *ℤ first) (low +ℤ high))
    (floor_near (low +ℤ pos 4095) (omega (arith, ints, is))) (floor_near (high -ℤ pos 4096) (omega (arith, ints, also)))
    (in_order first last)

pub between_order : (low high : ℤ) → InOrder (columns_between low high)
between_order low high =
    chosen_order (line_from low) (gap_at high) (int_le (line_from low) (gap_at high))
    (int_le (pos 16384 *ℤ line_from low) (low +ℤ high)) (in_order (line_from low) (gap_at high))

pub columns_order : (es : List Edge) → InOrder (columns_of es)
columns_order [] = omega (arith, ints)
columns_order (e ∷ es) = between_order (least_x e.ax (e ∷ es)) (greatest_x e.ax (e ∷ es))

pub columns_near : (es : List Edge) → All EdgeFits es → AreNear (columns_of es)
columns_near [] fits = record { first = omega (arith, ints); last = omega (arith, ints); order = omega (arith, ints) }
columns_near (e ∷ es) fits =
    let one = All-head EdgeFits e es fits in
    between_near (least_x e.ax (e ∷ es)) (greatest_x e.ax (e ∷ es)) (least_near e.ax (e ∷ es) one.ax fits)
    (greatest_near e.ax (e ∷ es) one.ax fits)

turned_fits : (e : Edge) → EdgeFits e → EdgeFits (turned_round e)
turned_fits e fits = record { ax = fits.ay; ay = fits.ax; bx = fits.by; by = fits.bx }

pub lines_near : (es : List Edge) → All EdgeFits es → AreNear (columns_of (map turned_round es))
lines_near es fits =
    columns_near (map turned_round es)
    (All-map EdgeFits turned_round es (All-weaker EdgeFits (λ e. EdgeFits (turned_round e)) turned_fits es fits))

-- the columns and the rows that black pixels may lie in
pub one_more_order : (dots : Bool) (b : Columns) → InOrder b → InOrder (reached dots b)
one_more_order true b order = omega (arith, ints, order)
one_more_order false b order = order

one_more_near : (dots : Bool) (low high : ℤ) → unsigned_abs low < 2 ^ 30 → unsigned_abs high < 2 ^ 30
    → AreNear (reached dots (columns_between low high))
one_more_near dots low high is also =
    let near = gaps.between_near dots low high is also in
    record { first = near.first; last = near.last; order = one_more_order dots (columns_between low high) (between_order low high) }

pub reached_near : (dots : Bool) (b : Extents) → ExtentsFit b → AreNear (columns_reached dots b) × AreNear (rows_reached dots b)
reached_near dots b fits =
    (one_more_near dots b.across.low b.across.high fits.across.low fits.across.high, one_more_near dots b.up.low b.up.high fits.up.low fits.up.high)
