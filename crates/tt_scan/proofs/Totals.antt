-- The crossings of all rows of a picture: the rows of each edge, added up.
use Rattle.std.proofs.Common.{◌≡◌, ◌∙◌, sym, refl, ℕ, zero, suc, ◌+◌, ◌-◌, ◌*◌, zero-add, ◌<◌, ◌≤◌, min, max, Bool, true, false, ◌&&◌, List, [], ◌∷◌, length, get_or, sum_by, All, ℤ, pos, ◌-ℤ◌, ◌≤ℤ◌, int_lt, int_le, unsigned_abs, if◌then◌else◌, arith}
use Rattle.std.specs.List.{range_with_len}
use Rattle.std.proofs.Math.Nat.{mul-le-mul_right}
use Rattle.std.proofs.Math.Seq.{take-length}
use Rattle.std.proofs.lemmas.Int.{ints}
use Rattle.std.proofs.lemmas.List.FromFn.{length-range_with_len, get_or-range_with_len}
use Rattle.std.proofs.lemmas.List.Sums.{sum_by-cons, sum_by-le}
use Rattle.tt_core.specs.Limits.{height_limit}
use Rattle.tt_scan_edges.specs.declared.edge.Edge.{Edge}
use Rattle.tt_scan_edges.specs.declared.edge.Frame.{Frame}
use Rattle.tt_scan_edges.specs.declared.entry.Entry.{Entry}
use Rattle.tt_scan_edges.specs.Crossing.{AreRows}
use Rattle.tt_scan_edges.specs.Entries.{edge_of}
use Rattle.tt_scan.specs.EdgeTable.{IsTableOf, IsUnmet, rows_in}
use Rattle.tt_scan_edges.specs.Winding.{FrameFits, row_y, is_between, rows_met, crossings_of}
use Rattle.tt_scan_edges.proofs.Edges.{rows_few}
use Rattle.tt_scan.proofs.Standing.{same_sums}

-- whether a row meets an edge, as a count

meets : Frame → Edge → ℕ → ℕ
meets f e row = if is_between e.ay e.by (row_y f (pos row)) then 1 else 0

-- row by row, or edge by edge

both : (g h : ℕ → ℕ) (rows : List ℕ) → sum_by (λ r. g r + h r) rows ≡ sum_by g rows + sum_by h rows
both g h [] = refl
both g h (r ∷ rows) =
    let all = sum_by-cons (λ (q : ℕ). g q + h q) r rows in
    let one = sum_by-cons g r rows in
    let two = sum_by-cons h r rows in
    let rest = both g h rows in
    omega arith

none : (g : ℕ → ℕ) (rows : List ℕ) → All (λ r. g r ≡ 0) rows → sum_by g rows ≡ 0
none g rows zeros =
    let most = sum_by-le g 0 rows (λ k d below. let zero = zeros k d below in omega arith) in
    omega arith

exchanged : (f : Frame) (es : List Edge) (rows : List ℕ) → sum_by (λ row. rows_met es (row_y f (pos row))) rows ≡ sum_by (λ e. sum_by (meets f e) rows) es
unfolding meets
exchanged f [] rows = none (λ _. 0) rows (λ k d below. refl)
exchanged f (e ∷ es) rows =
    both (meets f e) (λ row. rows_met es (row_y f (pos row))) rows
    ∙ rw (exchanged f es rows) (sym (sum_by-cons (λ (d : Edge). sum_by (meets f d) rows) e es))

-- the rows from i on, between the first of an edge and one past its last

one_more : (b : Bool) (first past : ℤ) (i n rest : ℕ) → b ≡ (int_le first (pos i) && int_lt (pos i) past) → pos 0 ≤ℤ first → first ≤ℤ past
    → rest ≡ min (unsigned_abs past) (i + 1 + n) - max (unsigned_abs first) (i + 1)
    → (if b then 1 else 0) + rest ≡ min (unsigned_abs past) (i + suc n) - max (unsigned_abs first) i
one_more true first past i n rest is low order so_far = grind (arith, ints)
one_more false first past i n rest is low order so_far = grind (arith, ints)

rows_from : (e : Edge) (f : Frame) (q : ℤ × ℤ) (i n : ℕ) → AreRows e f q → i + n ≤ f.height
    → sum_by (meets f e) (range_with_len i n) ≡ min (unsigned_abs q.1) (i + n) - max (unsigned_abs q.0) i
unfolding meets
rows_from e f q i zero are within = omega arith
rows_from e f q i (suc n) are within =
    let rest = rows_from e f q (i + 1) n are (omega arith) in
    sum_by-cons (meets f e) i (range_with_len (i + 1) n)
    ∙ one_more (is_between e.ay e.by (row_y f (pos i))) q.0 q.1 i n _ (are.met (pos i) (omega (arith, ints)) (omega (arith, ints))) are.low are.order rest

rows_of_edge : (e : Edge) (f : Frame) (q : ℤ × ℤ) → AreRows e f q → sum_by (meets f e) (range_with_len 0 f.height) ≡ unsigned_abs (q.1 -ℤ q.0)
rows_of_edge e f q are =
    let all = rows_from e f q 0 f.height are (omega arith) in
    let low = are.low in
    let order = are.order in
    let high = are.high in
    omega (arith, ints)

no_rows : (f : Frame) (e : Edge) → IsUnmet f e → sum_by (meets f e) (range_with_len 0 f.height) ≡ 0
unfolding meets
no_rows f e off = none (meets f e) (range_with_len 0 f.height) (λ k d below.
    let within : k < f.height = rw (length-range_with_len 0 f.height) at below in
    let at : get_or (range_with_len 0 f.height) k d ≡ k = get_or-range_with_len 0 f.height k d within ∙ zero-add k in
    rw (at, off (pos k) (omega (arith, ints)) (omega (arith, ints))) refl)

-- the entries of an edge table have as many rows as all rows need crossings

pub all_rows : (es : List Edge) (f : Frame) (ms : List Entry) → IsTableOf es f ms → sum_by rows_in ms ≡ crossings_of f es
all_rows es f ms are =
    same_sums rows_in (λ (m : Entry). sum_by (meets f (edge_of es m)) (range_with_len 0 f.height)) ms
    (λ k d below. sym (rows_of_edge (edge_of es (get_or ms k d)) f ((get_or ms k d).first, (get_or ms k d).past) (are.rows k d below)))
    ∙ are.sums (λ (e : Edge). sum_by (meets f e) (range_with_len 0 f.height)) (λ e off. no_rows f e off)
    ∙ sym (exchanged f es (range_with_len 0 f.height))

-- each row needs at most one crossing of each edge
pub few_crossings : (es : List Edge) (f : Frame) → FrameFits f → crossings_of f es ≤ (height_limit + 4) * length es
few_crossings es f fits =
    let most = sum_by-le (λ (row : ℕ). rows_met es (row_y f (pos row))) (length es) (range_with_len 0 f.height)
    (λ k d below. rw (take-length es) at (rows_few es (length es) (row_y f (pos (get_or (range_with_len 0 f.height) k d))))) in
    let rows = length-range_with_len 0 f.height in
    let high = fits.height_high in
    let product : f.height * length es ≤ (height_limit + 4) * length es = mul-le-mul_right (length es) high in
    let each : crossings_of f es ≤ f.height * length es = rw rows at most in
    omega arith
