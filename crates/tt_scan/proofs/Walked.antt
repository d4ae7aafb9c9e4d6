-- Edges walked from row to row, those that begin in a row, and the marks and spans that they add there.
use Rattle.std.proofs.Common.{◌≡◌, ◌≢◌, ◌∙◌, ap, sym, refl, length-append, ℕ, zero, suc, ◌+◌, ◌<◌, ◌≤◌, Bool, true, false, ◌&&◌, List, [], ◌∷◌, ◌++◌, length, map, take, drop, get_or, filter, sum_by, All, inl, inr, ℤ, pos, ◌+ℤ◌, ◌-ℤ◌, ◌≤ℤ◌, ◌<ℤ◌, int_lt, int_le, if◌then◌else◌, arith}
use Rattle.std.specs.Prelude.{set}
use Rattle.std.proofs.lemmas.Int.{ints}
use Rattle.std.proofs.lemmas.Bool.{cases_eq}
use Rattle.std.proofs.lemmas.List.{drop_more, append-nil, map-append, take_more, take-append-drop, get_or-drop, length-drop, length-map, get_or-set_same, get_or-set_other}
use Rattle.std.proofs.lemmas.List.Elements.{All-push, All-cons, filter-append}
use Rattle.std.proofs.lemmas.List.Sums.{sum_by-cons, sum_by_push, sum_by-take-le}
use Rattle.tt_scan_edges.specs.declared.edge.Edge.{Edge}
use Rattle.tt_scan_edges.specs.declared.edge.Frame.{Frame}
use Rattle.tt_scan_edges.specs.declared.entry.Entry.{Entry}
use Rattle.tt_scan_edges.specs.declared.walk.Walk.{Walk}
use Rattle.tt_scan_edges.specs.Crossing.{AreRows}
use Rattle.tt_scan_edges.specs.Entries.{edge_of}
use Rattle.tt_scan_order.specs.Orders.{IsInOrder}
use Rattle.tt_scan.specs.EdgeTable.{AreWalked, IsWalkAt, edges_of, if_on, is_long, meets_row}
use Rattle.tt_scan_edges.specs.Left.{Left, HasLeft, IsLeftBy}
use Rattle.tt_scan_edges.specs.Walks.{GoesBelow, IsWalk}
use Rattle.tt_scan_edges.specs.Winding.{column_x, row_y, is_between}
use Rattle.tt_scan_edges.proofs.Crosses.{level_here}
use Rattle.tt_scan.proofs.Standing.{on_push, winding_push}

-- no edge meets the row where all begin below it

pub none_met : (r : ℤ) (ms : List Entry) → ((i : ℕ) (d : Entry) → i < length ms → r <ℤ (get_or ms i d).first) → filter (meets_row r) ms ≡ []
none_met r [] left = refl
none_met r (m ∷ ms) left =
    let one = left 0 m (omega arith) in
    let off : meets_row r m ≡ false = grind (arith, ints) in
    rw off (none_met r ms (λ k d below. left (suc k) d (omega arith)))

-- a walk of the row above

row_above : (f : Frame) (r y : ℤ) → y ≡ row_y f r → row_y f (r -ℤ pos 1) ≡ y +ℤ pos 8192
row_above f r y is = omega (arith, ints, is)

pub inside : (a b row : ℤ) → a ≤ℤ row → row <ℤ b → (int_le a row && int_lt row b) ≡ true
inside a b row low high = grind (arith, ints)

pub ended_above : (first past row : ℤ) → past ≤ℤ row → (int_le first row && int_lt row past) ≡ false
ended_above first past row over = grind (arith, ints)

pub met_twice : (ay by y : ℤ) → is_between ay by y ≡ true → is_between ay by (y +ℤ pos 8192) ≡ true → ay ≢ by
met_twice ay by y here above = λ level.
    let one = level_here ay by y level here in
    let two = level_here ay by (y +ℤ pos 8192) level above in
    omega (arith, ints, one, two)

pub met_at : (e : Edge) (f : Frame) (first past r y : ℤ) → AreRows e f (first, past) → y ≡ row_y f r → first ≤ℤ r → r <ℤ past
    → is_between e.ay e.by y ≡ true
met_at e f first past r y are height low high =
    let from = are.low in
    let to = are.high in
    rw height (are.met r (omega (arith, ints, from, low)) (omega (arith, ints, to, high)) ∙ inside first past r low high)

pub sloped_long : (e : Edge) (f : Frame) (first past r y : ℤ) → AreRows e f (first, past) → y ≡ row_y f r → first ≤ℤ r → (r +ℤ pos 1) <ℤ past
    → e.ay ≢ e.by
sloped_long e f first past r y are height low on =
    let up : row_y f (r +ℤ pos 1) +ℤ pos 8192 ≡ y = omega (arith, ints, height) in
    let here = met_at e f first past (r +ℤ pos 1) (row_y f (r +ℤ pos 1)) are refl (omega (arith, ints, low)) on in
    let above = met_at e f first past r y are height low (omega (arith, ints, on)) in
    met_twice e.ay e.by (row_y f (r +ℤ pos 1)) here (rw up above)

pub goes_below : (es : List Edge) (f : Frame) (r y : ℤ) (w : Walk) → IsWalkAt es f (r -ℤ pos 1) w → r <ℤ w.entry.past → y ≡ row_y f r
    → GoesBelow (edge_of es w.entry) f.margin y w
goes_below es f r y w is past height =
    let up = row_above f r y height in
    let first = is.first in
    let met = met_at (edge_of es w.entry) f w.entry.first w.entry.past r y is.rows height (omega (arith, ints, first)) past in
    let above = met_at (edge_of es w.entry) f w.entry.first w.entry.past (r -ℤ pos 1) (y +ℤ pos 8192) is.rows (sym up) is.first is.past in
    record {
      sloped = met_twice (edge_of es w.entry).ay (edge_of es w.entry).by y met above;
      met = met;
      above = above;
      walk = rw up at is.walk;
    }

pub at_below : (es : List Edge) (f : Frame) (r y : ℤ) (w v : Walk) → IsWalkAt es f (r -ℤ pos 1) w → r <ℤ w.entry.past → y ≡ row_y f r
    → v.entry ≡ w.entry → IsWalk (edge_of es w.entry) f.margin y v → IsWalkAt es f r v
at_below es f r y w v is past height same walk =
    let first = is.first in
    record {
      number = rw same is.number;
      rows = rw same is.rows;
      first = rw same (omega (arith, ints, first));
      past = rw same past;
      walk = rw height at (rw (← same) at walk);
    }

pub walk_here : (es : List Edge) (f : Frame) (r y : ℤ) (ws vs : List Walk) (i : ℕ) (d : Walk) → All (IsWalkAt es f (r -ℤ pos 1)) vs
    → All (λ w. r <ℤ w.entry.past) vs → get_or ws i d ≡ get_or vs i d → i < length vs → y ≡ row_y f r → GoesBelow (edge_of es (get_or ws i d).entry) f.margin y (get_or ws i d)
walk_here es f r y ws vs i d walks on same below height = rw same (goes_below es f r y (get_or vs i d) (walks i d below) (on i d below) height)

pub walked_here : (es : List Edge) (f : Frame) (r y : ℤ) (ws vs : List Walk) (i : ℕ) (d v : Walk) → All (IsWalkAt es f (r -ℤ pos 1)) vs
    → All (λ w. r <ℤ w.entry.past) vs → get_or ws i d ≡ get_or vs i d → i < length vs → y ≡ row_y f r
    → v.entry ≡ (get_or ws i d).entry → IsWalk (edge_of es (get_or ws i d).entry) f.margin y v → IsWalkAt es f r v
walked_here es f r y ws vs i d v walks on same below height entry walk =
    at_below es f r y (get_or vs i d) v (walks i d below) (on i d below) height (rw same at entry) (rw same at walk)

-- one walk more is at the row

pub set_walked : (P : Walk → Type 0) (ws : List Walk) (i : ℕ) (v : Walk) → i < length ws → ((k : ℕ) (d : Walk) → k < i → P (get_or ws k d)) → P v
    → (k : ℕ) (d : Walk) → k < i + 1 → P (get_or (set ws i v) k d)
set_walked P ws i v below so_far new = λ k d under. elim (cases_eq k i) [
  | inl same ↦ rw (same, get_or-set_same ws i v d below) new
  | inr other ↦ rw (get_or-set_other ws i k v d other) (so_far k d (omega (arith, under, other)))
]

pub set_above : (ws vs : List Walk) (i : ℕ) (v : Walk) → ((k : ℕ) (d : Walk) → i ≤ k → get_or ws k d ≡ get_or vs k d)
    → (k : ℕ) (d : Walk) → i + 1 ≤ k → get_or (set ws i v) k d ≡ get_or vs k d
set_above ws vs i v so_far = λ k d over. rw (get_or-set_other ws i k v d (λ same. omega (arith, same, over))) (so_far k d (omega (arith, over)))

pub entry_at : (ws : List Walk) (i : ℕ) (d : Walk) → i < length ws → get_or (map (λ (w : Walk). w.entry) ws) i d.entry ≡ (get_or ws i d).entry
entry_at [] i d below = absurd (omega arith)
entry_at (w ∷ ws) zero d below = refl
entry_at (w ∷ ws) (suc i) d below = entry_at ws i d (omega arith)

pub entries_more : (ws vs us : List Walk) (i : ℕ) (d : Walk) → i < length us → get_or ws i d ≡ get_or us i d
    → take (i + 1) (map (λ (w : Walk). w.entry) us) ≡ take i (map (λ (w : Walk). w.entry) us) ++ (get_or ws i d).entry ∷ []
entries_more ws vs us i d below same =
    let long : i < length (map (λ (w : Walk). w.entry) us) = rw (length-map us (λ (w : Walk). w.entry)) below in
    rw (take_more (map (λ (w : Walk). w.entry) us) i d.entry long, entry_at us i d below, same) refl

-- an edge more

edges_push : (es : List Edge) (ms : List Entry) (n : Entry) → edges_of es (ms ++ n ∷ []) ≡ edges_of es ms ++ edge_of es n ∷ []
edges_push es ms n = map-append (λ (m : Entry). edge_of es m) ms (n ∷ [])

longer : (ms : List Entry) (n : Entry) → length (ms ++ n ∷ []) ≡ length ms + 1
longer [] n = refl
longer (m ∷ ms) n = let rest = longer ms n in omega arith

one_longer : (es : List Edge) (e : Edge) → length (es ++ e ∷ []) ≡ length es + 1
one_longer [] e = refl
one_longer (d ∷ es) e = let rest = one_longer es e in omega arith

pub left_push : (es : List Edge) (m : ℕ) (y : ℤ) (ms : List Entry) (n : Entry) (most : ℕ) (k l : Left) → IsLeftBy (edges_of es ms) m y most k
    → HasLeft (edge_of es n) m y k l → IsLeftBy (edges_of es (ms ++ n ∷ [])) m y most l
left_push es m y ms n most k l are has =
    let long = one_longer (edges_of es ms) (edge_of es n) in
    let before = are.room in
    let after = has.room in
    rw (edges_push es ms n) (record {
      black = λ c. has.black c ∙ rw (are.black c) (sym (on_push (edges_of es ms) (edge_of es n) (column_x m c) y));
      turn = λ c. has.turn c ∙ rw (are.turn c) (sym (winding_push (edges_of es ms) (edge_of es n) (column_x m c) y));
      whole = has.whole ∙ are.whole;
      room = omega (arith, long, before, after);
    })

-- entries of walks

pub sum_of_entries : (g : Entry → ℕ) (ws : List Walk) → sum_by g (map (λ (w : Walk). w.entry) ws) ≡ sum_by (λ w. g w.entry) ws
sum_of_entries g [] = refl
sum_of_entries g (w ∷ ws) =
    sum_by-cons g w.entry (map (λ (v : Walk). v.entry) ws) ∙ rw (sum_of_entries g ws) (sym (sum_by-cons (λ (v : Walk). g v.entry) w ws))

sum_if_at : (r : ℤ) (g : Entry → ℕ) (w : Walk) (ws : List Walk) (b : Bool) → int_lt (r +ℤ pos 1) w.entry.past ≡ b
    → sum_by (λ v. g v.entry) (filter (λ (v : Walk). int_lt (r +ℤ pos 1) v.entry.past) ws) ≡ sum_by (if_on r g) (map (λ (v : Walk). v.entry) ws)
    → sum_by (λ v. g v.entry) (filter (λ (v : Walk). int_lt (r +ℤ pos 1) v.entry.past) (w ∷ ws)) ≡ sum_by (if_on r g) (map (λ (v : Walk). v.entry) (w ∷ ws))
sum_if_at r g w ws true is rest =
    let whole = sum_by-cons (if_on r g) w.entry (map (λ (v : Walk). v.entry) ws) in
    let part = sum_by-cons (λ (v : Walk). g v.entry) w (filter (λ (v : Walk). int_lt (r +ℤ pos 1) v.entry.past) ws) in
    rw (whole, is, part, rest) refl
sum_if_at r g w ws false is rest =
    let whole = sum_by-cons (if_on r g) w.entry (map (λ (v : Walk). v.entry) ws) in
    rw (whole, is) (omega (arith, rest))

pub sum_if : (r : ℤ) (g : Entry → ℕ) (ws : List Walk)
    → sum_by (λ w. g w.entry) (filter (λ (w : Walk). int_lt (r +ℤ pos 1) w.entry.past) ws) ≡ sum_by (if_on r g) (map (λ (w : Walk). w.entry) ws)
sum_if r g [] = refl
sum_if r g (w ∷ ws) = sum_if_at r g w ws (int_lt (r +ℤ pos 1) w.entry.past) refl (sum_if r g ws)

-- a number of entries begun

pub walked_more : (es : List Edge) (f : Frame) (r : ℤ) (ms : List Entry) (n : ℕ) (d : Entry) (ws vs : List Walk) → AreWalked es f r ms n ws → n < length ms
    → (get_or ms n d).first ≤ℤ r → ((g : Entry → ℕ) → sum_by (λ w. g w.entry) vs ≡ sum_by (λ w. g w.entry) ws + if_on r g (get_or ms n d))
    → All (IsWalkAt es f r) vs → All (λ w. (r +ℤ pos 1) <ℤ w.entry.past) vs → AreWalked es f r ms (n + 1) vs
walked_more es f r ms n d ws vs are below first sums walks on = record {
  within = omega (arith, below);
  first = rw (take_more ms n d below) (All-push (λ (m : Entry). m.first ≤ℤ r) (take n ms) (get_or ms n d) are.first first);
  sums = λ g. sums g ∙ rw (are.sums g, take_more ms n d below) (sym (sum_by_push (if_on r g) (take n ms) (get_or ms n d)));
  walks = walks;
  on = on;
}

-- there is memory for the walks

less_each : (g h : Entry → ℕ) (ms : List Entry) → All (λ m. g m ≤ h m) ms → sum_by g ms ≤ sum_by h ms
less_each g h [] less = omega arith
less_each g h (m ∷ ms) less =
    let rest = less_each g h ms (λ k d below. less (suc k) d (omega arith)) in
    let one = less 0 m (omega arith) in
    let whole = sum_by-cons g m ms in
    let other = sum_by-cons h m ms in
    omega arith

ones : (ws : List Walk) → sum_by (λ w. 1) ws ≡ length ws
ones [] = refl
ones (w ∷ ws) = let whole = sum_by-cons (λ (v : Walk). 1) w ws in let rest = ones ws in omega arith

on_long : (first past r : ℤ) → first ≤ℤ r → (if int_lt (r +ℤ pos 1) past then 1 else 0) ≤ (if int_lt (first +ℤ pos 1) past then 1 else 0)
on_long first past r begun = grind (arith, ints)

long_there : (first past r : ℤ) → first ≤ℤ r → (r +ℤ pos 1) <ℤ past → ◌≡◌ {A = ℕ} (if int_lt (first +ℤ pos 1) past then 1 else 0) 1
long_there first past r begun on = grind (arith, ints)

pub few_walks : (es : List Edge) (f : Frame) (r : ℤ) (ms : List Entry) (n : ℕ) (ws : List Walk) → AreWalked es f r ms n ws → length ws ≤ sum_by is_long (take n ms)
few_walks es f r ms n ws are =
    let one = ones ws in
    let sums = are.sums (λ _. 1) in
    let less = less_each (if_on r (λ _. 1)) is_long (take n ms)
    (λ k d below. on_long (get_or (take n ms) k d).first (get_or (take n ms) k d).past r (are.first k d below)) in
    omega (arith, one, sums, less)

pub room_for_walk : (es : List Edge) (f : Frame) (r : ℤ) (ms : List Entry) (n : ℕ) (d : Entry) (ws : List Walk) → AreWalked es f r ms n ws → n < length ms
    → (get_or ms n d).first ≤ℤ r → (r +ℤ pos 1) <ℤ (get_or ms n d).past → length ws < sum_by is_long ms
room_for_walk es f r ms n d ws are below first on =
    let few = few_walks es f r ms n ws are in
    let one = long_there (get_or ms n d).first (get_or ms n d).past r first on in
    let next : sum_by is_long (take (n + 1) ms) ≡ sum_by is_long (take n ms) + is_long (get_or ms n d) =
    rw (take_more ms n d below) (sum_by_push is_long (take n ms) (get_or ms n d)) in
    let part = sum_by-take-le is_long ms (n + 1) in
    omega (arith, few, one, next, part)

-- the entries so far that meet the row

few_met_at : (r : ℤ) (m : Entry) (ms : List Entry) (n : ℕ) (b : Bool) → meets_row r m ≡ b
    → length (filter (meets_row r) (take n ms)) ≤ length (filter (meets_row r) ms)
    → length (filter (meets_row r) (m ∷ take n ms)) ≤ length (filter (meets_row r) (m ∷ ms))
few_met_at r m ms n true is rest = rw is (omega (arith, rest))
few_met_at r m ms n false is rest = rw is rest

pub few_met : (r : ℤ) (ms : List Entry) (n : ℕ) → length (filter (meets_row r) (take n ms)) ≤ length (filter (meets_row r) ms)
few_met r [] zero = omega arith
few_met r [] (suc n) = omega arith
few_met r (m ∷ ms) zero = omega arith
few_met r (m ∷ ms) (suc n) = few_met_at r m ms n (meets_row r m) refl (few_met r ms n)

pub met_more : (r : ℤ) (ms : List Entry) (n : ℕ) (d : Entry) → n < length ms
    → filter (meets_row r) (take (n + 1) ms) ≡ filter (meets_row r) (take n ms) ++ filter (meets_row r) (get_or ms n d ∷ [])
met_more r ms n d below = rw (take_more ms n d below) (filter-append (meets_row r) (take n ms) (get_or ms n d ∷ []))

pub room_for_mark : (r : ℤ) (ms : List Entry) (n : ℕ) (d : Entry) → n < length ms → meets_row r (get_or ms n d) ≡ true
    → length (filter (meets_row r) (take n ms)) < length (filter (meets_row r) ms)
room_for_mark r ms n d below met =
    let few = few_met r ms (n + 1) in
    let one : length (filter (meets_row r) (take (n + 1) ms)) ≡ length (filter (meets_row r) (take n ms)) + 1 =
    rw (met_more r ms n d below, met) (longer (filter (meets_row r) (take n ms)) (get_or ms n d)) in
    omega (arith, few, one)

-- where an entry begins below the row, those after it do too

pub none_after : (r : ℤ) (ms : List Entry) (n : ℕ) → IsInOrder ms r → n < length ms → ((d : Entry) → r <ℤ (get_or ms n d).first)
    → filter (meets_row r) (drop n ms) ≡ []
none_after r ms n order below after =
    none_met r (drop n ms) (λ i d under.
    let long = length-drop n ms in
    let first = after d in
    let up = order n (n + i) d (omega arith) (omega (arith, under, long)) first in
    rw (get_or-drop n ms i d) (omega (arith, ints, first, up)))

met_parted : (r : ℤ) (ms : List Entry) (n : ℕ) → filter (meets_row r) ms ≡ filter (meets_row r) (take n ms) ++ filter (meets_row r) (drop n ms)
met_parted r ms n =
    let whole : filter (meets_row r) (take n ms ++ drop n ms) ≡ filter (meets_row r) (take n ms) ++ filter (meets_row r) (drop n ms) =
    filter-append (meets_row r) (take n ms) (drop n ms) in
    rw (take-append-drop n ms) at whole

pub all_met : (r : ℤ) (ms : List Entry) (n : ℕ) → IsInOrder ms r → n < length ms → ((d : Entry) → r <ℤ (get_or ms n d).first)
    → filter (meets_row r) (take n ms) ≡ filter (meets_row r) ms
all_met r ms n order below after =
    sym (met_parted r ms n ∙ rw (none_after r ms n order below after) (append-nil (filter (meets_row r) (take n ms))))

pub met_counts : (r : ℤ) (ms : List Entry) (n : ℕ)
    → length (filter (meets_row r) (take n ms)) + length (filter (meets_row r) (drop n ms)) ≡ length (filter (meets_row r) ms)
met_counts r ms n = sym (ap length (met_parted r ms n) ∙ length-append (filter (meets_row r) (take n ms)) (filter (meets_row r) (drop n ms)))

-- the entries from one on that meet the row are that one, if it does, and those after it

met_from_at : (r : ℤ) (m : Entry) (ms : List Entry) (b : Bool) → meets_row r m ≡ b
    → length (filter (meets_row r) (m ∷ ms)) ≡ length (filter (meets_row r) (m ∷ [])) + length (filter (meets_row r) ms)
met_from_at r m ms true is = rw is (omega arith)
met_from_at r m ms false is = rw is (omega arith)

pub met_from : (r : ℤ) (ms : List Entry) (n : ℕ) (d : Entry) → n < length ms
    → length (filter (meets_row r) (drop n ms)) ≡ length (filter (meets_row r) (get_or ms n d ∷ [])) + length (filter (meets_row r) (drop (n + 1) ms))
met_from r ms n d below =
    rw (drop_more ms n d below) (met_from_at r (get_or ms n d) (drop (n + 1) ms) (meets_row r (get_or ms n d)) refl)

-- a walk begun in the row

pub begun_at : (es : List Edge) (f : Frame) (r y : ℤ) (m : Entry) (w : Walk) → w.entry ≡ m → m.edge < length es
    → AreRows (edge_of es m) f (m.first, m.past) → m.first ≤ℤ r → r <ℤ m.past → y ≡ row_y f r → IsWalk (edge_of es m) f.margin y w → IsWalkAt es f r w
begun_at es f r y m w same number rows first past height walk = record {
  number = rw same number;
  rows = rw same rows;
  first = rw same first;
  past = rw same past;
  walk = rw height at (rw (← same) at walk);
}

-- the walks that continue

goes_on : (r past : ℤ) → int_lt (r +ℤ pos 1) past ≡ true → (r +ℤ pos 1) <ℤ past
goes_on r past is = grind (arith, ints)

kept_on_at : (r : ℤ) (w : Walk) (ws : List Walk) (b : Bool) → int_lt (r +ℤ pos 1) w.entry.past ≡ b
    → All (λ v. (r +ℤ pos 1) <ℤ v.entry.past) (filter (λ (v : Walk). int_lt (r +ℤ pos 1) v.entry.past) ws)
    → All (λ v. (r +ℤ pos 1) <ℤ v.entry.past) (filter (λ (v : Walk). int_lt (r +ℤ pos 1) v.entry.past) (w ∷ ws))
kept_on_at r w ws true is rest =
    rw is (All-cons (λ (v : Walk). (r +ℤ pos 1) <ℤ v.entry.past) w (filter (λ (v : Walk). int_lt (r +ℤ pos 1) v.entry.past) ws) (goes_on r w.entry.past is) rest)
kept_on_at r w ws false is rest = rw is rest

pub kept_on : (r : ℤ) (ws : List Walk) → All (λ v. (r +ℤ pos 1) <ℤ v.entry.past) (filter (λ (v : Walk). int_lt (r +ℤ pos 1) v.entry.past) ws)
kept_on r [] = λ k d below. absurd (omega arith)
kept_on r (w ∷ ws) = kept_on_at r w ws (int_lt (r +ℤ pos 1) w.entry.past) refl (kept_on r ws)

on_is : (r past : ℤ) → (r +ℤ pos 1) <ℤ past → int_lt (r +ℤ pos 1) past ≡ true
on_is r past on = grind (arith, ints)

pub sum_on : (r : ℤ) (g : Entry → ℕ) (ws : List Walk) → All (λ v. (r +ℤ pos 1) <ℤ v.entry.past) ws
    → sum_by (λ w. g w.entry) ws ≡ sum_by (if_on r g) (map (λ (w : Walk). w.entry) ws)
sum_on r g [] on = refl
sum_on r g (w ∷ ws) on =
    let one = on_is r w.entry.past (on 0 w (omega arith)) in
    let rest = sum_on r g ws (λ k d below. on (suc k) d (omega arith)) in
    let whole = sum_by-cons (if_on r g) w.entry (map (λ (v : Walk). v.entry) ws) in
    let part = sum_by-cons (λ (v : Walk). g v.entry) w ws in
    rw (part, whole, one, rest) refl

-- no walk
abbrev pub no_walk : Walk
no_walk = record {
  entry = record { first = pos 0; past = pos 0; edge = 0 };
  column = pos 0;
  rest = pos 0;
  part = pos 0;
  turn = pos 0;
  step = pos 0;
  step_rest = pos 0;
  rise = pos 0;
}
