-- The active edges of a row give every sum over all edges that meet the row.
use Rattle.std.proofs.Common.{◌≡◌, ◌∙◌, ap, sym, refl, ℕ, zero, suc, ◌+◌, ◌<◌, ◌≤◌, Bool, true, false, ◌&&◌, ◌||◌, nat_lt, List, [], ◌∷◌, ◌++◌, length, take, get_or, filter, sum_by, All, ℤ, pos, negsuc, ◌+ℤ◌, ◌-ℤ◌, ◌≤ℤ◌, ◌<ℤ◌, int_lt, int_le, if◌then◌else◌, arith}
use Rattle.std.specs.List.Sorted.{IsPermutation}
use Rattle.std.proofs.Math.Seq.{take-length}
use Rattle.std.proofs.lemmas.Bool.Decides.{nat_tests}
use Rattle.std.proofs.lemmas.Int.{ints}
use Rattle.std.proofs.lemmas.List.{append-nil, map-append, take_more}
use Rattle.std.proofs.lemmas.List.Elements.{All-push, All-cons, All-filter}
use Rattle.std.proofs.lemmas.List.Sums.{sum_by-cons, sum_by_push}
use Rattle.std.proofs.lemmas.List.Sorted.{All-permutation, sum_by-IsPermutation}
use Rattle.tt_scan_edges.specs.declared.edge.Edge.{Edge}
use Rattle.tt_scan_edges.specs.declared.edge.Frame.{Frame}
use Rattle.tt_scan_edges.specs.declared.entry.Entry.{Entry}
use Rattle.tt_scan_edges.specs.Crossing.{AreRows}
use Rattle.tt_scan_edges.specs.Entries.{edge_of}
use Rattle.tt_scan.specs.EdgeTable.{IsTableOf, meets_row, edges_of}
use Rattle.tt_scan_edges.specs.Counted.{edge_at}
use Rattle.tt_scan_edges.specs.Winding.{row_y, side, is_zero, is_between, lies_on, lies_on_one, turned, winding, rows_met}
use Rattle.tt_scan_edges.proofs.Crosses.{third_false}
use Rattle.tt_scan_edges.proofs.Edges.{rows_few}
use Rattle.tt_scan_edges.proofs.Bools.{or_false, or_or}

-- the entries of an edge table, one more at a time, and in another order

row_in : (a b row : ℤ) → int_lt a b ≡ false → (int_le a row && int_lt row b) ≡ false
row_in a b row none = grind (arith, ints)

kept_edge : (es : List Edge) (e : Edge) (i : ℕ) → i < length es → edge_at (es ++ e ∷ []) i ≡ edge_at es i
kept_edge [] e i below = absurd (omega arith)
kept_edge (d ∷ es) e zero below = refl
kept_edge (d ∷ es) e (suc i) below = kept_edge es e i (omega arith)

last_edge : (es : List Edge) (e : Edge) → edge_at (es ++ e ∷ []) (length es) ≡ e
last_edge [] e = refl
last_edge (d ∷ es) e = last_edge es e

one_longer : (es : List Edge) (e : Edge) → length (es ++ e ∷ []) ≡ length es + 1
one_longer [] e = refl
one_longer (d ∷ es) e = let rest = one_longer es e in omega arith

pub same_sums : (g h : Entry → ℕ) (ms : List Entry) → All (λ m. g m ≡ h m) ms → sum_by g ms ≡ sum_by h ms
same_sums g h [] same = refl
same_sums g h (m ∷ ms) same =
    let rest = same_sums g h ms (λ k d below. same (suc k) d (omega arith)) in
    let one = same 0 m (omega arith) in
    let whole = sum_by-cons g m ms in
    let other = sum_by-cons h m ms in
    omega arith

-- one edge more does not move those before it
kept_rows : (es : List Edge) (f : Frame) (ms : List Entry) (e : Edge) → IsTableOf es f ms → All (λ m. AreRows (edge_of (es ++ e ∷ []) m) f (m.first, m.past)) ms
kept_rows es f ms e are = λ k d below. rw (kept_edge es e (get_or ms k d).edge (are.numbers k d below)) (are.rows k d below)

kept_numbers : (es : List Edge) (f : Frame) (ms : List Entry) (e : Edge) → IsTableOf es f ms → All (λ m. m.edge < length (es ++ e ∷ [])) ms
kept_numbers es f ms e are = λ k d below. let long = one_longer es e in let within = are.numbers k d below in omega arith

kept_sums : (es : List Edge) (f : Frame) (ms : List Entry) (e : Edge) (g : Edge → ℕ) → IsTableOf es f ms
    → sum_by (λ m. g (edge_of (es ++ e ∷ []) m)) ms ≡ sum_by (λ m. g (edge_of es m)) ms
kept_sums es f ms e g are =
    same_sums (λ (m : Entry). g (edge_of (es ++ e ∷ []) m)) (λ (m : Entry). g (edge_of es m)) ms
    (λ k d below. ap g (kept_edge es e (get_or ms k d).edge (are.numbers k d below)))

pushed_at : (b : Bool) (es : List Edge) (f : Frame) (ms new : List Entry) (e : Edge) (q : ℤ × ℤ) → int_lt q.0 q.1 ≡ b → IsTableOf es f ms
    → AreRows e f q → new ≡ ms ++ (if b then (record { first = q.0; past = q.1; edge = length es }) ∷ [] else []) → IsTableOf (es ++ e ∷ []) f new
pushed_at true es f ms new e q some are one is =
    let m : Entry = record { first = q.0; past = q.1; edge = length es } in
    rw is (record {
      numbers = All-push (λ (n : Entry). n.edge < length (es ++ e ∷ [])) ms m (kept_numbers es f ms e are) (let long = one_longer es e in omega arith);
      rows = All-push (λ (n : Entry). AreRows (edge_of (es ++ e ∷ []) n) f (n.first, n.past)) ms m (kept_rows es f ms e are) (rw (last_edge es e) one);
      sums = λ g none.
          let last : g (edge_at (es ++ e ∷ []) (length es)) ≡ g e = ap g (last_edge es e) in
          sum_by_push (λ (n : Entry). g (edge_of (es ++ e ∷ []) n)) ms m
          ∙ rw (kept_sums es f ms e g are, last, are.sums g none) (sym (sum_by_push g es e));
    })
pushed_at false es f ms new e q none are one is =
    rw (is, append-nil ms) (record {
      numbers = kept_numbers es f ms e are;
      rows = kept_rows es f ms e are;
      sums = λ g off.
          let more = sum_by_push g es e in
          let before = are.sums g off in
          let same = kept_sums es f ms e g are in
          let zero : g e ≡ 0 = off e (λ row low high. one.met row low high ∙ row_in q.0 q.1 row none) in
          omega arith;
    })

pub entry_pushed : (es : List Edge) (f : Frame) (ms new : List Entry) (e : Edge) (q : ℤ × ℤ) → IsTableOf es f ms
    → AreRows e f q → new ≡ ms ++ (if int_lt q.0 q.1 then (record { first = q.0; past = q.1; edge = length es }) ∷ [] else []) → IsTableOf (es ++ e ∷ []) f new
entry_pushed es f ms new e q are one is = pushed_at (int_lt q.0 q.1) es f ms new e q refl are one is

pub entries_permuted : (es : List Edge) (f : Frame) (ms ns : List Entry) → IsTableOf es f ms → IsPermutation ms ns → IsTableOf es f ns
entries_permuted es f ms ns are same = record {
  numbers = All-permutation (λ (m : Entry). m.edge < length es) ms ns same are.numbers;
  rows = All-permutation (λ (m : Entry). AreRows (edge_of es m) f (m.first, m.past)) ms ns same are.rows;
  sums = λ g none. sum_by-IsPermutation (λ (m : Entry). g (edge_of es m)) ms ns same ∙ are.sums g none;
}

-- sums over the entries that a test selects

kept_at : (h : Entry → ℕ) (p : Entry → Bool) (m : Entry) (ms : List Entry) (b : Bool) → p m ≡ b → (p m ≡ false → h m ≡ 0)
    → sum_by h (filter p ms) ≡ sum_by h ms → sum_by h (filter p (m ∷ ms)) ≡ sum_by h (m ∷ ms)
kept_at h p m ms true is none rest =
    let whole = sum_by-cons h m ms in
    let part = sum_by-cons h m (filter p ms) in
    rw (is, part, whole, rest) refl
kept_at h p m ms false is none rest =
    let whole = sum_by-cons h m ms in
    let zero = none is in
    rw (is, whole, zero) (omega (arith, rest))

pub sum_kept : (h : Entry → ℕ) (p : Entry → Bool) (ms : List Entry) → All (λ m. p m ≡ false → h m ≡ 0) ms → sum_by h (filter p ms) ≡ sum_by h ms
sum_kept h p [] none = refl
sum_kept h p (m ∷ ms) none =
    kept_at h p m ms (p m) refl (none 0 m (omega arith)) (sum_kept h p ms (λ k d below. none (suc k) d (omega arith)))

pub sum_of_edges : (es : List Edge) (g : Edge → ℕ) (ms : List Entry) → sum_by g (edges_of es ms) ≡ sum_by (λ m. g (edge_of es m)) ms
sum_of_edges es g [] = refl
sum_of_edges es g (m ∷ ms) =
    sum_by-cons g (edge_of es m) (edges_of es ms) ∙ rw (sum_of_edges es g ms) (sym (sum_by-cons (λ (n : Entry). g (edge_of es n)) m ms))

module _ (es : List Edge) (f : Frame) (ms : List Entry) (r : ℤ) (are : IsTableOf es f ms) (low : pos 0 ≤ℤ r) (high : r <ℤ pos f.height) where
  counted : (g : Edge → ℕ) → ((e : Edge) → is_between e.ay e.by (row_y f r) ≡ false → g e ≡ 0)
      → sum_by g (edges_of es (filter (meets_row r) ms)) ≡ sum_by g es
  counted g none =
      sum_of_edges es g (filter (meets_row r) ms)
      ∙ sum_kept (λ (m : Entry). g (edge_of es m)) (meets_row r) ms (λ k d below. λ out. none (edge_of es (get_or ms k d)) ((are.rows k d below).met r low high ∙ out))
      ∙ are.sums g (λ e off. none e (off r low high))

-- the turns of edges, the edges that a point lies on, and those that a row meets, as counts

pub up_of : ℤ → ℤ → Edge → ℕ
up_of x y e = if int_le e.ay y && int_lt y e.by && int_lt (side e x y) (pos 0) then 1 else 0

pub down_of : ℤ → ℤ → Edge → ℕ
down_of x y e =
    if int_le e.ay y && int_lt y e.by && int_lt (side e x y) (pos 0) then 0
    else (if int_le e.by y && int_lt y e.ay && int_lt (pos 0) (side e x y) then 1 else 0)

pub on_of : ℤ → ℤ → Edge → ℕ
on_of x y e = if lies_on e x y then 1 else 0

met_of : ℤ → Edge → ℕ
met_of y e = if is_between e.ay e.by y then 1 else 0

one_turn : (a b : Bool) → (if a then pos 1 else (if b then negsuc 0 else pos 0)) ≡ pos (if a then 1 else 0) -ℤ pos (if a then 0 else (if b then 1 else 0))
one_turn true b = refl
one_turn false true = refl
one_turn false false = refl

pub wound : (es : List Edge) (x y : ℤ) → winding es x y ≡ pos (sum_by (up_of x y) es) -ℤ pos (sum_by (down_of x y) es)
unfolding up_of down_of
wound [] x y = refl
wound (e ∷ es) x y =
    let later = wound es x y in
    let one = one_turn (int_le e.ay y && int_lt y e.by && int_lt (side e x y) (pos 0)) (int_le e.by y && int_lt y e.ay && int_lt (pos 0) (side e x y)) in
    let ups = sum_by-cons (up_of x y) e es in
    let downs = sum_by-cons (down_of x y) e es in
    rw (ups, downs, later, one) (omega (arith, ints))

some_at : (b : Bool) (n : ℕ) → (b || nat_lt 0 n) ≡ nat_lt 0 ((if b then 1 else 0) + n)
some_at true n = grind (arith, nat_tests)
some_at false n = grind (arith, nat_tests)

pub touched : (es : List Edge) (x y : ℤ) → lies_on_one es x y ≡ nat_lt 0 (sum_by (on_of x y) es)
unfolding on_of
touched [] x y = refl
touched (e ∷ es) x y =
    let all = sum_by-cons (on_of x y) e es in
    rw (all, touched es x y) (some_at (lies_on e x y) (sum_by (on_of x y) es))

met_counted : (es : List Edge) (y : ℤ) → rows_met es y ≡ sum_by (met_of y) es
unfolding met_of
met_counted [] y = refl
met_counted (e ∷ es) y = let all = sum_by-cons (met_of y) e es in rw (all, met_counted es y) refl

outside : (a b y : ℤ) (s : Bool) → is_between a b y ≡ false → (int_le a y && int_lt y b && s) ≡ false
outside a b y s off = grind (arith, ints)

outside_down : (a b y : ℤ) (s : Bool) → is_between a b y ≡ false → (int_le b y && int_lt y a && s) ≡ false
outside_down a b y s off = grind (arith, ints)

up_off : (x y : ℤ) (e : Edge) → is_between e.ay e.by y ≡ false → up_of x y e ≡ 0
unfolding up_of
up_off x y e off = rw (outside e.ay e.by y (int_lt (side e x y) (pos 0)) off) refl

down_off : (x y : ℤ) (e : Edge) → is_between e.ay e.by y ≡ false → down_of x y e ≡ 0
unfolding down_of
down_off x y e off =
    rw (outside e.ay e.by y (int_lt (side e x y) (pos 0)) off, outside_down e.ay e.by y (int_lt (pos 0) (side e x y)) off) refl

on_off : (x y : ℤ) (e : Edge) → is_between e.ay e.by y ≡ false → on_of x y e ≡ 0
unfolding on_of
on_off x y e off = rw (third_false (is_zero (side e x y)) (is_between e.ax e.bx x) (is_between e.ay e.by y) off) refl

met_off : (y : ℤ) (e : Edge) → is_between e.ay e.by y ≡ false → met_of y e ≡ 0
unfolding met_of
met_off y e off = rw off refl

-- sums over the edges that meet the row are sums over all edges

met_all : (es : List Edge) (y : ℤ) (ms : List Entry) → All (λ m. is_between (edge_of es m).ay (edge_of es m).by y ≡ true) ms → rows_met (edges_of es ms) y ≡ length ms
met_all es y [] all = refl
met_all es y (m ∷ ms) all =
    let one = all 0 m (omega arith) in
    let rest = met_all es y ms (λ k d below. all (suc k) d (omega arith)) in
    rw one (omega arith)

kept_met_at : (es : List Edge) (r y : ℤ) (m : Entry) (ms : List Entry) (b : Bool) → meets_row r m ≡ b → (meets_row r m ≡ true → is_between (edge_of es m).ay (edge_of es m).by y ≡ true)
    → All (λ n. is_between (edge_of es n).ay (edge_of es n).by y ≡ true) (filter (meets_row r) ms)
    → All (λ n. is_between (edge_of es n).ay (edge_of es n).by y ≡ true) (filter (meets_row r) (m ∷ ms))
kept_met_at es r y m ms true is met rest =
    rw is (All-cons (λ (n : Entry). is_between (edge_of es n).ay (edge_of es n).by y ≡ true) m (filter (meets_row r) ms) (met is) rest)
kept_met_at es r y m ms false is met rest = rw is rest

kept_met : (es : List Edge) (r y : ℤ) (ms : List Entry) → All (λ m. meets_row r m ≡ true → is_between (edge_of es m).ay (edge_of es m).by y ≡ true) ms
    → All (λ n. is_between (edge_of es n).ay (edge_of es n).by y ≡ true) (filter (meets_row r) ms)
kept_met es r y [] met = λ k d below. absurd (omega arith)
kept_met es r y (m ∷ ms) met =
    kept_met_at es r y m ms (meets_row r m) refl (met 0 m (omega arith)) (kept_met es r y ms (λ k d below. met (suc k) d (omega arith)))

pub record StandForAll (es : List Edge) (f : Frame) (r : ℤ) (active : List Entry) : Type 0 where
  pub numbers : All (λ m. m.edge < length es) active
  pub met : All (λ m. is_between (edge_of es m).ay (edge_of es m).by (row_y f r) ≡ true) active
  pub on : (x : ℤ) → lies_on_one (edges_of es active) x (row_y f r) ≡ lies_on_one es x (row_y f r)
  pub turns : (x : ℤ) → winding (edges_of es active) x (row_y f r) ≡ winding es x (row_y f r)
  pub count : rows_met es (row_y f r) ≡ length active

pub stand : (es : List Edge) (f : Frame) (ms : List Entry) (r : ℤ) → IsTableOf es f ms → pos 0 ≤ℤ r → r <ℤ pos f.height
    → StandForAll es f r (filter (meets_row r) ms)
stand es f ms r are low high =
    let y = row_y f r in
    let sums = counted es f ms r are low high in
    let met = kept_met es r y ms (λ k d below. λ inside. (are.rows k d below).met r low high ∙ inside) in
    let count = sums (met_of y) (met_off y) in record {
      numbers = All-filter (meets_row r) (λ (m : Entry). m.edge < length es) ms are.numbers;
      met = met;
      on = λ x. touched (edges_of es (filter (meets_row r) ms)) x y ∙ rw (sums (on_of x y) (on_off x y)) (sym (touched es x y));
      turns = λ x. wound (edges_of es (filter (meets_row r) ms)) x y
          ∙ rw (sums (up_of x y) (up_off x y), sums (down_of x y) (down_off x y)) (sym (wound es x y));
      count = met_counted es y ∙ sym count ∙ sym (met_counted (edges_of es (filter (meets_row r) ms)) y) ∙ met_all es y (filter (meets_row r) ms) met;
    }

pub few_stand : (es : List Edge) (f : Frame) (r : ℤ) (active : List Entry) → StandForAll es f r active → length active ≤ length es
few_stand es f r active stands =
    let count = stands.count in
    let most : rows_met es (row_y f r) ≤ length es = rw (take-length es) at (rows_few es (length es) (row_y f r)) in
    omega arith

-- one edge more of the list

pub on_push : (es : List Edge) (e : Edge) (x y : ℤ) → lies_on_one (es ++ e ∷ []) x y ≡ (lies_on_one es x y || lies_on e x y)
on_push [] e x y = or_false (lies_on e x y)
on_push (d ∷ es) e x y = rw (on_push es e x y) (or_or (lies_on d x y) (lies_on_one es x y) (lies_on e x y))

pub winding_push : (es : List Edge) (e : Edge) (x y : ℤ) → winding (es ++ e ∷ []) x y ≡ winding es x y +ℤ turned e x y
winding_push [] e x y = omega (arith, ints)
winding_push (d ∷ es) e x y = let more = winding_push es e x y in omega (arith, ints)

edges_more : (es : List Edge) (ms : List Entry) (i : ℕ) (d : Entry) → i < length ms → edges_of es (take (i + 1) ms) ≡ edges_of es (take i ms) ++ (edge_of es (get_or ms i d)) ∷ []
edges_more es ms i d below = rw (take_more ms i d below) (map-append (λ (m : Entry). edge_of es m) (take i ms) (get_or ms i d ∷ []))

pub on_more : (es : List Edge) (ms : List Entry) (i : ℕ) (d : Entry) (x y : ℤ) → i < length ms
    → lies_on_one (edges_of es (take (i + 1) ms)) x y ≡ (lies_on_one (edges_of es (take i ms)) x y || lies_on (edge_of es (get_or ms i d)) x y)
on_more es ms i d x y below = rw (edges_more es ms i d below) (on_push (edges_of es (take i ms)) (edge_of es (get_or ms i d)) x y)

pub turns_more_met : (es : List Edge) (ms : List Entry) (i : ℕ) (d : Entry) (x y : ℤ) → i < length ms
    → winding (edges_of es (take (i + 1) ms)) x y ≡ winding (edges_of es (take i ms)) x y +ℤ turned (edge_of es (get_or ms i d)) x y
turns_more_met es ms i d x y below = rw (edges_more es ms i d below) (winding_push (edges_of es (take i ms)) (edge_of es (get_or ms i d)) x y)
