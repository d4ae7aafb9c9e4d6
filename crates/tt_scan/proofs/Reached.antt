-- Walked edges are those that begin above a row and meet it.
use Rattle.std.proofs.Common.{◌≡◌, ◌∙◌, sym, refl, ℕ, suc, ◌≤◌, Bool, true, false, ◌&&◌, List, [], ◌∷◌, length, map, take, get_or, filter, sum_by, All, ℤ, pos, ◌+ℤ◌, ◌-ℤ◌, ◌≤ℤ◌, ◌<ℤ◌, int_lt, int_le, if◌then◌else◌, arith}
use Rattle.std.specs.List.Sorted.{IsPermutation}
use Rattle.std.specs.Prelude.{vec_capacity}
use Rattle.std.proofs.lemmas.Int.{ints}
use Rattle.std.proofs.lemmas.List.Sums.{sum_by-cons}
use Rattle.std.proofs.lemmas.List.{length-map}
use Rattle.std.proofs.lemmas.List.Sorted.{All-permutation, sum_by-IsPermutation}
use Rattle.tt_scan_edges.specs.declared.edge.Edge.{Edge}
use Rattle.tt_scan_edges.specs.declared.edge.Frame.{Frame}
use Rattle.tt_scan.specs.declared.edge_table.EdgeTable.{EdgeTable}
use Rattle.tt_scan_edges.specs.declared.entry.Entry.{Entry}
use Rattle.tt_scan_edges.specs.declared.walk.Walk.{Walk}
use Rattle.tt_scan_edges.specs.Entries.{edge_of}
use Rattle.tt_scan.specs.EdgeTable.{AreWalked, HasRoom, IsReady, IsTableOf, IsWalkAt, edges_of, if_on, meets_row}
use Rattle.tt_scan_edges.specs.Left.{Left, IsLeftBy}
use Rattle.tt_scan_edges.specs.Winding.{column_x}
use Rattle.tt_scan.proofs.Standing.{stand, few_stand, sum_kept, sum_of_edges, up_of, down_of, on_of, wound, touched}
use Rattle.tt_scan.proofs.Walked.{sum_of_entries, few_met}

-- a sum over one list of entries equals the sum over another

sums_of_edges : (es : List Edge) (xs ys : List Entry) → ((g : Entry → ℕ) → sum_by g xs ≡ sum_by g ys) → (g : Edge → ℕ)
    → sum_by g (edges_of es xs) ≡ sum_by g (edges_of es ys)
sums_of_edges es xs ys same g = sum_of_edges es g xs ∙ same (λ (m : Entry). g (edge_of es m)) ∙ sym (sum_of_edges es g ys)

ones : (ms : List Entry) → sum_by (λ m. 1) ms ≡ length ms
ones [] = refl
ones (m ∷ ms) = let whole = sum_by-cons (λ (n : Entry). 1) m ms in let rest = ones ms in omega arith

pub same_length : (xs ys : List Entry) → ((g : Entry → ℕ) → sum_by g xs ≡ sum_by g ys) → length xs ≡ length ys
same_length xs ys same = sym (ones xs) ∙ same (λ _. 1) ∙ ones ys

pub left_same : (es : List Edge) (m : ℕ) (y : ℤ) (xs ys : List Entry) (most : ℕ) (l : Left) → ((g : Entry → ℕ) → sum_by g xs ≡ sum_by g ys)
    → IsLeftBy (edges_of es xs) m y most l → IsLeftBy (edges_of es ys) m y most l
left_same es m y xs ys most l same are =
    let sums = sums_of_edges es xs ys same in
    let long = same_length xs ys same in
    let one = length-map xs (λ (n : Entry). edge_of es n) in
    let other = length-map ys (λ (n : Entry). edge_of es n) in
    let room = are.room in
    record {
      black = λ c.
          let x = column_x m c in
          are.black c ∙ touched (edges_of es xs) x y ∙ rw (sums (on_of x y)) (sym (touched (edges_of es ys) x y));
      turn = λ c.
          let x = column_x m c in
          are.turn c ∙ wound (edges_of es xs) x y ∙ rw (sums (up_of x y), sums (down_of x y)) (sym (wound (edges_of es ys) x y));
      whole = are.whole;
      room = omega (arith, long, one, other, room);
    }

-- Lemma: the memory is for as many edges as before
pub left_whole : (es : List Edge) (m : ℕ) (y : ℤ) (most : ℕ) (l : Left) → IsLeftBy es m y most l → IsLeftBy es m y l.most l
left_whole es m y most l are =
    let whole = are.whole in
    let room = are.room in
    record {
      black = are.black;
      turn = are.turn;
      whole = refl;
      room = omega (arith, whole, room);
    }

-- of the entries begun, those that continue below a row are those that meet the row below

meets_is : (first past r : ℤ) → first ≤ℤ (r -ℤ pos 1) → (int_le first r && int_lt r past) ≡ int_lt ((r -ℤ pos 1) +ℤ pos 1) past
meets_is first past r begun = grind (arith, ints)

met_sum_at : (r : ℤ) (g : Entry → ℕ) (m : Entry) (ms : List Entry) (b : Bool) → meets_row r m ≡ b → m.first ≤ℤ (r -ℤ pos 1)
    → sum_by (if_on (r -ℤ pos 1) g) ms ≡ sum_by g (filter (meets_row r) ms)
    → sum_by (if_on (r -ℤ pos 1) g) (m ∷ ms) ≡ sum_by g (filter (meets_row r) (m ∷ ms))
met_sum_at r g m ms true is begun rest =
    let test : int_lt ((r -ℤ pos 1) +ℤ pos 1) m.past ≡ true = sym (meets_is m.first m.past r begun) ∙ is in
    let whole = sum_by-cons (if_on (r -ℤ pos 1) g) m ms in
    let part = sum_by-cons g m (filter (meets_row r) ms) in
    rw (whole, is, part, test, rest) refl
met_sum_at r g m ms false is begun rest =
    let test : int_lt ((r -ℤ pos 1) +ℤ pos 1) m.past ≡ false = sym (meets_is m.first m.past r begun) ∙ is in
    let whole = sum_by-cons (if_on (r -ℤ pos 1) g) m ms in
    rw (whole, is, test) (omega (arith, rest))

met_sum : (r : ℤ) (g : Entry → ℕ) (ms : List Entry) → All (λ m. m.first ≤ℤ (r -ℤ pos 1)) ms
    → sum_by (if_on (r -ℤ pos 1) g) ms ≡ sum_by g (filter (meets_row r) ms)
met_sum r g [] begun = refl
met_sum r g (m ∷ ms) begun =
    met_sum_at r g m ms (meets_row r m) refl (begun 0 m (omega arith)) (met_sum r g ms (λ k d below. begun (suc k) d (omega arith)))

pub same_met : (es : List Edge) (f : Frame) (r : ℤ) (ms : List Entry) (n : ℕ) (ws : List Walk) → AreWalked es f (r -ℤ pos 1) ms n ws → (g : Entry → ℕ)
    → sum_by g (map (λ (w : Walk). w.entry) ws) ≡ sum_by g (filter (meets_row r) (take n ms))
same_met es f r ms n ws are g = sum_of_entries g ws ∙ are.sums g ∙ met_sum r g (take n ms) are.first

unmet_off : (first past r : ℤ) (k : ℕ) → first ≤ℤ r → (int_le first r && int_lt r past) ≡ false → (if int_lt (r +ℤ pos 1) past then k else 0) ≡ 0
unmet_off first past r k begun off = grind (arith, ints)

pub still_walked : (es : List Edge) (f : Frame) (r : ℤ) (ms : List Entry) (n : ℕ) (ws vs : List Walk) → AreWalked es f (r -ℤ pos 1) ms n ws
    → ((g : Entry → ℕ) → sum_by (λ w. g w.entry) vs ≡ sum_by (if_on r g) (map (λ (w : Walk). w.entry) ws))
    → All (IsWalkAt es f r) vs → All (λ w. (r +ℤ pos 1) <ℤ w.entry.past) vs → AreWalked es f r ms n vs
still_walked es f r ms n ws vs are sums walks on =
    let first : All (λ (m : Entry). m.first ≤ℤ r) (take n ms) = λ k d below. let one = are.first k d below in omega (arith, ints, one) in
    record {
      within = are.within;
      first = first;
      sums = λ g. sums g ∙ same_met es f r ms n ws are (if_on r g)
          ∙ sum_kept (if_on r g) (meets_row r) (take n ms)
          (λ k d below. λ off. unmet_off (get_or (take n ms) k d).first (get_or (take n ms) k d).past r (g (get_or (take n ms) k d)) (first k d below) off);
      walks = walks;
      on = on;
    }

-- no entry has begun
pub none_walked : (es : List Edge) (f : Frame) (r : ℤ) (ms : List Entry) → AreWalked es f r ms 0 []
none_walked es f r ms = record {
  within = omega arith;
  first = λ k d below. absurd (omega arith);
  sums = λ g. refl;
  walks = λ k d below. absurd (omega arith);
  on = λ k d below. absurd (omega arith);
}

-- walks in another order
pub walks_permuted : (es : List Edge) (f : Frame) (r : ℤ) (ms : List Entry) (n : ℕ) (ws vs : List Walk) → AreWalked es f r ms n ws → IsPermutation ws vs
    → AreWalked es f r ms n vs
walks_permuted es f r ms n ws vs are same = record {
  within = are.within;
  first = are.first;
  sums = λ g. sum_by-IsPermutation (λ (w : Walk). g w.entry) ws vs same ∙ are.sums g;
  walks = All-permutation (IsWalkAt es f r) ws vs same are.walks;
  on = All-permutation (λ (w : Walk). (r +ℤ pos 1) <ℤ w.entry.past) ws vs same are.on;
}

-- no more walks than edges

pub few_there : (es : List Edge) (f : Frame) (r : ℤ) (ms : List Entry) (n : ℕ) (ws : List Walk) → AreWalked es f (r -ℤ pos 1) ms n ws
    → IsTableOf es f ms → pos 0 ≤ℤ r → r <ℤ pos f.height → length ws ≤ length es
few_there es f r ms n ws are table low high =
    let same = same_length (map (λ (w : Walk). w.entry) ws) (filter (meets_row r) (take n ms)) (same_met es f r ms n ws are) in
    let long = length-map ws (λ (w : Walk). w.entry) in
    let part = few_met r ms n in
    let most = few_stand es f r (filter (meets_row r) ms) (stand es f ms r table low high) in
    omega (arith, same, long, part, most)

pub met_length : (es : List Edge) (f : Frame) (r : ℤ) (ms : List Entry) (n : ℕ) (ws : List Walk) → AreWalked es f (r -ℤ pos 1) ms n ws
    → length ws ≡ length (filter (meets_row r) (take n ms))
met_length es f r ms n ws are =
    sym (length-map ws (λ (w : Walk). w.entry)) ∙ same_length (map (λ (w : Walk). w.entry) ws) (filter (meets_row r) (take n ms)) (same_met es f r ms n ws are)

-- the edge table of a tape between two calls

not_both : (b : Bool) → b ≡ false → b ≡ true → ◌≡◌ {A = Bool} true false
not_both b off on = sym on ∙ off

true_false : ◌≡◌ {A = Bool} true false → {P : Type 0} → P
true_false same = absurd (cc)

pub ready_unsorted : (es : List Edge) (f : Frame) (t : EdgeTable) → IsTableOf es f t.entries.items → HasRoom t → t.sorted ≡ false → IsReady es f t
ready_unsorted es f t table room off = record {
  table = table;
  room = room;
  walked = λ on. true_false (not_both t.sorted off on);
  order = λ on. true_false (not_both t.sorted off on);
}

pub ready_kept : (es : List Edge) (f : Frame) (t u : EdgeTable) → IsReady es f t → u.entries.items ≡ t.entries.items → IsPermutation t.walks.items u.walks.items
    → vec_capacity t.walks ≤ vec_capacity u.walks → u.long ≡ t.long → u.begun ≡ t.begun → u.row ≡ t.row → u.sorted ≡ t.sorted → IsReady es f u
ready_kept es f t u are entries walks capacity long begun row sorted =
    let room = are.room.room in
    record {
      table = rw entries are.table;
      room = record { long = rw (long, entries) are.room.long; room = omega (arith, long, room, capacity) };
      walked = λ on. rw (row, entries, begun) (walks_permuted es f t.row t.entries.items t.begun t.walks.items u.walks.items (are.walked (sym sorted ∙ on)) walks);
      order = λ on. rw entries (are.order (sym sorted ∙ on));
    }

pub empty_table : (f : Frame) → IsTableOf [] f []
empty_table f = record {
  numbers = λ k d below. absurd (omega arith);
  rows = λ k d below. absurd (omega arith);
  sums = λ g none. refl;
}
