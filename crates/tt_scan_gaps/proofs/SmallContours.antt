-- Contours that need a pixel, and boxes of contours.
use Rattle.std.proofs.Common.{◌≡◌, refl, sym, ◌∙◌, ap, ap₂, ℕ, suc, ◌+◌, ◌-◌, ◌<◌, ◌≤◌, Bool, true, false, not, ◌&&◌, ◌||◌, List, [], ◌∷◌, ◌++◌, map, length, drop, get_or, Option, Some, None, arith}
use Rattle.std.specs.Prelude.{ℤ, pos, ◌+ℤ◌, ◌-ℤ◌, ◌≤ℤ◌, ◌<ℤ◌, int_le, int_lt}
use Rattle.std.specs.Int.{int_max, int_min}
use Rattle.std.specs.List.{flat_map, range_with_len}
use Rattle.std.specs.Ordering.{int_eq}
use Rattle.std.proofs.lemmas.Int.{by_lt_z, clamps, ints}
use Rattle.std.proofs.lemmas.List.{at_drop_all, drop_more, get_or_default}
use Rattle.tt_scan_edges.specs.declared.edge.Edge.{Edge}
use Rattle.tt_scan_gaps.specs.Boxes.{columns_between, columns_in, greatest_x, least_x, rows_in}
use Rattle.tt_scan_gaps.specs.Crossings.{gap_at, line_from}
use Rattle.tt_scan_gaps.specs.Dots.{are_two, asks, asks_by_rows, ends_box, has_dot_box, is_boxed_as_dot, is_dot, is_dot_box, is_dot_in, is_middle, longer, middle, shorter}
use Rattle.tt_scan_gaps.specs.Gaps.{some_asks}
use Rattle.tt_scan_gaps.specs.Seen.{turned_round}
use Rattle.tt_scan_gaps.specs.Walk.{edge_marks, is_of_stub, step_marks, walk_marks}
use Rattle.tt_scan_gaps.specs.declared.extent.Extent.{Extent}
use Rattle.tt_scan_gaps.specs.declared.extent.Extents.{Extents}
use Rattle.tt_scan_gaps.specs.declared.mark.Crossing.{Crossing}
use Rattle.tt_scan_gaps.specs.declared.mark.Mark.{Mark}
use Rattle.tt_scan_gaps.specs.declared.mark.Step.{Step}
use Rattle.tt_scan_gaps.specs.declared.mark.Step.TheVariants as step
use Rattle.tt_scan_gaps.proofs.Boxes.{greatest_over, greatest_over_turned, least_over, least_over_turned}
use Rattle.tt_scan_gaps.proofs.Lines.{floor_high, floor_low}

-- marks of lists one after another

asks_append : (ms ns : List Mark) → some_asks (ms ++ ns) ≡ (some_asks ms || some_asks ns)
asks_append [] ns = refl
asks_append (m ∷ ms) ns = regroup m.asks (some_asks ms) (some_asks ns) (some_asks (ms ++ ns)) (asks_append ms ns) where
  regroup : (a b c d : Bool) → d ≡ (b || c) → (a || d) ≡ ((a || b) || c)
  regroup true b c d is = refl
  regroup false b c d is = is

or_false : (a : Bool) → (a || false) ≡ a
or_false true = refl
or_false false = refl

-- a crossing as a step of a walk
pub asks_at_cross : (w : List Step) (k : ℕ) (q : Crossing) (d : Step) → k < length w → get_or w k d ≡ step.Cross q
    → some_asks (step_marks w k) ≡ not (is_of_stub w k q)
asks_at_cross w k q d within is =
    rw (get_or_default w k (step.End (pos 0)) d within, is) (or_false (not (is_of_stub w k q)))

-- the steps of a walk from one on
pub steps_from : (w : List Step) (k : ℕ) → k < length w
    → some_asks (flat_map (step_marks w) (range_with_len k (length w - k)))
    ≡ (some_asks (step_marks w k) || some_asks (flat_map (step_marks w) (range_with_len (k + 1) (length w - (k + 1)))))
steps_from w k below =
    let on : length w - k ≡ suc (length w - (k + 1)) = omega (arith, below) in
    rw on (asks_append (step_marks w k) (flat_map (step_marks w) (range_with_len (k + 1) (length w - (k + 1)))))

pub all_steps : (w : List Step)
    → some_asks (flat_map (step_marks w) (range_with_len 0 (length w - 0))) ≡ some_asks (walk_marks w)
all_steps w = let whole : length w - 0 ≡ length w = omega arith in rw whole refl

pub no_steps : (w : List Step) (k : ℕ) → length w ≤ k
    → some_asks (flat_map (step_marks w) (range_with_len k (length w - k))) ≡ false
no_steps w k over = let none : length w - k ≡ 0 = omega (arith, over) in rw none refl

-- several tests: one that holds decides, and one that does not leaves the other

pub one_holds : (a b total : Bool) → a ≡ true → (a || b) ≡ total → true ≡ total
one_holds true b total holds is = is
one_holds false b total holds is = absurd cc

pub other_left : (a b total : Bool) → a ≡ false → (a || b) ≡ total → b ≡ total
other_left true b total fails is = absurd cc
other_left false b total fails is = is

first_fails : (a b c : Bool) → a ≡ false → ((a && b) && c) ≡ false
first_fails true b c fails = absurd cc
first_fails false b c fails = refl

second_fails : (a b c : Bool) → b ≡ false → ((a && b) && c) ≡ false
second_fails true true c fails = absurd cc
second_fails true false c fails = refl
second_fails false b c fails = refl

pub last_of_four : (a b c d : Bool) → a ≡ true → b ≡ true → c ≡ true → d ≡ ((a && b) && (c && d))
last_of_four true true true d p q r = refl
last_of_four true true false d p q r = absurd cc
last_of_four true false c d p q r = absurd cc
last_of_four false b c d p q r = absurd cc

none_with : (a b : Bool) → b ≡ false → (a && b) ≡ false
none_with true b fails = fails
none_with false b fails = refl

-- the edges of a contour from one on
pub edges_from : (es : List Edge) (i : ℕ) (d : Edge) → i < length es
    → some_asks (flat_map edge_marks (drop i es))
    ≡ (some_asks (edge_marks (get_or es i d)) || some_asks (flat_map edge_marks (drop (i + 1) es)))
edges_from es i d below =
    ap (λ rest. some_asks (flat_map edge_marks rest)) (drop_more es i d below)
    ∙ asks_append (edge_marks (get_or es i d)) (flat_map edge_marks (drop (i + 1) es))

pub no_edges_left : (es : List Edge) (i : ℕ) → length es ≤ i → some_asks (flat_map edge_marks (drop i es)) ≡ false
no_edges_left es i over = at_drop_all (λ rest. some_asks (flat_map edge_marks rest)) es i over

-- no crossing of rows needs a pixel
pub asks_by_columns : (stubs : Bool) (es ts : List Edge) (r : Bool) → asks_by_rows stubs es ≡ false
    → ts ≡ map turned_round es → r ≡ asks_by_rows stubs ts → r ≡ asks stubs es
asks_by_columns stubs es ts r none turned is =
    is ∙ ap (λ us. asks_by_rows stubs us) turned
    ∙ other_left (asks_by_rows stubs es) (asks_by_rows stubs (map turned_round es)) (asks stubs es) none refl

-- the extents of edges

least_first : (x : ℤ) (es : List Edge) → least_x x es ≤ℤ x
least_first x [] = omega (arith, ints)
least_first x (e ∷ es) = let rest = least_first (int_min x (int_min e.ax e.bx)) es in omega (arith, ints, clamps, rest)

greatest_first : (x : ℤ) (es : List Edge) → x ≤ℤ greatest_x x es
greatest_first x [] = omega (arith, ints)
greatest_first x (e ∷ es) = let rest = greatest_first (int_max x (int_max e.ax e.bx)) es in omega (arith, ints, clamps, rest)

-- the box of edges, by the first of them
abbrev box_by : List Edge → Edge → Extents
box_by es d = record {
  across = record { low = least_x (get_or es 0 d).ax es; high = greatest_x (get_or es 0 d).ax es };
  up = record { low = least_x (get_or es 0 d).ay (map turned_round es); high = greatest_x (get_or es 0 d).ay (map turned_round es) };
}

first_box : (es : List Edge) (d : Edge) → 0 < length es → ends_box es ≡ Some (box_by es d)
first_box [] d some = absurd (omega (arith, some))
first_box (e ∷ es) d some = refl

-- extents of the first edges: with those from edge i on they lead to the box
pub record LeadsTo (es : List Edge) (d : Edge) (i : ℕ) (across up : Extent) : Type 0 where
  pub left : least_x across.low (drop i es) ≡ least_x (get_or es 0 d).ax es
  pub right : greatest_x across.high (drop i es) ≡ greatest_x (get_or es 0 d).ax es
  pub bottom : least_x up.low (map turned_round (drop i es)) ≡ least_x (get_or es 0 d).ay (map turned_round es)
  pub top : greatest_x up.high (map turned_round (drop i es)) ≡ greatest_x (get_or es 0 d).ay (map turned_round es)

-- one extent is another and the two ends of an edge
pub record IsWith (a b : ℤ) (old new : Extent) : Type 0 where
  pub low : new.low ≡ int_min old.low (int_min a b)
  pub high : new.high ≡ int_max old.high (int_max a b)

pub one_edge_on : (es : List Edge) (d : Edge) (i : ℕ) (across up wide tall : Extent) → i < length es
    → LeadsTo es d i across up → IsWith (get_or es i d).ax (get_or es i d).bx across wide
    → IsWith (get_or es i d).ay (get_or es i d).by up tall → LeadsTo es d (i + 1) wide tall
one_edge_on es d i across up wide tall below so_far a u = record {
  left = rw a.low (sym (least_over across.low es i d below) ∙ so_far.left);
  right = rw a.high (sym (greatest_over across.high es i d below) ∙ so_far.right);
  bottom = rw u.low (sym (least_over_turned up.low es i d below) ∙ so_far.bottom);
  top = rw u.high (sym (greatest_over_turned up.high es i d below) ∙ so_far.top);
}

-- whether a box is that of a dot

is_boxed : (es : List Edge) (b : Extents) (is : Bool) → ends_box es ≡ Some b → is_dot_box b ≡ is → has_dot_box es ≡ is
is_boxed es b is boxed box = rw boxed box

in_order : (a b : ℤ) → (a +ℤ pos 2) ≤ℤ b → int_le a b ≡ true
in_order a b apart = grind (arith, ints)

three_at_least : (a b : ℤ) → (a +ℤ pos 2) ≤ℤ b → int_le (b -ℤ a) (pos 1) ≡ false
three_at_least a b apart = grind (arith, ints)

-- an extent of more than three pixels has more than two columns
too_wide : (low high : ℤ) → (low +ℤ pos 24576) <ℤ high → are_two (columns_between low high) ≡ false
too_wide low high long =
    let l_low = floor_low (low +ℤ pos 4095) in
    let l_high = floor_high (low +ℤ pos 4095) in
    let h_low = floor_low (high -ℤ pos 4096) in
    let h_high = floor_high (high -ℤ pos 4096) in
    let many : (line_from low +ℤ pos 2) ≤ℤ gap_at high = omega (arith, ints, long) in
    rw (in_order (line_from low) (gap_at high) many) (three_at_least (line_from low) (gap_at high) many)

exceeds : (n : ℤ) → int_lt (pos 24576) n ≡ true → pos 24576 <ℤ n
exceeds n is = grind (arith, ints)

-- a box that holds one that is too long
not_that_of_a_dot : (b f : Extents) → f.across.low ≤ℤ b.across.low → b.across.high ≤ℤ f.across.high → f.up.low ≤ℤ b.up.low
    → b.up.high ≤ℤ f.up.high → int_lt (pos 24576) (longer b) ≡ true → is_dot_box f ≡ false
not_that_of_a_dot b f left right bottom top long =
    let most = exceeds (longer b) long in
    by_lt_z (f.across.low +ℤ pos 24576) f.across.high
    (λ wide. first_fails (are_two (columns_in f)) (are_two (rows_in f)) (int_le (pos 3072) (longer f) && int_le (pos 1024) (shorter f))
    (too_wide f.across.low f.across.high wide))
    (λ narrow. second_fails (are_two (columns_in f)) (are_two (rows_in f)) (int_le (pos 3072) (longer f) && int_le (pos 1024) (shorter f))
    (too_wide f.up.low f.up.high (omega (arith, ints, clamps, most, narrow, left, right, bottom, top))))

pub no_box_of_a_dot : (es : List Edge) (d : Edge) (i : ℕ) (across up : Extent) → 0 < length es → LeadsTo es d i across up
    → int_lt (pos 24576) (longer (record { across = across; up = up })) ≡ true → has_dot_box es ≡ false
no_box_of_a_dot es d i across up some so_far long =
    let left : least_x (get_or es 0 d).ax es ≤ℤ across.low = rw so_far.left at (least_first across.low (drop i es)) in
    let right : across.high ≤ℤ greatest_x (get_or es 0 d).ax es = rw so_far.right at (greatest_first across.high (drop i es)) in
    let bottom : least_x (get_or es 0 d).ay (map turned_round es) ≤ℤ up.low =
    rw so_far.bottom at (least_first up.low (map turned_round (drop i es))) in
    let top : up.high ≤ℤ greatest_x (get_or es 0 d).ay (map turned_round es) =
    rw so_far.top at (greatest_first up.high (map turned_round (drop i es))) in
    is_boxed es (box_by es d) false (first_box es d some)
    (not_that_of_a_dot (record { across = across; up = up }) (box_by es d) left right bottom top long)

-- whether a contour is a dot

none_boxed : (box : Option Extents) (asking : Bool) (c j : ℤ) → is_boxed_as_dot box ≡ false → is_dot_in box asking c j ≡ false
none_boxed None asking c j none = refl
none_boxed (Some b) asking c j none = rw none refl

pub no_dot_of_such_a_box : (stubs : Bool) (es : List Edge) (c j : ℤ) → has_dot_box es ≡ false → is_dot stubs es c j ≡ false
unfolding is_dot
no_dot_of_such_a_box stubs es c j none = none_boxed (ends_box es) (asks stubs es) c j none

none_asking : (box : Option Extents) (asking : Bool) (c j : ℤ) → asking ≡ true → is_dot_in box asking c j ≡ false
none_asking None asking c j some = refl
none_asking (Some b) asking c j some = none_with (is_dot_box b) (not asking && is_middle b c j) (rw some refl)

pub no_dot_where_some_asks : (stubs : Bool) (es : List Edge) (c j : ℤ) → asks stubs es ≡ true → is_dot stubs es c j ≡ false
unfolding is_dot
no_dot_where_some_asks stubs es c j some = none_asking (ends_box es) (asks stubs es) c j some

pub dot_of_box : (stubs : Bool) (es : List Edge) (b : Extents) → ends_box es ≡ Some b → is_dot_box b ≡ true
    → asks stubs es ≡ false → (c j : ℤ) → is_dot stubs es c j ≡ (int_eq (middle b.across) c && int_eq (middle b.up) j)
unfolding is_dot
dot_of_box stubs es b boxed small none c j =
    ap₂ (λ o asking. is_dot_in o asking c j) boxed none ∙ ap (λ s. s && is_middle b c j) small
