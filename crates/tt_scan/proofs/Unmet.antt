-- Edges that a row does not meet, and the rows of all edges, one more at a time.
use Rattle.std.proofs.Common.{◌≡◌, ◌∙◌, ℕ, ◌+◌, ◌<◌, Bool, true, false, List, [], ◌∷◌, ◌++◌, ℤ, pos, ◌-ℤ◌, ◌≤ℤ◌, ◌<ℤ◌, ◌⊎◌, inl, inr, if◌then◌else◌, refl, arith}
use Rattle.std.proofs.lemmas.Int.{ints}
use Rattle.tt_scan_edges.specs.declared.edge.Edge.{Edge}
use Rattle.tt_scan_edges.specs.declared.edge.Frame.{Frame}
use Rattle.tt_scan_edges.specs.Crossing.{AreRows, AreAllRows, has_row}
use Rattle.tt_scan_edges.specs.Winding.{row_y, side, is_zero, is_between, lies_on_one, winding, is_black, rows_met}
use Rattle.tt_scan_edges.proofs.Crosses.{third_false, no_turned}

-- a row that meets no edge is blank

first_unmet : (b : Bool) (n : ℕ) → (if b then 1 else 0) + n ≡ 0 → b ≡ false
first_unmet true n none = absurd (omega arith)
first_unmet false n none = refl

pub unmet_on : (es : List Edge) (x y : ℤ) → rows_met es y ≡ 0 → lies_on_one es x y ≡ false
unmet_on [] x y none = refl
unmet_on (e ∷ es) x y none =
    let off = first_unmet (is_between e.ay e.by y) (rows_met es y) none in
    rw (third_false (is_zero (side e x y)) (is_between e.ax e.bx x) (is_between e.ay e.by y) off) (unmet_on es x y (omega arith))

pub unmet_winding : (es : List Edge) (x y : ℤ) → rows_met es y ≡ 0 → winding es x y ≡ pos 0
unmet_winding [] x y none = refl
unmet_winding (e ∷ es) x y none =
    let off = first_unmet (is_between e.ay e.by y) (rows_met es y) none in
    rw (no_turned e.ay e.by y (side e x y) off, unmet_winding es x y (omega arith)) refl

pub unmet_blank : (es : List Edge) (x y : ℤ) → rows_met es y ≡ 0 → is_black es x y ≡ false
unmet_blank es x y none = rw (unmet_on es x y none, unmet_winding es x y none) refl

-- one edge more

rows_push : (es : List Edge) (e : Edge) (y : ℤ) → rows_met (es ++ e ∷ []) y ≡ rows_met es y + (if is_between e.ay e.by y then 1 else 0)
rows_push [] e y = omega arith
rows_push (d ∷ es) e y = let more = rows_push es e y in omega arith

some_more : (b : Bool) (m n : ℕ) → n ≡ m + (if b then 1 else 0) → b ≡ true → 0 < n
some_more true m n is met = omega arith
some_more false m n is met = absurd (cc)

none_more : (b : Bool) (m n : ℕ) → n ≡ m + (if b then 1 else 0) → b ≡ false → m ≡ 0 → n ≡ 0
none_more true m n is off none = absurd (cc)
none_more false m n is off none = omega arith

not_in : (a b : Bool) → (a ≡ true → b ≡ true) → b ≡ false → a ≡ false
not_in true b f off = absurd (let one = f refl in cc)
not_in false b f off = refl

module _ (es : List Edge) (e : Edge) (f : Frame) (a q r : ℤ × ℤ) (all : AreAllRows es f a) (one : AreRows e f q) where
  met_at : (row : ℤ) → pos 0 ≤ℤ row → row <ℤ pos f.height → has_row q row ≡ true → 0 < rows_met (es ++ e ∷ []) (row_y f row)
  met_at row low high in_it =
      some_more (is_between e.ay e.by (row_y f row)) (rows_met es (row_y f row)) (rows_met (es ++ e ∷ []) (row_y f row))
      (rows_push es e (row_y f row)) (one.met row low high ∙ in_it)

  still_met : (row : ℤ) → 0 < rows_met es (row_y f row) → 0 < rows_met (es ++ e ∷ []) (row_y f row)
  still_met row some = let push = rows_push es e (row_y f row) in omega arith

  pub rows_joined : ((row : ℤ) → has_row a row ≡ true → has_row r row ≡ true) → ((row : ℤ) → has_row q row ≡ true → has_row r row ≡ true)
      → ((r.0 ≡ a.0) × (r.0 <ℤ r.1 → a.0 <ℤ a.1)) ⊎ ((r.0 ≡ q.0) × (q.0 <ℤ q.1))
      → ((r.1 ≡ a.1) × (r.0 <ℤ r.1 → a.0 <ℤ a.1)) ⊎ ((r.1 ≡ q.1) × (q.0 <ℤ q.1))
      → (a.0 ≤ℤ a.1 → r.0 ≤ℤ r.1) → AreAllRows (es ++ e ∷ []) f r
  rows_joined left right first last order = record {
    outside = λ row low high out.
        none_more (is_between e.ay e.by (row_y f row)) (rows_met es (row_y f row)) (rows_met (es ++ e ∷ []) (row_y f row))
        (rows_push es e (row_y f row)) (one.met row low high ∙ not_in (has_row q row) (has_row r row) (right row) out)
        (all.outside row low high (not_in (has_row a row) (has_row r row) (left row) out));
    low = elim first [
      | inl is ↦ rw is.0 all.low
      | inr is ↦ rw is.0 one.low
    ];
    order = order all.order;
    high = elim last [
      | inl is ↦ rw is.0 all.high
      | inr is ↦ rw is.0 one.high
    ];
    first = λ some. elim first [
      | inl is ↦ rw is.0 (still_met a.0 (all.first (is.1 some)))
      | inr is ↦ rw is.0 (met_at q.0 one.low (omega (arith, ints, is.1, one.high)) (grind (arith, ints, is.1)))
    ];
    last = λ some. elim last [
      | inl is ↦ rw is.0 (still_met (a.1 -ℤ pos 1) (all.last (is.1 some)))
      | inr is ↦ rw is.0 (met_at (q.1 -ℤ pos 1) (omega (arith, ints, is.1, one.low)) (omega (arith, ints, one.high)) (grind (arith, ints, is.1)))
    ];
  }
