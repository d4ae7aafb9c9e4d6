-- Gaps between the centre lines of rows, and edges inside one gap: no row meets them.
use Rattle.std.proofs.Common.{◌≡◌, ◌∙◌, ℕ, ◌+◌, ◌<◌, ◌≤◌, ◌^◌, length, take, get_or, All, SFits, w32, true, false, ◌&&◌, List, [], ◌∷◌, ◌++◌, inl, ℤ, pos, ◌+ℤ◌, ◌-ℤ◌, ◌*ℤ◌, ◌≤ℤ◌, ◌<ℤ◌, refl, sym, arith, append-nil}
use Rattle.std.specs.Prelude.{int_lt, unsigned_abs}
use Rattle.std.proofs.lemmas.Int.{ints, by_lt_z}
use Rattle.std.proofs.lemmas.List.{take_all, take_more, length-take}
use Rattle.tt_scan_edges.specs.declared.edge.Edge.{Edge}
use Rattle.tt_scan_edges.specs.declared.edge.Frame.{Frame}
use Rattle.tt_scan_edges.specs.declared.entry.Entry.{Entry}
use Rattle.tt_scan.specs.declared.rows.Gap.{Gap}
use Rattle.tt_scan_edges.specs.Crossing.{AreRows, has_row}
use Rattle.tt_scan.specs.EdgeList.{IsGapAt, AreEntered, is_in}
use Rattle.tt_scan.specs.EdgeTable.{IsTableOf, IsUnmet}
use Rattle.tt_scan_edges.specs.Winding.{EdgeFits, row_y, is_between}
use Rattle.tt_scan_edges.proofs.Ranges.{none_at}
use Rattle.tt_scan.proofs.Standing.{entry_pushed}
use Rattle.tt_scan.proofs.Unmet.{rows_joined}

abbrev pub nothing : Edge
nothing = record { ax = pos 0; ay = pos 0; bx = pos 0; by = pos 0 }

pub none_in : (low high j k : ℤ) → low ≡ (pos 8192 *ℤ j) -ℤ pos 4096 → high ≤ℤ (low +ℤ pos 8192)
    → (int_lt low (pos 8192 *ℤ k -ℤ pos 4096) && int_lt (pos 8192 *ℤ k -ℤ pos 4096) high) ≡ false
none_in low high j k is over =
    by_lt_z j k
    (λ less. let after : high ≤ℤ (pos 8192 *ℤ k -ℤ pos 4096) = omega (arith, ints) in grind (arith, ints))
    (λ more. let under : (pos 8192 *ℤ k -ℤ pos 4096) ≤ℤ low = omega (arith, ints) in grind (arith, ints))

pub gap_above : (y j low : ℤ) → low ≡ (pos 8192 *ℤ j) -ℤ pos 4096
    → (y +ℤ pos 4096) <ℤ (pos 8192 *ℤ (j +ℤ pos 1)) → int_lt low y ≡ true → IsGapAt y (record { low = low; high = low +ℤ pos 8192 })
gap_above y j low is floor above =
    let over : low <ℤ y = grind (arith, ints) in record {
      none = λ k. none_in low (low +ℤ pos 8192) j k is (omega (arith, ints));
      low = λ _. over;
      high = λ _. omega (arith, ints);
    }

pub no_gap : (y low : ℤ) → IsGapAt y (record { low = low; high = low })
no_gap y low = record {
  none = λ k. grind (arith, ints);
  low = λ some. absurd (omega (arith, ints));
  high = λ some. absurd (omega (arith, ints));
}

pub record LineFits (j : ℤ) : Type 0 where
  pub times : SFits w32 (pos 8192 *ℤ j)
  pub low : SFits w32 ((pos 8192 *ℤ j) -ℤ pos 4096)
  pub high : SFits w32 (((pos 8192 *ℤ j) -ℤ pos 4096) +ℤ pos 8192)

pub line_fits : (y j : ℤ) → unsigned_abs y < 2 ^ 30 → (pos 8192 *ℤ j) ≤ℤ (y +ℤ pos 4096)
    → (y +ℤ pos 4096) <ℤ (pos 8192 *ℤ (j +ℤ pos 1)) → LineFits j
line_fits y j small under over =
    let low : (y -ℤ pos 4096) ≤ℤ (pos 8192 *ℤ j) = omega (arith, ints) in
    let far : unsigned_abs (pos 8192 *ℤ j) < 2 ^ 31 = omega (arith, ints) in
    record { times = omega (arith, ints); low = omega (arith, ints); high = omega (arith, ints) }

inside : (g : Gap) (z : ℤ) → is_in g z ≡ true → (g.low <ℤ z) × (z <ℤ g.high)
inside g z within = (grind (arith, ints), grind (arith, ints))

-- another height in the same gap
pub still_in : (g : Gap) (y z : ℤ) → IsGapAt y g → is_in g z ≡ true → IsGapAt z g
still_in g y z at within =
    let both = inside g z within in record {
      none = at.none;
      low = λ _. both.0;
      high = λ _. both.1;
    }

between : (low high a b z : ℤ) → low <ℤ a → a <ℤ high → low <ℤ b → b <ℤ high → (int_lt low z && int_lt z high) ≡ false
    → is_between a b z ≡ false
between low high a b z a_low a_high b_low b_high none = grind (arith, ints)

-- an edge that begins in a gap and ends there
pub unmet_in : (f : Frame) (e : Edge) (g : Gap) → IsGapAt e.ay g → is_in g e.by ≡ true → IsUnmet f e
unmet_in f e g at within row low high =
    let both = inside g e.by within in
    let some : g.low <ℤ g.high = omega (arith, ints, both.0, both.1) in
    between g.low g.high e.ay e.by (row_y f row) (at.low some) (at.high some) both.0 both.1
    (at.none ((f.rise +ℤ pos f.margin) -ℤ row))

no_rows : (f : Frame) (e : Edge) → IsUnmet f e → AreRows e f (pos 0, pos 0)
no_rows f e unmet = record {
  met = λ row low high. unmet row low high ∙ none_at row low;
  low = omega (arith, ints);
  order = omega (arith, ints);
  high = omega (arith, ints);
}

none_of_none : (row : ℤ) → has_row (pos 0, pos 0) row ≡ true → int_lt (pos 0) (pos 0) ≡ true
none_of_none row within = absurd (grind (arith, ints))

-- one edge more that no row meets: it has no entry
pub unmet_entered : (es : List Edge) (e : Edge) (f : Frame) (r : ℤ × ℤ) (ms : List Entry)
    → AreEntered es f r ms → IsUnmet f e → AreEntered (es ++ e ∷ []) f r ms
unmet_entered es e f r ms are unmet =
    let none = no_rows f e unmet in record {
      rows = rows_joined es e f r (pos 0, pos 0) r are.rows none (λ row has. has)
          (λ row has. absurd (let never = none_of_none row has in grind (arith, ints)))
          (inl (refl, λ some. some)) (inl (refl, λ some. some)) (λ order. order);
      table = entry_pushed es f ms ms e (pos 0, pos 0) are.table none (sym (append-nil ms));
    }

-- of the edges from the first on, one more
pub entered_next : (es : List Edge) (i : ℕ) (d : Edge) (f : Frame) (r : ℤ × ℤ) (ms : List Entry) → i < length es
    → AreEntered (take i es ++ get_or es i d ∷ []) f r ms → AreEntered (take (i + 1) es) f r ms
entered_next es i d f r ms below are = rw (take_more es i d below) are

pub taken : (es : List Edge) (i : ℕ) → i < length es → i ≡ length (take i es)
taken es i below = let long = length-take i es in omega arith

pub all_entered : (es : List Edge) (i : ℕ) (f : Frame) (r : ℤ × ℤ) (ms : List Entry) → length es ≤ i
    → AreEntered (take i es) f r ms → AreEntered es f r ms
all_entered es i f r ms past are = rw (take_all i es past) at are

pub none_entered : (f : Frame) (ms : List Entry) → IsTableOf [] f ms → AreEntered [] f (pos 0, pos 0) ms
none_entered f ms table = record {
  rows = record {
    outside = λ row low high out. refl;
    low = omega (arith, ints);
    order = omega (arith, ints);
    high = omega (arith, ints);
    first = λ some. absurd (omega (arith, ints));
    last = λ some. absurd (omega (arith, ints));
  };
  table = table;
}

-- the numbers of an edge
pub record EdgeIsWide (e : Edge) : Type 0 where
  pub ay : SFits w32 e.ay
  pub by : SFits w32 e.by

pub edge_is_wide : (e : Edge) → EdgeFits e → EdgeIsWide e
edge_is_wide e fits = record { ay = omega (arith, ints, fits.ay); by = omega (arith, ints, fits.by) }

-- an edge of a list that is lent under another name
pub record IsLent (es now : List Edge) (i : ℕ) : Type 0 where
  pub same : now ≡ es
  pub below : i < length es
  pub fits : EdgeFits (get_or es i nothing)

pub is_lent : (es made now : List Edge) (i n : ℕ) → made ≡ es → All EdgeFits now → now ≡ made → n ≡ length made → i < n
    → IsLent es now i
is_lent es made now i n is fit lent many less =
    let all : All EdgeFits es = rw (lent, is) at fit in
    let within : i < length es = rw (← is, ← many) less in
    record { same = lent ∙ is; below = within; fits = all i nothing within }
