-- A contour is closed if its edges lead each to the next, and the last to the first.
use Rattle.std.proofs.Common.{◌≡◌, ℕ, zero, suc, ◌+◌, ◌-◌, ◌<◌, true, ◌&&◌, List, [], ◌∷◌, get_or, drop, length, arith}
use Rattle.std.specs.Prelude.{All}
use Rattle.std.specs.List.{slice_range}
use Rattle.std.specs.Ordering.{int_eq}
use Rattle.std.proofs.lemmas.List.{drop_more}
use Rattle.std.proofs.lemmas.List.Elements.{All-cons}
use Rattle.tt_scan.specs.Contours.{GoesRound, IsClosed, Meets, contours_from}
use Rattle.tt_scan_edges.specs.declared.edge.Edge.{Edge}
use Rattle.tt_scan_gaps.proofs.Tests.{both, eq_of}

pub meets : (e f : Edge) → (int_eq e.bx f.ax && int_eq e.by f.ay) ≡ true → Meets e f
meets e f is =
    let two = both (int_eq e.bx f.ax) (int_eq e.by f.ay) is in (eq_of e.bx f.ax two.0, eq_of e.by f.ay two.1)

goes_round : (e : Edge) (es : List Edge) (first d : Edge)
    → ((k : ℕ) → k < length es → Meets (get_or (e ∷ es) k d) (get_or es k d))
    → Meets (get_or (e ∷ es) (length es) d) first → GoesRound e es first
goes_round e [] first d each last = last
goes_round e (f ∷ es) first d each last =
    (each zero (omega arith), goes_round f es first d (λ k less. each (suc k) (omega (arith, less))) last)

pub closed_by : (es : List Edge) (d : Edge) → 0 < length es
    → ((k : ℕ) (d : Edge) → k + 1 < length es → Meets (get_or es k d) (get_or es (k + 1) d))
    → Meets (get_or es (length es - 1) d) (get_or es 0 d) → IsClosed es
closed_by [] d some each last = absurd (omega (arith, some))
closed_by (e ∷ es) d some each last =
    let before : suc (length es) - 1 ≡ length es = omega arith in
    goes_round e es e d (λ k less.
    let next : k + 1 ≡ suc k = omega arith in
    rw next at (each k d (omega (arith, less)))) (rw before at last)

-- one contour more
pub one_more : (from : ℕ) (es : List Edge) (ends : List ℕ) (i d : ℕ) → i < length ends
    → IsClosed (slice_range es from (get_or ends i d))
    → All IsClosed (contours_from (get_or ends i d) es (drop (i + 1) ends))
    → All IsClosed (contours_from from es (drop i ends))
one_more from es ends i d within closed rest =
    rw (drop_more ends i d within) (All-cons IsClosed (slice_range es from (get_or ends i d))
    (contours_from (get_or ends i d) es (drop (i + 1) ends)) closed rest)
