-- The columns that spans cover from several pens.
use Rattle.std.proofs.Common.{◌≡◌, refl, ℕ, zero, suc, ◌+◌, ◌-◌, ◌<◌, Bool, true, false, ◌&&◌, ◌||◌, List, [], ◌∷◌, ◌++◌, length, take, drop, slice_index, get_or, pos, ◌-ℤ◌, arith}
use Rattle.std.proofs.lemmas.List.{take_more, take_rest}
use Rattle.tt_scan_edges.specs.declared.mark.Span.{Span}
use Rattle.tt_scan_edges.specs.Marks.{covers, covers_from}
use Rattle.tt_scan_edges.proofs.Bools.{or_false, or_or}
use Rattle.tt_scan_edges.proofs.Visits.{covers_more}

joined : (old inside some one : Bool) → ((old || (inside && some)) || (inside && one)) ≡ (old || (inside && (some || one)))
joined true inside some one = refl
joined false true some one = refl
joined false false some one = refl

-- one pen more

from_one_more : (ss : List Span) (pens : List ℕ) (i k : ℕ) → i < length pens → covers_from ss (take (i + 1) pens) k
    ≡ (covers_from ss (take i pens) k || covers ss (pos k -ℤ pos (slice_index pens i)))
from_one_more ss [] i k below = absurd (omega arith)
from_one_more ss (p ∷ ps) zero k below = or_false (covers ss (pos k -ℤ pos p))
from_one_more ss (p ∷ ps) (suc i) k below =
    let next : suc i + 1 ≡ suc (i + 1) = omega arith in
    rw (next, from_one_more ss ps i k (omega arith))
    (or_or (covers ss (pos k -ℤ pos p)) (covers_from ss (take i ps) k) (covers ss (pos k -ℤ pos (slice_index ps i))))

pub one_pen_painted : (ss : List Span) (pens : List ℕ) (i k : ℕ) (old inside : Bool) → i < length pens
    → ((old || (inside && covers_from ss (take i pens) k)) || (inside && covers ss (pos k -ℤ pos (slice_index pens i))))
    ≡ (old || (inside && covers_from ss (take (i + 1) pens) k))
one_pen_painted ss pens i k old inside below = rw (from_one_more ss pens i k below)
    (joined old inside (covers_from ss (take i pens) k) (covers ss (pos k -ℤ pos (slice_index pens i))))

-- the pens up to some, and those from it on

from_split : (ss : List Span) (pens : List ℕ) (n k : ℕ) → covers_from ss pens k ≡ (covers_from ss (take n pens) k || covers_from ss (drop n pens) k)
from_split ss [] zero k = refl
from_split ss [] (suc n) k = refl
from_split ss (p ∷ ps) zero k = refl
from_split ss (p ∷ ps) (suc n) k =
    rw (from_split ss ps n k) (or_or (covers ss (pos k -ℤ pos p)) (covers_from ss (take n ps) k) (covers_from ss (drop n ps) k))

pub rest_painted : (ss : List Span) (pens : List ℕ) (n k : ℕ) (old inside : Bool)
    → ((old || (inside && covers_from ss (take n pens) k)) || (inside && covers_from ss (take (length pens - n) (drop n pens)) k))
    ≡ (old || (inside && covers_from ss pens k))
rest_painted ss pens n k old inside =
    rw (take_rest pens n, from_split ss pens n k) (joined old inside (covers_from ss (take n pens) k) (covers_from ss (drop n pens) k))

-- one span more

swapped : (a b c d : Bool) → ((a || b) || (c || d)) ≡ ((a || c) || (b || d))
swapped true b c d = refl
swapped false true true d = refl
swapped false true false d = refl
swapped false false c d = refl

from_more_spans : (ss : List Span) (s : Span) (pens : List ℕ) (k : ℕ)
    → covers_from (ss ++ s ∷ []) pens k ≡ (covers_from ss pens k || covers_from (s ∷ []) pens k)
from_more_spans ss s [] k = refl
from_more_spans ss s (p ∷ ps) k =
    let one : covers (ss ++ s ∷ []) (pos k -ℤ pos p) ≡ (covers ss (pos k -ℤ pos p) || covers (s ∷ []) (pos k -ℤ pos p)) =
    rw (covers_more ss s (pos k -ℤ pos p), covers_more [] s (pos k -ℤ pos p)) refl in
    rw (one, from_more_spans ss s ps k)
    (swapped (covers ss (pos k -ℤ pos p)) (covers (s ∷ []) (pos k -ℤ pos p)) (covers_from ss ps k) (covers_from (s ∷ []) ps k))

pub one_span_painted : (ss : List Span) (i : ℕ) (d : Span) (pens : List ℕ) (k : ℕ) (old inside : Bool) → i < length ss
    → ((old || (inside && covers_from (take i ss) pens k)) || (inside && covers_from (get_or ss i d ∷ []) pens k))
    ≡ (old || (inside && covers_from (take (i + 1) ss) pens k))
one_span_painted ss i d pens k old inside below =
    rw (take_more ss i d below, from_more_spans (take i ss) (get_or ss i d) pens k)
    (joined old inside (covers_from (take i ss) pens k) (covers_from (get_or ss i d ∷ []) pens k))

-- no column is covered from no pen, or by no span
pub none_painted : (old inside : Bool) → old ≡ (old || (inside && false))
none_painted true inside = refl
none_painted false true = refl
none_painted false false = refl

pub no_spans : (pens : List ℕ) (k : ℕ) → covers_from [] pens k ≡ false
no_spans [] k = refl
no_spans (p ∷ ps) k = no_spans ps k
