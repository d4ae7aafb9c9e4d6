-- Where no edge rises through a free gap, no edge makes a mark in one: free gaps are crossed both ways or not at all.
use Rattle.std.proofs.Common.{◌≡◌, refl, sym, ap, ◌∙◌, ℕ, Bool, true, false, not, ◌&&◌, List, [], ◌∷◌, map, length, inl, inr, arith}
use Rattle.std.specs.Prelude.{ℤ, pos, ◌+ℤ◌, All}
use Rattle.std.specs.List.{list_any, range_with_len}
use Rattle.std.specs.Ordering.{int_eq}
use Rattle.std.proofs.lemmas.Bool.{cases_Bool, false≢true}
use Rattle.std.proofs.lemmas.Int.{ints}
use Rattle.std.proofs.lemmas.List.Elements.{All-cons, All-nil}
use Rattle.tt_scan.specs.Contours.{AreEnds, IsClosed, contours_at}
use Rattle.tt_scan_edges.specs.Winding.{is_black}
use Rattle.tt_scan_edges.specs.declared.edge.Edge.{Edge}
use Rattle.tt_scan_gaps.specs.BothWays.{NoneFreeBothWays, crosses_gap, goes_through, is_through}
use Rattle.tt_scan_gaps.specs.Crossings.{centre, crossing, crossings, is_rising, line_crossed, lines_crossed, touches}
use Rattle.tt_scan_gaps.specs.Gaps.{is_free}
use Rattle.tt_scan_gaps.specs.Seen.{turned_round}
use Rattle.tt_scan_gaps.specs.Walk.{is_in_free_gap, some_in_free_gap}
use Rattle.tt_scan_gaps.specs.declared.mark.Crossing.{Crossing}
use Rattle.tt_scan_gaps.proofs.Tests.{first_not, other_not}
use Rattle.tt_scan_dropouts.specs.Dropouts.{edges_of, is_inked, outline_turned}
use Rattle.tt_scan_dropouts.specs.Rising.{is_tested, rises_in_free_gap}
use Rattle.tt_scan_dropouts.proofs.BothWays.{free, rows_crossed}
use Rattle.tt_scan_dropouts.proofs.NoDropouts.{IsBalanced, nothing_free_by}
use Rattle.tt_scan_dropouts.proofs.Outlines.{edges_at, ends_turned, turned_at}
use Rattle.tt_scan_dropouts.proofs.TurnedWinding.{columns_crossed}

-- a crossing that lies in no free gap goes through no free gap
not_this : (black : ℤ → ℤ → Bool) (j c : ℤ) (q : Crossing) → is_free black c j ≡ true → is_free black q.gap q.line ≡ false
    → is_through true j c q ≡ false
not_this black j c q is not = elim (cases_Bool (is_through true j c q)) [
  | inl through ↦
      let line : q.line ≡ j = grind (arith, ints, through) in
      let gap : q.gap ≡ c = grind (arith, ints, through) in
      let off : is_free black c j ≡ false = rw (line, gap) at not in
      absurd (false≢true (sym off ∙ is))
  | inr other ↦ other
]

none_through : (black : ℤ → ℤ → Bool) (j c : ℤ) (qs : List Crossing) → is_free black c j ≡ true
    → some_in_free_gap black qs ≡ false → list_any (is_through true j c) qs ≡ false
none_through black j c [] is none = refl
none_through black j c (q ∷ qs) is none =
    let here = first_not (is_free black q.gap q.line) (some_in_free_gap black qs) none in
    rw (not_this black j c q is here)
    (none_through black j c qs is (other_not (is_free black q.gap q.line) (some_in_free_gap black qs) none))

-- an edge that does not rise has no crossing that does

never : (a b : Bool) → (a && b && false) ≡ false
never true true = refl
never true false = refl
never false b = refl

down : (j c : ℤ) (q : Crossing) → q.up ≡ false → is_through true j c q ≡ false
down j c q falls = rw falls (never (int_eq q.line j) (int_eq q.gap c))

none_falling : (e : Edge) (j c : ℤ) (ks : List ℕ) → is_rising e ≡ false
    → list_any (is_through true j c) (map (λ k. crossing e (line_crossed e k)) ks) ≡ false
none_falling e j c [] falls = refl
none_falling e j c (k ∷ ks) falls =
    rw (down j c (crossing e (line_crossed e k)) falls) (none_falling e j c ks falls)

other : (a b : Bool) → a ≡ true → (a && b) ≡ false → b ≡ false
other a b is none = rw is at none

none_up : (black : ℤ → ℤ → Bool) (j c : ℤ) (e : Edge) → is_free black c j ≡ true → rises_in_free_gap black e ≡ false
    → goes_through true j c e ≡ false
none_up black j c e is none = elim (cases_Bool (is_rising e)) [
  | inl rises ↦
      none_through black j c (crossings e) is (other (is_rising e) (some_in_free_gap black (crossings e)) rises none)
  | inr falls ↦ none_falling e j c (range_with_len 0 (lines_crossed e)) falls
]

none_rises : (black : ℤ → ℤ → Bool) (j c : ℤ) (es : List Edge) → is_free black c j ≡ true
    → list_any (rises_in_free_gap black) es ≡ false → crosses_gap true es j c ≡ false
none_rises black j c [] is none = refl
none_rises black j c (e ∷ es) is none =
    let here = first_not (rises_in_free_gap black e) (list_any (rises_in_free_gap black) es) none in
    rw (none_up black j c e is here)
    (none_rises black j c es is (other_not (rises_in_free_gap black e) (list_any (rises_in_free_gap black) es) none))

none_both_ways : (black : ℤ → ℤ → Bool) (es : List Edge) → list_any (rises_in_free_gap black) es ≡ false
    → NoneFreeBothWays black es
none_both_ways black es none j c two = elim (cases_Bool (is_free black c j)) [
  | inl is ↦
      let off : (crosses_gap true es j c && crosses_gap false es j c) ≡ false = rw (none_rises black j c es is none) refl in
      absurd (false≢true (sym off ∙ two))
  | inr not ↦ not
]

-- no edge makes a mark in a free gap, if none of those that are tested does

crossed_not : (stubs : Bool) (black : ℤ → ℤ → Bool) (es : List Edge) → list_any (is_tested stubs black) es ≡ false
    → list_any (rises_in_free_gap black) es ≡ false
crossed_not stubs black [] none = refl
crossed_not stubs black (e ∷ es) none =
    let here = first_not (is_tested stubs black e) (list_any (is_tested stubs black) es) none in
    rw (first_not (rises_in_free_gap black e) (stubs && some_in_free_gap black (touches e)) here)
    (crossed_not stubs black es (other_not (is_tested stubs black e) (list_any (is_tested stubs black) es) none))

touched_not : (stubs : Bool) (black : ℤ → ℤ → Bool) (es : List Edge) → list_any (is_tested stubs black) es ≡ false
    → All (λ e. (stubs && some_in_free_gap black (touches e)) ≡ false) es
touched_not stubs black [] none = All-nil (λ e. (stubs && some_in_free_gap black (touches e)) ≡ false)
touched_not stubs black (e ∷ es) none =
    let here = first_not (is_tested stubs black e) (list_any (is_tested stubs black) es) none in
    All-cons (λ e. (stubs && some_in_free_gap black (touches e)) ≡ false) e es
    (other_not (rises_in_free_gap black e) (stubs && some_in_free_gap black (touches e)) here)
    (touched_not stubs black es (other_not (is_tested stubs black e) (list_any (is_tested stubs black) es) none))

pub none_tested : (stubs : Bool) (black : ℤ → ℤ → Bool) (es : List Edge) → IsBalanced black es
    → list_any (is_tested stubs black) es ≡ false → list_any (is_in_free_gap stubs black) es ≡ false
none_tested stubs black es balanced none =
    nothing_free_by stubs black es balanced (none_both_ways black es (crossed_not stubs black es none)) (touched_not stubs black es none)

-- in a picture with all black pixels of an outline and more, free gaps are crossed both ways or not at all

pub rows_balanced : (black : ℤ → ℤ → Bool) (es : List Edge)
    → ((c j : ℤ) → black c j ≡ false → is_black es (centre c) (centre j) ≡ false) → IsBalanced black es
rows_balanced black es white c j is =
    let two = free black c j is in
    rows_crossed es c j (rw (white c j two.0, white (c +ℤ pos 1) j two.1) refl)

pub columns_balanced : (black : ℤ → ℤ → Bool) (es : List Edge) (ends : List ℕ) → AreEnds (length es) ends
    → All IsClosed (contours_at es ends)
    → ((c j : ℤ) → black c j ≡ false → is_black es (centre c) (centre j) ≡ false)
    → IsBalanced (λ p j. black j p) (map turned_round es)
columns_balanced black es ends fit closed white g l is =
    let contours = contours_at es ends in
    let turned = map turned_round es in
    let alike : contours_at turned ends ≡ outline_turned contours = turned_at es ends in
    let all : edges_of (outline_turned contours) ≡ turned =
    ap edges_of (sym alike) ∙ edges_at turned ends (ends_turned es ends fit) in
    let two = free (λ p j. black j p) g l is in
    let own : (c j : ℤ) → black c j ≡ false → is_inked contours c j ≡ false =
    λ c j out. ap (λ es. is_black es (centre c) (centre j)) (edges_at es ends fit) ∙ white c j out in
    let inked : is_free (λ j c. is_inked contours c j) g l ≡ true =
    rw (own l g two.0, own l (g +ℤ pos 1) two.1) refl in
    ap (λ es. crosses_gap true es l g) (sym all) ∙ columns_crossed contours l g closed inked
    ∙ ap (λ es. crosses_gap false es l g) all
