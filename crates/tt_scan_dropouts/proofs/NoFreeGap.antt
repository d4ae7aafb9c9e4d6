-- Where no edge makes a mark in a free gap, a pass adds nothing.
use Rattle.std.proofs.Common.{inl, inr, ◌≢◌, int_lt, ◌≡◌, refl, sym, ap, ap₂, ◌∙◌, ℕ, zero, suc, ◌+◌, ◌<◌, Bool, true, false, not, ◌&&◌, ◌||◌, List, [], ◌∷◌, ◌++◌, map, length, get_or, arith}
use Rattle.std.specs.Prelude.{ℤ, pos, ◌+ℤ◌, ◌-ℤ◌, None}
use Rattle.std.specs.List.{flat_map, list_any, range_with_len}
use Rattle.std.proofs.lemmas.List.Folds.{list_any-append, list_any_at}
use Rattle.std.proofs.lemmas.List.FromFn.{get_or-map-range_with_len, length-map-range_with_len}
use Rattle.std.specs.Int.{int_rem_euclid}
use Rattle.std.specs.Ordering.{int_eq}
use Rattle.std.proofs.lemmas.Bool.{cases_Bool}
use Rattle.std.proofs.lemmas.Int.{ints}
use Rattle.tt_scan.specs.Contours.{AreEnds, contours_at}
use Rattle.tt_scan_edges.specs.declared.edge.Edge.{Edge}
use Rattle.tt_scan_gaps.specs.Crossings.{crossing, crossings, is_on_line, line_crossed, line_from, lines_crossed, meets_line, touches}
use Rattle.tt_scan_dropouts.specs.Dropouts.{edges_of}
use Rattle.tt_scan_gaps.specs.Gaps.{asked, free_marks, is_added, is_free}
use Rattle.tt_scan_gaps.specs.Walk.{contour_marks, edge_marks, is_in_free_gap, mark_of, marks, marks_of_step, some_in_free_gap, step_marks, steps_of, walk}
use Rattle.tt_scan_gaps.specs.declared.mark.Columns.{Columns}
use Rattle.tt_scan_gaps.specs.declared.mark.Crossing.{Crossing}
use Rattle.tt_scan_gaps.specs.declared.mark.Rules.{Rules}
use Rattle.tt_scan_gaps.specs.declared.mark.Step.{Step}
use Rattle.tt_scan_gaps.specs.declared.mark.Step.TheVariants as step
use Rattle.tt_scan_dropouts.proofs.FreeMarks.{added_kept, free_append, free_edge}
use Rattle.tt_scan_gaps.proofs.Lines.{eq_lines, off_touches_none}
use Rattle.tt_scan_gaps.proofs.Tests.{first_not, other_not}
use Rattle.tt_scan_dropouts.proofs.Outlines.{edges_at}
use Rattle.tt_scan_gaps.proofs.Walks.{more_crossings}

-- the crossings of an edge, one after the other

pub none_more : (black : ℤ → ℤ → Bool) (e : Edge) (k : ℕ)
    → some_in_free_gap black (map (λ k. crossing e (line_crossed e k)) (range_with_len 0 k)) ≡ false
    → is_free black (crossing e (line_crossed e k)).gap (crossing e (line_crossed e k)).line ≡ false
    → some_in_free_gap black (map (λ k. crossing e (line_crossed e k)) (range_with_len 0 (k + 1))) ≡ false
none_more black e k none not =
    let one = crossing e (line_crossed e k) in
    let before = map (λ k. crossing e (line_crossed e k)) (range_with_len 0 k) in
    ap (some_in_free_gap black) (more_crossings e k)
    ∙ list_any-append (λ (c : Crossing). is_free black c.gap c.line) before (one ∷ [])
    ∙ rw (none, not) refl

pub one_settles : (black : ℤ → ℤ → Bool) (e : Edge) (k : ℕ) → k < lines_crossed e
    → is_free black (crossing e (line_crossed e k)).gap (crossing e (line_crossed e k)).line ≡ true
    → some_in_free_gap black (crossings e) ≡ true
one_settles black e k within free =
    let f = λ (k : ℕ). crossing e (line_crossed e k) in
    let count = length-map-range_with_len f 0 (lines_crossed e) in
    let it = get_or-map-range_with_len f 0 (lines_crossed e) k k (f 0) within (omega arith) in
    list_any_at (λ (c : Crossing). is_free black c.gap c.line) (crossings e) k (f 0) (rw count within) (rw it free)

-- crossings that lie in no free gap make no mark there

no_marks_of : (black : ℤ → ℤ → Bool) (asks : Bool) (cs : List Crossing) → some_in_free_gap black cs ≡ false
    → free_marks black (map (mark_of asks) cs) ≡ []
no_marks_of black asks [] none = refl
no_marks_of black asks (c ∷ cs) none =
    let here = first_not (is_free black c.gap c.line) (some_in_free_gap black cs) none in
    rw here (no_marks_of black asks cs (other_not (is_free black c.gap c.line) (some_in_free_gap black cs) none))

no_edge_marks : (black : ℤ → ℤ → Bool) (e : Edge) → is_in_free_gap true black e ≡ false
    → free_marks black (edge_marks e) ≡ []
no_edge_marks black e none =
    let crossed = some_in_free_gap black (crossings e) in
    let touched = some_in_free_gap black (touches e) in
    free_edge black e ∙ ap₂ (λ a b. a ++ b) (no_marks_of black true (crossings e) (first_not crossed touched none))
    (no_marks_of black true (touches e) (other_not crossed touched none))

no_marks_of_edges : (black : ℤ → ℤ → Bool) (es : List Edge) → list_any (is_in_free_gap true black) es ≡ false
    → free_marks black (flat_map edge_marks es) ≡ []
no_marks_of_edges black [] none = refl
no_marks_of_edges black (e ∷ es) none =
    let here = is_in_free_gap true black e in
    let rest = list_any (is_in_free_gap true black) es in
    free_append black (edge_marks e) (flat_map edge_marks es)
    ∙ ap₂ (λ a b. a ++ b) (no_edge_marks black e (first_not here rest none))
    (no_marks_of_edges black es (other_not here rest none))

-- the steps of a walk, in a stub or not, make no mark there

abbrev lies_free : (ℤ → ℤ → Bool) → Step → Bool
lies_free black (step.End h) = false
lies_free black (step.Cross c) = is_free black c.gap c.line

no_step_free : (black : ℤ → ℤ → Bool) (w : List Step) (k : ℕ) → list_any (lies_free black) w ≡ false
    → lies_free black (get_or w k (step.End (pos 0))) ≡ false
no_step_free black [] k none = refl
no_step_free black (s ∷ w) zero none = first_not (lies_free black s) (list_any (lies_free black) w) none
no_step_free black (s ∷ w) (suc k) none =
    no_step_free black w k (other_not (lies_free black s) (list_any (lies_free black) w) none)

no_marks_of_step : (black : ℤ → ℤ → Bool) (w : List Step) (k : ℕ) (s : Step) → lies_free black s ≡ false
    → free_marks black (marks_of_step w k s) ≡ []
no_marks_of_step black w k (step.End h) none = refl
no_marks_of_step black w k (step.Cross c) none = rw none refl

no_marks_of_steps : (black : ℤ → ℤ → Bool) (w : List Step) (ks : List ℕ) → list_any (lies_free black) w ≡ false
    → free_marks black (flat_map (step_marks w) ks) ≡ []
no_marks_of_steps black w [] none = refl
no_marks_of_steps black w (k ∷ ks) none =
    free_append black (step_marks w k) (flat_map (step_marks w) ks)
    ∙ ap₂ (λ a b. a ++ b)
    (no_marks_of_step black w k (get_or w k (step.End (pos 0))) (no_step_free black w k none))
    (no_marks_of_steps black w ks none)

no_cross_free : (black : ℤ → ℤ → Bool) (cs : List Crossing) (h : ℤ) → some_in_free_gap black cs ≡ false
    → list_any (lies_free black) (map step.Cross cs ++ step.End h ∷ []) ≡ false
no_cross_free black [] h none = refl
no_cross_free black (c ∷ cs) h none =
    let here = first_not (is_free black c.gap c.line) (some_in_free_gap black cs) none in
    rw here (no_cross_free black cs h (other_not (is_free black c.gap c.line) (some_in_free_gap black cs) none))

no_walk_free : (black : ℤ → ℤ → Bool) (es : List Edge) → list_any (is_in_free_gap false black) es ≡ false
    → list_any (lies_free black) (walk es) ≡ false
no_walk_free black [] none = refl
no_walk_free black (e ∷ es) none =
    let here = is_in_free_gap false black e in
    let rest = list_any (is_in_free_gap false black) es in
    let crossed = first_not (some_in_free_gap black (crossings e)) false (first_not here rest none) in
    list_any-append (lies_free black) (steps_of e) (walk es)
    ∙ ap₂ (λ a b. a || b) (no_cross_free black (crossings e) e.by crossed)
    (no_walk_free black es (other_not here rest none))

-- contours without marks in free gaps

pub no_contour_marks : (black : ℤ → ℤ → Bool) (stubs : Bool) (es : List Edge)
    → list_any (is_in_free_gap stubs black) es ≡ false
    → free_marks black (contour_marks stubs es) ≡ []
no_contour_marks black true es none = no_marks_of_edges black es none
no_contour_marks black false es none =
    no_marks_of_steps black (walk es) (range_with_len 0 (length (walk es))) (no_walk_free black es none)

no_marks : (black : ℤ → ℤ → Bool) (stubs : Bool) (contours : List (List Edge))
    → list_any (is_in_free_gap stubs black) (edges_of contours) ≡ false
    → free_marks black (marks stubs contours) ≡ []
no_marks black stubs [] none = refl
no_marks black stubs (es ∷ contours) none =
    let here = list_any (is_in_free_gap stubs black) es in
    let rest = list_any (is_in_free_gap stubs black) (edges_of contours) in
    let both = sym (list_any-append (is_in_free_gap stubs black) es (edges_of contours)) ∙ none in
    free_append black (contour_marks stubs es) (marks stubs contours)
    ∙ ap₂ (λ a b. a ++ b) (no_contour_marks black stubs es (first_not here rest both))
    (no_marks black stubs contours (other_not here rest both))

-- where no edge of an outline makes a mark in a free gap, there are no marks in free gaps
pub no_free_marks : (black : ℤ → ℤ → Bool) (stubs : Bool) (es : List Edge) (ends : List ℕ) → AreEnds (length es) ends
    → list_any (is_in_free_gap stubs black) es ≡ false
    → free_marks black (marks stubs (contours_at es ends)) ≡ []
no_free_marks black stubs es ends fit none =
    no_marks black stubs (contours_at es ends) (rw (edges_at es ends fit) none)

-- without marks no pixel is needed

none_asked : (rules : Rules) (b : Columns) (black : ℤ → ℤ → Bool) (j c : ℤ) (free : Bool) → is_free black c j ≡ free
    → asked rules b [] black j c ≡ None
none_asked rules b black j c true is = rw is refl
none_asked rules b black j c false is = rw is refl

none_added : (rules : Rules) (b : Columns) (black : ℤ → ℤ → Bool) (p j : ℤ) → is_added rules b [] black p j ≡ false
none_added rules b black p j =
    let here = none_asked rules b black j p (is_free black p j) refl in
    let left = none_asked rules b black j (p -ℤ pos 1) (is_free black (p -ℤ pos 1) j) refl in
    rw (here, left) refl

-- a pass adds nothing
pub nothing_added : (rules : Rules) (b : Columns) (black : ℤ → ℤ → Bool) (es : List Edge) (ends : List ℕ) → AreEnds (length es) ends
    → list_any (is_in_free_gap rules.stubs black) es ≡ false
    → (p j : ℤ) → is_added rules b (marks rules.stubs (contours_at es ends)) black p j ≡ false
nothing_added rules b black es ends fit none p j =
    sym (added_kept rules b black (marks rules.stubs (contours_at es ends)) p j)
    ∙ ap (λ ms. is_added rules b ms black p j) (no_free_marks black rules.stubs es ends fit none)
    ∙ none_added rules b black p j

-- where more is black, no other gap is free

none_of_two : (a b more_a more_b : Bool) → (a ≡ true → more_a ≡ true) → (b ≡ true → more_b ≡ true)
    → (not a && not b) ≡ false → (not more_a && not more_b) ≡ false
none_of_two true b more_a more_b first second none = rw (first refl) refl
none_of_two false true true more_b first second none = refl
none_of_two false true false more_b first second none = rw (second refl) refl
none_of_two false false more_a more_b first second none = absurd cc

-- the black pixels of one picture are black in another
abbrev pub IsWithin : (ℤ → ℤ → Bool) → (ℤ → ℤ → Bool) → Type 0
IsWithin black more = (c j : ℤ) → black c j ≡ true → more c j ≡ true

none_freed : (black more : ℤ → ℤ → Bool) (cs : List Crossing) → IsWithin black more
    → some_in_free_gap black cs ≡ false → some_in_free_gap more cs ≡ false
none_freed black more [] within none = refl
none_freed black more (c ∷ cs) within none =
    let here = none_of_two (black c.gap c.line) (black (c.gap +ℤ pos 1) c.line) (more c.gap c.line)
    (more (c.gap +ℤ pos 1) c.line) (within c.gap c.line) (within (c.gap +ℤ pos 1) c.line)
    (first_not (is_free black c.gap c.line) (some_in_free_gap black cs) none) in
    rw here (none_freed black more cs within (other_not (is_free black c.gap c.line) (some_in_free_gap black cs) none))

none_freed_by : (stubs : Bool) (black more : ℤ → ℤ → Bool) (e : Edge) → IsWithin black more
    → is_in_free_gap stubs black e ≡ false → is_in_free_gap stubs more e ≡ false
none_freed_by true black more e within none =
    let crossed = some_in_free_gap black (crossings e) in
    let touched = some_in_free_gap black (touches e) in
    rw (
      none_freed black more (crossings e) within (first_not crossed touched none),
      none_freed black more (touches e) within (other_not crossed touched none),
    ) refl
none_freed_by false black more e within none =
    rw (none_freed black more (crossings e) within (first_not (some_in_free_gap black (crossings e)) false none)) refl

pub still_none : (stubs : Bool) (black more : ℤ → ℤ → Bool) (es : List Edge) → IsWithin black more
    → list_any (is_in_free_gap stubs black) es ≡ false → list_any (is_in_free_gap stubs more) es ≡ false
still_none stubs black more [] within none = refl
still_none stubs black more (e ∷ es) within none =
    let here = is_in_free_gap stubs black e in
    let rest = list_any (is_in_free_gap stubs black) es in
    rw (none_freed_by stubs black more e within (first_not here rest none))
    (still_none stubs black more es within (other_not here rest none))

-- an edge that meets no line makes no mark

no_crossings : (e : Edge) → line_from e.ay ≡ line_from e.by → crossings e ≡ []
no_crossings e same =
    let none : lines_crossed e ≡ 0 = omega (arith, ints, same) in
    ap (λ n. map (λ k. crossing e (line_crossed e k)) (range_with_len 0 n)) none

off_line : (y : ℤ) → is_on_line y ≡ false → int_rem_euclid (y -ℤ pos 4096) (pos 8192) ≢ pos 0
off_line y off is = grind (arith, ints, off, is)

no_touches : (e : Edge) → is_on_line e.ay ≡ false → is_on_line e.by ≡ false → touches e ≡ []
no_touches e a b = elim (cases_Bool (int_lt e.by e.ay)) [
  | inl falls ↦ off_touches_none e (rw falls (off_line e.ay a))
  | inr rises ↦ off_touches_none e (rw rises (off_line e.by b))
]

pub none_touched : (stubs : Bool) (black : ℤ → ℤ → Bool) (e : Edge) → (stubs && (is_on_line e.ay || is_on_line e.by)) ≡ false
    → (stubs && some_in_free_gap black (touches e)) ≡ false
none_touched false black e none = refl
none_touched true black e none =
    rw (no_touches e (first_not (is_on_line e.ay) (is_on_line e.by) none) (other_not (is_on_line e.ay) (is_on_line e.by) none)) refl

pub none_met : (stubs : Bool) (black : ℤ → ℤ → Bool) (e : Edge) → meets_line stubs e.ay e.by ≡ false
    → is_in_free_gap stubs black e ≡ false
none_met stubs black e none =
    let apart = first_not (not (int_eq (line_from e.ay) (line_from e.by))) (stubs && (is_on_line e.ay || is_on_line e.by)) none in
    let same = eq_lines e.ay e.by apart in
    rw (no_crossings e same) (none_touched stubs black e
    (other_not (not (int_eq (line_from e.ay) (line_from e.by))) (stubs && (is_on_line e.ay || is_on_line e.by)) none))
