-- Marks in gaps that are not free add nothing: a pass may omit them. The marks in free gaps of lists one after another.
use Rattle.std.proofs.Common.{◌≡◌, refl, Bool, true, false, List, [], ◌∷◌, arith, ◌∙◌, ap, ℕ, ◌+◌, ◌<◌, not, ◌++◌, length, get_or, take, drop}
use Rattle.std.specs.Prelude.{ℤ, pos, ◌-ℤ◌, map}
use Rattle.std.specs.List.{filter, flat_map, range_with_len, slice_range}
use Rattle.std.proofs.lemmas.Int.{ints}
use Rattle.tt_scan_gaps.specs.Gaps.{asked, free_marks, gap_marks, in_free_gap, in_gap, is_added, is_free}
use Rattle.tt_scan_gaps.specs.declared.mark.Columns.{Columns}
use Rattle.tt_scan_gaps.specs.declared.mark.Mark.{Mark}
use Rattle.tt_scan_gaps.specs.declared.mark.Rules.{Rules}
use Rattle.std.proofs.lemmas.List.{append-nil, drop_more, get_or_default, map-append}
use Rattle.std.proofs.lemmas.List.Elements.{filter-append}
use Rattle.std.proofs.lemmas.Grind.{flat_map-append}
use Rattle.tt_scan_edges.specs.declared.edge.Edge.{Edge}
use Rattle.tt_scan_gaps.specs.Crossings.{crossing, crossings, line_crossed, touches}
use Rattle.tt_scan_gaps.specs.Walk.{contour_marks, edge_marks, is_of_stub, mark_of, marks, step_marks}
use Rattle.tt_scan_gaps.specs.declared.mark.Crossing.{Crossing}
use Rattle.tt_scan_gaps.specs.declared.mark.Step.{Step}
use Rattle.tt_scan_gaps.specs.declared.mark.Step.TheVariants as step
use Rattle.tt_scan.specs.Contours.{contours_from}
use Rattle.tt_scan_gaps.proofs.GivesWay.{gives_same}
use Rattle.tt_scan_gaps.proofs.Walks.{flat_more, more_crossings, range_more}

filter_twice : {X : Type 0} (p q : X → Bool) (xs : List X) → ((x : X) → q x ≡ true → p x ≡ true)
    → filter q (filter p xs) ≡ filter q xs
filter_twice p q [] h = refl
filter_twice p q (x ∷ xs) h =
    let rest = filter_twice p q xs h in
    let here = h x in
    grind (arith)

lies_free : (black : ℤ → ℤ → Bool) (j c : ℤ) (m : Mark) → is_free black c j ≡ true → in_gap j c m ≡ true → in_free_gap black m ≡ true
lies_free black j c m free lies = grind (arith, ints)

-- all marks of a free gap remain
pub marks_kept : (black : ℤ → ℤ → Bool) (ms : List Mark) (j c : ℤ) → is_free black c j ≡ true
    → gap_marks (free_marks black ms) j c ≡ gap_marks ms j c
marks_kept black ms j c free =
    filter_twice (in_free_gap black) (in_gap j c) ms (λ m lies. lies_free black j c m free lies)

pub asked_kept : (rules : Rules) (b : Columns) (black : ℤ → ℤ → Bool) (ms : List Mark) (j c : ℤ) (free : Bool) → is_free black c j ≡ free
    → asked rules b (free_marks black ms) black j c ≡ asked rules b ms black j c
asked_kept rules b black ms j c true is = rw (marks_kept black ms j c is) refl
asked_kept rules b black ms j c false is = rw is refl

-- the marks in free gaps add the pixels that all marks add
pub added_kept : (rules : Rules) (b : Columns) (black : ℤ → ℤ → Bool) (ms : List Mark) (p j : ℤ)
    → is_added rules b (free_marks black ms) black p j ≡ is_added rules b ms black p j
added_kept rules b black ms p j =
    let kept = λ (g : ℤ). asked_kept rules b black ms j g (is_free black g j) refl in
    let gives = λ (c : ℤ). gives_same (asked rules b (free_marks black ms) black j) (asked rules b ms black j) c kept in
    rw (kept p, kept (p -ℤ pos 1), gives p, gives (p -ℤ pos 1)) refl

-- the free marks of lists one after another
pub free_append : (black : ℤ → ℤ → Bool) (ms ns : List Mark)
    → free_marks black (ms ++ ns) ≡ free_marks black ms ++ free_marks black ns
free_append black ms ns = filter-append (in_free_gap black) ms ns

pub more_free_crossings : (black : ℤ → ℤ → Bool) (e : Edge) (k : ℕ)
    → free_marks black (map (mark_of true) (map (λ k. crossing e (line_crossed e k)) (range_with_len 0 (k + 1))))
    ≡ free_marks black (map (mark_of true) (map (λ k. crossing e (line_crossed e k)) (range_with_len 0 k)))
    ++ free_marks black (mark_of true (crossing e (line_crossed e k)) ∷ [])
more_free_crossings black e k =
    ap (λ cs. free_marks black (map (mark_of true) cs)) (more_crossings e k)
    ∙ ap (free_marks black) (map-append (mark_of true) (map (λ k. crossing e (line_crossed e k)) (range_with_len 0 k)) (crossing e (line_crossed e k) ∷ []))
    ∙ free_append black _ _

pub more_free_steps : (black : ℤ → ℤ → Bool) (w : List Step) (k : ℕ)
    → free_marks black (flat_map (step_marks w) (range_with_len 0 (k + 1)))
    ≡ free_marks black (flat_map (step_marks w) (range_with_len 0 k)) ++ free_marks black (step_marks w k)
more_free_steps black w k =
    ap (λ r. free_marks black (flat_map (step_marks w) r)) (range_more k)
    ∙ ap (free_marks black) (flat_map-append (step_marks w) (range_with_len 0 k) (k ∷ []) ∙ ap (λ r. flat_map (step_marks w) (range_with_len 0 k) ++ r) (append-nil (step_marks w k)))
    ∙ free_append black (flat_map (step_marks w) (range_with_len 0 k)) (step_marks w k)

pub more_free_edges : (black : ℤ → ℤ → Bool) (es : List Edge) (i : ℕ) (d : Edge) → i < length es
    → free_marks black (flat_map edge_marks (take (i + 1) es))
    ≡ free_marks black (flat_map edge_marks (take i es)) ++ free_marks black (edge_marks (get_or es i d))
more_free_edges black es i d h =
    ap (free_marks black) (flat_more edge_marks es i d h) ∙ free_append black (flat_map edge_marks (take i es)) (edge_marks (get_or es i d))

pub free_edge : (black : ℤ → ℤ → Bool) (e : Edge) → free_marks black (edge_marks e)
    ≡ free_marks black (map (mark_of true) (crossings e)) ++ free_marks black (map (mark_of true) (touches e))
free_edge black e =
    ap (free_marks black) (map-append (mark_of true) (crossings e) (touches e))
    ∙ free_append black (map (mark_of true) (crossings e)) (map (mark_of true) (touches e))

-- the contours from one on are that one and those after it
pub free_next : (black : ℤ → ℤ → Bool) (stubs : Bool) (from : ℕ) (es : List Edge) (ends : List ℕ) (i d : ℕ) → i < length ends
    → free_marks black (marks stubs (contours_from from es (drop i ends)))
    ≡ free_marks black (contour_marks stubs (slice_range es from (get_or ends i d)))
    ++ free_marks black (marks stubs (contours_from (get_or ends i d) es (drop (i + 1) ends)))
free_next black stubs from es ends i d h =
    ap (λ r. free_marks black (marks stubs (contours_from from es r))) (drop_more ends i d h)
    ∙ free_append black (contour_marks stubs (slice_range es from (get_or ends i d))) (marks stubs (contours_from (get_or ends i d) es (drop (i + 1) ends)))

-- the marks of an edge that touches no line
pub free_untouched : (black : ℤ → ℤ → Bool) (e : Edge) → touches e ≡ []
    → free_marks black (edge_marks e) ≡ free_marks black (map (mark_of true) (crossings e))
free_untouched black e none =
    let crossed = free_marks black (map (mark_of true) (crossings e)) in
    free_edge black e ∙ ap (λ ts. crossed ++ free_marks black (map (mark_of true) ts)) none ∙ append-nil crossed

-- the mark of a crossing in a free gap
pub free_cross : (black : ℤ → ℤ → Bool) (w : List Step) (k : ℕ) (c : Crossing) (d : Step) → k < length w
    → get_or w k d ≡ step.Cross c → is_free black c.gap c.line ≡ true
    → free_marks black (step_marks w k) ≡ mark_of (not (is_of_stub w k c)) c ∷ []
free_cross black w k c d h is free = rw (get_or_default w k (step.End (pos 0)) d h, is, free) refl
