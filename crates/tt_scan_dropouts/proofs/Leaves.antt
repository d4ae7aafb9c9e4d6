-- Every mark of an outline is a crossing of one of its edges, or an end of an edge that touches a line.
use Rattle.std.proofs.Common.{◌≡◌, ◌∙◌, ℕ, ◌+◌, ◌<◌, Bool, true, false, List, [], ◌∷◌, ◌++◌, map, length, get_or, not, arith}
use Rattle.std.specs.Prelude.{pos, All}
use Rattle.std.specs.List.{flat_map, range_with_len}
use Rattle.std.proofs.lemmas.List.Elements.{All-append, All-cons, All-head, All-map, All-nil, All-tail, All-weaker}
use Rattle.std.proofs.lemmas.List.FromFn.{get_or-range_with_len, length-range_with_len}
use Rattle.tt_scan_edges.specs.declared.edge.Edge.{Edge}
use Rattle.tt_scan_gaps.specs.Crossings.{crossings, touches}
use Rattle.tt_scan_dropouts.specs.Dropouts.{edges_of}
use Rattle.tt_scan_gaps.specs.Walk.{contour_marks, edge_marks, is_of_stub, mark_of, marks, marks_of_step, step_marks, steps_of, walk, walk_marks}
use Rattle.tt_scan_gaps.specs.declared.mark.Crossing.{Crossing}
use Rattle.tt_scan_gaps.specs.declared.mark.Mark.{Mark}
use Rattle.tt_scan_gaps.specs.declared.mark.Step.{Step}
use Rattle.tt_scan_gaps.specs.declared.mark.Step.TheVariants as step
use Rattle.tt_scan_gaps.proofs.Bounds.{EdgeLeaves}

-- lists one after another

all_flat : {X A : Type 0} (P : A → Type 0) (f : X → List A) (xs : List X) → All (λ x. All P (f x)) xs
    → All P (flat_map f xs)
all_flat P f [] h = All-nil P
all_flat P f (x ∷ xs) h =
    All-append P (f x) (flat_map f xs) (All-head (λ x. All P (f x)) x xs h)
    (all_flat P f xs (All-tail (λ x. All P (f x)) x xs h))

all_before : {A : Type 0} (P : A → Type 0) (xs ys : List A) → All P (xs ++ ys) → All P xs
all_before P [] ys h = All-nil P
all_before P (x ∷ xs) ys h =
    All-cons P x xs (All-head P x (xs ++ ys) h) (all_before P xs ys (All-tail P x (xs ++ ys) h))

all_behind : {A : Type 0} (P : A → Type 0) (xs ys : List A) → All P (xs ++ ys) → All P ys
all_behind P [] ys h = h
all_behind P (x ∷ xs) ys h = all_behind P xs ys (All-tail P x (xs ++ ys) h)

pub all_parts : {X A : Type 0} (P : A → Type 0) (f : X → List A) (xs : List X) → All P (flat_map f xs)
    → All (λ x. All P (f x)) xs
all_parts P f [] h = All-nil (λ x. All P (f x))
all_parts P f (x ∷ xs) h =
    All-cons (λ x. All P (f x)) x xs (all_before P (f x) (flat_map f xs) h)
    (all_parts P f xs (all_behind P (f x) (flat_map f xs) h))

-- every mark of an outline is a crossing of one of its edges, or an end of an edge that touches a line. A property of
-- all marks of its edges holds of all its marks

abbrev StepLeaves : (Crossing → Type 0) → Step → Type 0
StepLeaves P (step.End h) = Unit {0}
StepLeaves P (step.Cross c) = P c

abbrev MarkLeaves : (Crossing → Type 0) → Mark → Type 0
MarkLeaves P m = P m.at

edge_steps : (P : Crossing → Type 0) (e : Edge) → EdgeLeaves P e → All (StepLeaves P) (steps_of e)
edge_steps P e h =
    All-append (StepLeaves P) (map step.Cross (crossings e)) (step.End e.by ∷ [])
    (All-map (StepLeaves P) step.Cross (crossings e) (all_before P (crossings e) (touches e) h))
    (All-cons (StepLeaves P) (step.End e.by) [] tt (All-nil (StepLeaves P)))

step_leaves : (P : Crossing → Type 0) (w : List Step) (k : ℕ) (s : Step) → StepLeaves P s
    → All (MarkLeaves P) (marks_of_step w k s)
step_leaves P w k (step.End h) leaves = All-nil (MarkLeaves P)
step_leaves P w k (step.Cross c) leaves =
    All-cons (MarkLeaves P) (mark_of (not (is_of_stub w k c)) c) [] leaves (All-nil (MarkLeaves P))

walk_leaves : (P : Crossing → Type 0) (w : List Step) → All (StepLeaves P) w → All (MarkLeaves P) (walk_marks w)
walk_leaves P w h = all_flat (MarkLeaves P) (step_marks w) (range_with_len 0 (length w)) (λ k d less.
    let below : k < length w = rw length-range_with_len at less in
    let first : 0 + k ≡ k = omega arith in
    let at : get_or (range_with_len 0 (length w)) k d ≡ k = get_or-range_with_len 0 (length w) k d below ∙ first in
    rw at (step_leaves P w k (get_or w k (step.End (pos 0))) (h k (step.End (pos 0)) below)))

contour_leaves : (P : Crossing → Type 0) (stubs : Bool) (es : List Edge) → All (EdgeLeaves P) es
    → All (MarkLeaves P) (contour_marks stubs es)
contour_leaves P true es h = all_flat (MarkLeaves P) edge_marks es
    (All-weaker (EdgeLeaves P) (λ e. All (MarkLeaves P) (edge_marks e))
    (λ e leaves. All-map (MarkLeaves P) (mark_of true) (crossings e ++ touches e) leaves) es h)
contour_leaves P false es h =
    walk_leaves P (walk es) (all_flat (StepLeaves P) steps_of es
    (All-weaker (EdgeLeaves P) (λ e. All (StepLeaves P) (steps_of e)) (edge_steps P) es h))

pub outline_leaves : (P : Crossing → Type 0) (stubs : Bool) (contours : List (List Edge))
    → All (EdgeLeaves P) (edges_of contours) → All (λ m. P m.at) (marks stubs contours)
outline_leaves P stubs contours h = all_flat (MarkLeaves P) (contour_marks stubs) contours
    (All-weaker (All (EdgeLeaves P)) (λ es. All (MarkLeaves P) (contour_marks stubs es)) (contour_leaves P stubs)
    contours (all_parts (EdgeLeaves P) (λ es. es) contours h))
