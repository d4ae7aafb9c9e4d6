-- Steps and ways one by one.
use Rattle.std.proofs.Common.{refl, sym, ◌≡◌, ◌∙◌, ap, ℕ, ◌+◌, ◌-◌, ◌<◌, Bool, true, false, List, [], ◌∷◌, ◌++◌, length, get_or, take, drop, reverse, arith}
use Rattle.std.specs.Prelude.{max, map, unsigned_abs, ℤ, pos, ◌-ℤ◌, Option, Some, if◌then◌else◌}
use Rattle.std.specs.List.{flat_map, range_with_len}
use Rattle.std.proofs.lemmas.List.{append-nil, drop_more, take_more, map-append, length-append, length-drop, length-take, length-reverse}
use Rattle.std.proofs.lemmas.List.FromFn.{map-range_with_len_more}
use Rattle.std.proofs.lemmas.Grind.{flat_map-append}
use Rattle.tt_scan_edges.specs.declared.edge.Edge.{Edge}
use Rattle.tt_scan_gaps.specs.Crossings.{centre, crossing, line_crossed}
use Rattle.tt_scan_gaps.specs.Walk.{is_of_stub, is_stub, others, way}
use Rattle.tt_scan_gaps.specs.declared.mark.Crossing.{Crossing}
use Rattle.tt_scan_gaps.specs.declared.mark.Leg.{Leg}
use Rattle.tt_scan_gaps.specs.declared.mark.Step.{Step}
use Rattle.tt_scan_gaps.specs.declared.mark.Step.TheVariants as step

-- numbers one after another
pub range_more : (k : ℕ) → range_with_len 0 (k + 1) ≡ range_with_len 0 k ++ k ∷ []
range_more k = sym (map_id (range_with_len 0 (k + 1))) ∙ map-range_with_len_more (λ x. x) 0 k k (omega arith) ∙ ap (λ r. r ++ k ∷ []) (map_id (range_with_len 0 k)) where
  map_id : (xs : List ℕ) → map (λ x. x) xs ≡ xs
  map_id [] = refl
  map_id (x ∷ xs) = ap (λ r. x ∷ r) (map_id xs)

-- the crossings of an edge, one more
pub more_crossings : (e : Edge) (k : ℕ) → map (λ k. crossing e (line_crossed e k)) (range_with_len 0 (k + 1))
    ≡ map (λ k. crossing e (line_crossed e k)) (range_with_len 0 k) ++ crossing e (line_crossed e k) ∷ []
more_crossings e k = map-range_with_len_more (λ k. crossing e (line_crossed e k)) 0 k k (omega arith)

pub more_steps : (e : Edge) (k : ℕ) → map step.Cross (map (λ k. crossing e (line_crossed e k)) (range_with_len 0 (k + 1)))
    ≡ map step.Cross (map (λ k. crossing e (line_crossed e k)) (range_with_len 0 k)) ++ step.Cross (crossing e (line_crossed e k)) ∷ []
more_steps e k = ap (λ cs. map step.Cross cs) (more_crossings e k) ∙ map-append step.Cross (map (λ k. crossing e (line_crossed e k)) (range_with_len 0 k)) (crossing e (line_crossed e k) ∷ [])

pub flat_more : {X A : Type 0} (f : X → List A) (xs : List X) (i : ℕ) (d : X) → i < length xs
    → flat_map f (take (i + 1) xs) ≡ flat_map f (take i xs) ++ f (get_or xs i d)
flat_more f xs i d h =
    ap (flat_map f) (take_more xs i d h) ∙ flat_map-append f (take i xs) (get_or xs i d ∷ [])
    ∙ ap (λ r. flat_map f (take i xs) ++ r) (append-nil (f (get_or xs i d)))

-- a way begins with a crossing, or continues after the end of an edge
pub way_at_cross : (y : ℤ) (far : ℕ) (ss : List Step) (m : ℕ) (c : Crossing) → m < length ss
    → get_or ss m (step.End (pos 0)) ≡ step.Cross c → way y far (drop m ss) ≡ Some (record { next = c; far = far })
way_at_cross y far ss m c h is = rw (drop_more ss m (step.End (pos 0)) h, is) refl

pub way_past_end : (y : ℤ) (far : ℕ) (ss : List Step) (m : ℕ) (e : ℤ) → m < length ss
    → get_or ss m (step.End (pos 0)) ≡ step.End e
    → way y far (drop m ss) ≡ way y (max far (unsigned_abs (e -ℤ y))) (drop (m + 1) ss)
way_past_end y far ss m e h is = rw (drop_more ss m (step.End (pos 0)) h, is) refl

others_length : (w : List Step) (k : ℕ) → k < length w → length (others w k) ≡ length w - 1
others_length w k h = grind (arith, length-append (drop (k + 1) w) (take k w), length-drop, length-take)

pub way_length : (w : List Step) (k : ℕ) (forward : Bool) → k < length w
    → length (if forward then others w k else reverse (others w k)) ≡ length w - 1
way_length w k true h = others_length w k h
way_length w k false h = length-reverse (others w k) ∙ others_length w k h

-- a crossing that belongs to no stub with the one after it
pub by_the_way_back : (w : List Step) (k : ℕ) (c : Crossing) (y : ℤ) (there back : Option Leg) → y ≡ centre c.line
    → there ≡ way y 0 (others w k) → back ≡ way y 0 (reverse (others w k)) → is_stub c there ≡ false
    → is_stub c back ≡ is_of_stub w k c
by_the_way_back w k c y there back at one other out =
    let first : is_stub c (way (centre c.line) 0 (others w k)) ≡ false = rw (one, at) at out in
    rw (other, at, first) refl
