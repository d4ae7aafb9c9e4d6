-- The points of a whole glyph by their numbers.
use Rattle.std.proofs.Common.{◌≡◌, ◌∙◌, ℕ, ◌+◌, ◌-◌, ◌<◌, ◌≤◌, true, List, [], ◌∷◌, ◌++◌, length, length-append, length-drop, take, drop, get_or, ap, arith}
use Rattle.std.proofs.lemmas.Bool.{cases_lt}
use Rattle.std.proofs.Common.{inl, inr}
use Rattle.std.proofs.lemmas.List.{drop-drop, length-take-le, get_or-drop, get_or-take, get_or_append_left, get_or-append_right}
use Rattle.std.proofs.Math.Seq.{drop-append-add}
use Rattle.tt_deltas_inference.specs.Bounds.{AreContourEnds}
use Rattle.tt_deltas_inference.specs.Inference.{contour, contours}
use Rattle.tt_deltas_inference.specs.Laws.{NamedPointsStay, PhantomPointsStay}
use Rattle.tt_deltas_inference.specs.declared.point.AxisPoint.{AxisPoint}
use Rattle.tt_deltas_inference.proofs.ByNumber.{many, named_point}
use Rattle.tt_deltas_inference.proofs.Ranges.{inside_of}

-- the points of a contour, from one place up to another
part_long : (from end : ℕ) (ps : List AxisPoint) → from ≤ end + 1 → end + 1 ≤ length ps
    → length (contour (take ((end + 1) - from) (drop from ps))) ≡ (end + 1) - from
part_long from end ps order room =
    many (take ((end + 1) - from) (drop from ps))
    ∙ length-take-le ((end + 1) - from) (drop from ps) (omega (arith, length-drop from ps))

phantoms_from : (from : ℕ) (ends : List ℕ) (ps : List AxisPoint) (n : ℕ) → AreContourEnds from ends n → n ≤ length ps
    → drop (n - from) (contours from ends ps) ≡ drop n ps
phantoms_from from [] ps n are room =
    let sum : from + (n - from) ≡ n = omega arith in
    drop-drop (n - from) from ps ∙ ap (λ (k : ℕ). drop k ps) sum
phantoms_from from (end ∷ ends) ps n are room =
    let order = are.0 in
    let inside = inside_of (end + 1) ends n are.1 in
    let part = contour (take ((end + 1) - from) (drop from ps)) in
    let others = contours (end + 1) ends ps in
    let long = part_long from end ps order (omega arith) in
    let sum : n - from ≡ length part + (n - (end + 1)) = omega arith in
    ap (λ (k : ℕ). drop k (part ++ others)) sum ∙ drop-append-add part others (n - (end + 1))
    ∙ phantoms_from (end + 1) ends ps n are.1 room

pub phantoms_stay : PhantomPointsStay
phantoms_stay ends ps n are room = let same : n - 0 ≡ n = omega arith in rw same at (phantoms_from 0 ends ps n are room)

named_from : (from : ℕ) (ends : List ℕ) (ps : List AxisPoint) (d : AxisPoint) (i : ℕ)
    → AreContourEnds from ends (length ps) → from ≤ i → i < length ps → (get_or ps i d).named ≡ true
    → get_or (contours from ends ps) (i - from) d ≡ get_or ps i d
named_from from [] ps d i are place there here =
    let sum : from + (i - from) ≡ i = omega arith in
    get_or-drop from ps (i - from) d ∙ ap (λ (k : ℕ). get_or ps k d) sum
named_from from (end ∷ ends) ps d i are place there here =
    let order = are.0 in
    let inside = inside_of (end + 1) ends (length ps) are.1 in
    let k = (end + 1) - from in
    let points = take k (drop from ps) in
    let part = contour points in
    let others = contours (end + 1) ends ps in
    let long = part_long from end ps order inside in
    elim (cases_lt i (end + 1)) [
      | inl within ↦
          let sum : from + (i - from) ≡ i = omega arith in
          let same : get_or points (i - from) d ≡ get_or ps i d =
          get_or-take k (drop from ps) (i - from) d (omega arith) ∙ get_or-drop from ps (i - from) d
          ∙ ap (λ (m : ℕ). get_or ps m d) sum in
          let many_points = many points in
          get_or_append_left part others d (i - from) (omega arith)
          ∙ named_point points d (i - from) (omega arith) (ap (λ (p : AxisPoint). p.named) same ∙ here) ∙ same
      | inr past ↦
          let sum : (i - from) - k ≡ i - (end + 1) = omega arith in
          get_or-append_right part others k (i - from) d long (omega arith)
          ∙ ap (λ (m : ℕ). get_or others m d) sum ∙ named_from (end + 1) ends ps d i are.1 past there here
    ]

pub named_stays : NamedPointsStay
named_stays ends ps d i are there here =
    let same : i - 0 ≡ i = omega arith in rw same at (named_from 0 ends ps d i are (omega arith) there here)

long_from : (from : ℕ) (ends : List ℕ) (ps : List AxisPoint) → AreContourEnds from ends (length ps)
    → length (contours from ends ps) ≡ length ps - from
long_from from [] ps are = length-drop from ps
long_from from (end ∷ ends) ps are =
    let order = are.0 in
    let inside = inside_of (end + 1) ends (length ps) are.1 in
    let part = contour (take ((end + 1) - from) (drop from ps)) in
    let long = part_long from end ps order inside in
    omega (
      arith,
      length-append part (contours (end + 1) ends ps),
      long,
      long_from (end + 1) ends ps are.1,
    )

-- no point is added or lost
pub long_contours : (ends : List ℕ) (ps : List AxisPoint) → AreContourEnds 0 ends (length ps)
    → length (contours 0 ends ps) ≡ length ps
long_contours ends ps are = omega (arith, long_from 0 ends ps are)
