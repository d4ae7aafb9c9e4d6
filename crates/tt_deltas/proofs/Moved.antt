-- Points by their numbers, before and after a tuple.
use Rattle.std.proofs.Common.{◌≡◌, ◌∙◌, ℕ, zero, suc, ◌+◌, ◌-◌, ◌<◌, ◌≤◌, ℤ, pos, ◌+ℤ◌, List, [], ◌∷◌, length, get_or, Option, Some, None, ap, sym, refl, arith, add-zero}
use Rattle.std.proofs.lemmas.List.{get_or-drop}
use Rattle.std.proofs.lemmas.Int.{ints}
use Rattle.tt_deltas_inference.proofs.Whole.{named_stays, phantoms_stay, long_contours}
use Rattle.tt_deltas_inference.specs.Bounds.{AreContourEnds}
use Rattle.tt_deltas_inference.specs.Inference.{contours}
use Rattle.tt_deltas_inference.specs.declared.point.AxisPoint.{AxisPoint}
use Rattle.tt_deltas.specs.Along.{added, axis_point, axis_points, moved_by, own_delta, varied_along}
use Rattle.tt_deltas.specs.Laws.{NamedPointsMove, OtherPointsStay}
use Rattle.tt_deltas.specs.declared.varied.Varied.{Varied}
use Rattle.tt_deltas.proofs.Added.{no_point}
use Rattle.tt_deltas.proofs.Listed.{many}

each : (vs : List Varied) (ps : List AxisPoint) (v : Varied) (i : ℕ) → i < length vs → i < length ps
    → get_or (added vs ps) i v ≡ moved_by (get_or vs i v) (get_or ps i no_point)
each [] ps v i there other = absurd (omega arith)
each (w ∷ vs) [] v i there other = absurd (omega arith)
each (w ∷ vs) (p ∷ ps) v zero there other = refl
each (w ∷ vs) (p ∷ ps) v (suc i) there other = each vs ps v i (omega arith) (omega arith)

point_from : (share : ℕ) (numbers : Option (List ℕ)) (deltas : List ℤ) (from : ℕ) (vs : List Varied) (v : Varied)
    (i : ℕ) → i < length vs
    → get_or (axis_points share numbers deltas from vs) i no_point
    ≡ axis_point share (get_or vs i v).at (own_delta numbers deltas (from + i))
point_from share numbers deltas from [] v i there = absurd (omega arith)
point_from share numbers deltas from (w ∷ vs) v zero there = rw (add-zero from) refl
point_from share numbers deltas from (w ∷ vs) v (suc i) there =
    let place : from + suc i ≡ (from + 1) + i = omega arith in
    rw place (point_from share numbers deltas (from + 1) vs v i (omega arith))

point_is : (share : ℕ) (numbers : Option (List ℕ)) (deltas : List ℤ) (vs : List Varied) (v : Varied) (i : ℕ)
    (d : Option ℤ) → i < length vs → own_delta numbers deltas i ≡ d
    → get_or (axis_points share numbers deltas 0 vs) i no_point ≡ axis_point share (get_or vs i v).at d
point_is share numbers deltas vs v i d there own =
    let same : 0 + i ≡ i = omega arith in
    point_from share numbers deltas 0 vs v i there
    ∙ ap (λ (k : ℕ). axis_point share (get_or vs i v).at (own_delta numbers deltas k)) same
    ∙ ap (λ (o : Option ℤ). axis_point share (get_or vs i v).at o) own

pub named_move : NamedPointsMove
unfolding varied_along
named_move share numbers deltas ends vs v i d are there own =
    let ps = axis_points share numbers deltas 0 vs in
    let count = many share numbers deltas 0 vs in
    let ends_are : AreContourEnds 0 ends (length ps) = rw count are in
    let long = long_contours ends ps ends_are in
    let point = point_is share numbers deltas vs v i (Some d) there own in
    let stays = named_stays ends ps no_point i ends_are (omega arith) (ap (λ (p : AxisPoint). p.named) point) in
    ap (λ (w : Varied). w.delta) (each vs (contours 0 ends ps) v i there (omega arith))
    ∙ ap (λ (p : AxisPoint). (get_or vs i v).delta +ℤ p.delta) (stays ∙ point)

others_by : (share : ℕ) (numbers : Option (List ℕ)) (deltas : List ℤ) (ends : List ℕ) (vs : List Varied) (v : Varied)
    (i n : ℕ) → AreContourEnds 0 ends n → AreContourEnds 0 ends (length vs) → n ≤ i → i < length vs
    → own_delta numbers deltas i ≡ None
    → (get_or (varied_along share numbers deltas ends vs) i v).delta ≡ (get_or vs i v).delta
unfolding varied_along
others_by share numbers deltas ends vs v i n before are past there own =
    let ps = axis_points share numbers deltas 0 vs in
    let count = many share numbers deltas 0 vs in
    let ends_are : AreContourEnds 0 ends (length ps) = rw count are in
    let long = long_contours ends ps ends_are in
    let point = point_is share numbers deltas vs v i None there own in
    let stay = phantoms_stay ends ps n before (omega arith) in
    let sum : n + (i - n) ≡ i = omega arith in
    let moved : get_or (contours 0 ends ps) i no_point ≡ get_or ps i no_point =
    ap (λ (k : ℕ). get_or (contours 0 ends ps) k no_point) (sym sum)
    ∙ sym (get_or-drop n (contours 0 ends ps) (i - n) no_point)
    ∙ ap (λ (qs : List AxisPoint). get_or qs (i - n) no_point) stay
    ∙ get_or-drop n ps (i - n) no_point ∙ ap (λ (k : ℕ). get_or ps k no_point) sum in
    let none : (get_or vs i v).delta +ℤ pos 0 ≡ (get_or vs i v).delta = omega (arith, ints) in
    ap (λ (w : Varied). w.delta) (each vs (contours 0 ends ps) v i there (omega arith))
    ∙ ap (λ (p : AxisPoint). (get_or vs i v).delta +ℤ p.delta) (moved ∙ point) ∙ none

-- contours within some points are within more
wider : (from : ℕ) (ends : List ℕ) (n m : ℕ) → n ≤ m → AreContourEnds from ends n → AreContourEnds from ends m
wider from [] n m more are = omega arith
wider from (end ∷ ends) n m more are = (are.0, wider (end + 1) ends n m more are.1)

pub others_stay : OtherPointsStay
others_stay share numbers deltas ends vs v i n are past there own =
    others_by share numbers deltas ends vs v i n are (wider 0 ends n (length vs) (omega arith) are) past there own
