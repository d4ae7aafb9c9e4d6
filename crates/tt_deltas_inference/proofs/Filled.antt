-- Points inferred in place, one after another.
use Rattle.std.proofs.Common.{◌≡◌, ◌∙◌, ℕ, ◌+◌, ◌<◌, pos, false, List, length, map, take, drop, get_or, set, refl, arith}
use Rattle.std.proofs.lemmas.Grind.{drop_more_same}
use Rattle.std.proofs.lemmas.List.{take_more_set, drop_more, drop-set-lt, map_more}
use Rattle.tt_deltas_inference.specs.declared.point.AxisPoint.{AxisPoint}

-- a read past the end of a list of points
abbrev pub blank : AxisPoint
blank = record { named = false; at = pos 0; delta = pos 0 }

-- lists that agree from a place on have the same element there
pub same_point : (now old : List AxisPoint) (i : ℕ) (d : AxisPoint) → i < length now → i < length old
    → drop i now ≡ drop i old → get_or now i d ≡ get_or old i d
same_point now old i d here there same =
    let x = drop_more now i d here in let y = drop_more old i d there in cc

pub filled_more : (f : AxisPoint → AxisPoint) (now old : List AxisPoint) (i : ℕ) (d q : AxisPoint) → i < length now
    → i < length old → take i now ≡ map f (take i old) → drop i now ≡ drop i old → q ≡ f (get_or now i d)
    → take (i + 1) (set now i q) ≡ map f (take (i + 1) old)
filled_more f now old i d q here there so_far rest is =
    let same = same_point now old i d here there rest in
    let made : q ≡ f (get_or old i d) = rw same at is in
    rw (take_more_set now i q here, map_more f old i d there, so_far, made) refl

pub rest_more : (now old : List AxisPoint) (i : ℕ) (q : AxisPoint) → drop i now ≡ drop i old
    → drop (i + 1) (set now i q) ≡ drop (i + 1) old
rest_more now old i q rest = drop-set-lt (i + 1) now i q (omega arith) ∙ drop_more_same now old i rest
