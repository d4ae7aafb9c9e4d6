-- Points interpolated in place, one after another.
use Rattle.std.proofs.Common.{◌≡◌, ◌∙◌, ℕ, ◌+◌, ◌<◌, ◌≤◌, pos, false, List, length, map, take, drop, get_or, set, Ok, Err, All, length-drop, sym, refl, arith}
use Rattle.std.proofs.lemmas.Grind.{drop_more_same}
use Rattle.std.proofs.lemmas.List.{take_more_set, take-set-le, drop_more, drop-set-lt, drop-set-add, map_more, get_or-drop, get_or-take, length-take-le}
use Rattle.std.proofs.lemmas.List.Elements.{All-drop, All-take}
use Rattle.tt_core.specs.declared.fault.Why.{Why}
use Rattle.tt_state.specs.declared.graphics_state.Axis.{Axis}
use Rattle.tt_state.specs.declared.point.Point.{Point}
use Rattle.tt_points_zones.specs.Zones.{IsPoint}
use Rattle.tt_points_iup.specs.Interpolation.{limited, limited_point}
use Rattle.tt_points_iup.proofs.Limits.{limited_ok, one_outside}

-- a read past the end of a list of points
abbrev pub blank : Point
blank = record { units_x = pos 0; units_y = pos 0; org_x = pos 0; org_y = pos 0; x = pos 0; y = pos 0; touched_x = false; touched_y = false; on = false }

-- lists that agree from a place on have the same element there
pub same_point : (now old : List Point) (i : ℕ) (d : Point) → i < length now → i < length old → drop i now ≡ drop i old
    → get_or now i d ≡ get_or old i d
same_point now old i d here there same =
    let x = drop_more now i d here in let y = drop_more old i d there in cc

pub filled_more : (f : Point → Point) (now old : List Point) (i : ℕ) (d q : Point) → i < length now → i < length old
    → take i now ≡ map f (take i old) → drop i now ≡ drop i old → f (get_or now i d) ≡ q
    → take (i + 1) (set now i q) ≡ map f (take (i + 1) old)
filled_more f now old i d q here there so_far rest is =
    let same = same_point now old i d here there rest in
    let made : f (get_or old i d) ≡ q = rw same at is in
    rw (take_more_set now i q here, map_more f old i d there, so_far, made) refl

pub rest_more : (now old : List Point) (i : ℕ) (q : Point) → drop i now ≡ drop i old
    → drop (i + 1) (set now i q) ≡ drop (i + 1) old
rest_more now old i q rest = drop-set-lt (i + 1) now i q (omega arith) ∙ drop_more_same now old i rest

-- k points from a place on are interpolated, and the others are unchanged
pub record Filled (f : Point → Point) (now old : List Point) (start k : ℕ) : Type 0 where
  pub front : take start now ≡ take start old
  pub so_far : take k (drop start now) ≡ map f (take k (drop start old))
  pub rest : drop k (drop start now) ≡ drop k (drop start old)

left_from : (xs : List Point) (start k : ℕ) → start + k < length xs → k < length (drop start xs)
left_from xs start k inside = omega (arith, length-drop start xs)

-- the next point is unchanged
pub next_point : (f : Point → Point) (now old : List Point) (start k : ℕ) → start + k < length now
    → start + k < length old → Filled f now old start k
    → get_or now (start + k) blank ≡ get_or (drop start old) k blank
next_point f now old start k here there filled =
    sym (get_or-drop start now k blank)
    ∙ same_point (drop start now) (drop start old) k blank (left_from now start k here) (left_from old start k there)
    filled.rest

pub filled_at : (f : Point → Point) (now old : List Point) (start k : ℕ) (q : Point) → start + k < length now
    → start + k < length old → Filled f now old start k → f (get_or now (start + k) blank) ≡ q
    → Filled f (set now (start + k) q) old start (k + 1)
filled_at f now old start k q here there filled is =
    let one = left_from now start k here in
    let other = left_from old start k there in
    let made : f (get_or (drop start now) k blank) ≡ q = rw (get_or-drop start now k blank) is in
    let set_at = drop-set-add start now k q in
    record {
      front = take-set-le start now (start + k) q (omega arith) ∙ filled.front;
      so_far = rw set_at
          (filled_more f (drop start now) (drop start old) k blank q one other filled.so_far filled.rest made);
      rest = rw set_at (rest_more (drop start now) (drop start old) k q filled.rest);
    }

-- a point outside the limit is one of those to interpolate
pub next_outside : (axis : Axis) (f : Point → Point) (now old : List Point) (start k len : ℕ) (fault : Why) → k < len
    → start + len ≤ length now → length now ≡ length old → Filled f now old start k
    → limited_point axis (f (get_or now (start + k) blank)) ≡ Err fault
    → limited axis (map f (take len (drop start old))) ≡ Err fault
next_outside axis f now old start k len fault within inside many filled bad =
    let same = next_point f now old start k (omega arith) (omega arith) filled in
    let taken = get_or-take len (drop start old) k blank within in
    let long : k < length (take len (drop start old)) =
    omega (arith, length-take-le len (drop start old) (omega (arith, length-drop start old))) in
    one_outside axis f (take len (drop start old)) k blank fault long (rw (taken, ← same) bad)

pub all_made : (axis : Axis) (f : Point → Point) (now old : List Point) (start len : ℕ) → Filled f now old start len
    → All IsPoint now → limited axis (map f (take len (drop start old))) ≡ Ok (take len (drop start now))
all_made axis f now old start len filled valid =
    rw (← filled.so_far) (limited_ok axis (take len (drop start now))
    (All-take IsPoint len (drop start now) (All-drop IsPoint start now valid)))
