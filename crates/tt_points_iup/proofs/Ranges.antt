-- Contours one after another, each in the place of its points.
use Rattle.std.proofs.Common.{◌≡◌, ◌∙◌, ℕ, ◌+◌, ◌-◌, ◌<◌, ◌≤◌, List, [], ◌∷◌, ◌++◌, length, take, drop, get_or, All, Err, sym, arith, append_assoc}
use Rattle.std.proofs.lemmas.List.{drop_more, drop_all, drop-drop, take-append-drop}
use Rattle.std.proofs.lemmas.Slice.{take-put_mid, drop-put_mid}
use Rattle.std.proofs.lemmas.List.Elements.{All-append, All-take, All-drop}
use Rattle.tt_core.specs.declared.fault.Why.{Why}
use borrow.Rule.Slice.PartMut.{put_mid}
use Rattle.tt_state.specs.declared.point.Point.{Point}
use Rattle.tt_points_zones.specs.Zones.{AreContours, IsPoint}
use Rattle.tt_points_iup.specs.Interpolation as is
use Rattle.tt_points_iup.specs.Interpolation.{limited}
use Rattle.tt_points_iup.specs.declared.place.Along.{Along}
use Rattle.tt_points_iup.proofs.Limits.{limited_behind, limited_before}

pub inside_of : (from : ℕ) (ranges : List (ℕ × ℕ)) (n : ℕ) → AreContours from ranges n → from ≤ n
inside_of from [] n h = h
inside_of from (range ∷ ranges) n h =
    let rest = inside_of (range.1) ranges n (h.2) in omega (arith, h.1, rest)

-- the next contour
pub record Next (start : ℕ) (range : ℕ × ℕ) (ranges : List (ℕ × ℕ)) (n : ℕ) : Type 0 where
  pub from : range.0 ≡ start
  pub order : start ≤ range.1
  pub bound : range.1 ≤ n
  pub rest : AreContours range.1 ranges n

next_of : (start : ℕ) (range : ℕ × ℕ) (ranges : List (ℕ × ℕ)) (n : ℕ) → AreContours start (range ∷ ranges) n
    → Next start range ranges n
next_of start range ranges n h =
    record { from = h.0; order = h.1; bound = inside_of (range.1) ranges n (h.2); rest = h.2 }

pub next_range : (start : ℕ) (ranges : List (ℕ × ℕ)) (i n : ℕ) → i < length ranges → AreContours start (drop i ranges) n
    → Next start (get_or ranges i (0, 0)) (drop (i + 1) ranges) n
next_range start ranges i n there h =
    next_of start (get_or ranges i (0, 0)) (drop (i + 1) ranges) n (rw (drop_more ranges i (0, 0) there) at h)

-- the facts after one more contour
pub record Made (along : Along) (whole now old : List Point) (at : ℕ) (ranges : List (ℕ × ℕ)) : Type 0 where
  pub so_far : take at now ++ is.contours along at ranges old ≡ whole
  pub rest : drop at now ≡ drop at old

-- the points from a place on decide those from a later place on
later : (now old : List Point) (start past : ℕ) → start ≤ past → drop start now ≡ drop start old
    → drop past now ≡ drop past old
later now old start past order same =
    let sum : start + (past - start) ≡ past = omega arith in
    let a = drop-drop (past - start) start now in
    let b = drop-drop (past - start) start old in
    let x : drop past now ≡ drop (past - start) (drop start now) = rw sum at (sym a) in
    let y : drop (past - start) (drop start old) ≡ drop past old = rw sum at b in
    x ∙ rw same y

pub after_contour : (along : Along) (whole now old part : List Point) (start : ℕ) (range : ℕ × ℕ)
    (ranges : List (ℕ × ℕ))
    → Next start range ranges (length old) → length now ≡ length old
    → Made along whole now old start (range ∷ ranges)
    → is.contour along (take (range.1 - start) (drop start now)) ≡ part → length part ≡ range.1 - start
    → Made along whole (put_mid start (range.1 - start) now part) old (range.1) ranges
after_contour along whole now old part start range ranges next long made is_part many =
    let order = next.order in
    let bound = next.bound in
    let taken = take-put_mid start (range.1 - start) now part (range.1) (omega arith) (omega arith) in
    let left = drop-put_mid start (range.1 - start) now part (range.1) (omega arith) (omega arith) many in
    let this : is.contour along (take (range.1 - start) (drop start old)) ≡ part = rw (made.rest) at is_part in
    let so_far = rw (next.from, this) at made.so_far in
    record {
      so_far = rw (taken, append_assoc (take start now) part (is.contours along (range.1) ranges old)) so_far;
      rest = left ∙ later now old start (range.1) order made.rest;
    }

-- the facts after the last contour
pub whole_made : (along : Along) (whole now old : List Point) (start i : ℕ) (ranges : List (ℕ × ℕ)) → length ranges ≤ i
    → start ≤ length old → Made along whole now old start (drop i ranges) → now ≡ whole
whole_made along whole now old start i ranges past inside made =
    let none = drop_all i ranges past in
    let so_far = rw none at made.so_far in
    let joined : take start now ++ drop start now ≡ whole = rw (made.rest) so_far in
    sym (take-append-drop start now) ∙ joined

-- a fault of the next one is a fault of all
pub contour_outside : (along : Along) (whole now old : List Point) (start : ℕ) (range : ℕ × ℕ) (ranges : List (ℕ × ℕ))
    (fault : Why)
    → Next start range ranges (length old) → Made along whole now old start (range ∷ ranges)
    → limited along.axis (is.contour along (take (range.1 - start) (drop start now))) ≡ Err fault
    → limited along.axis whole ≡ Err fault
contour_outside along whole now old start range ranges fault next made bad =
    let here : limited along.axis (is.contour along (take (range.1 - start) (drop start old))) ≡ Err fault =
    rw (made.rest) at bad in
    let part = is.contour along (take (range.1 - start) (drop start old)) in
    let behind = is.contours along (range.1) ranges old in
    let before = limited_before along.axis part behind fault here in
    let more = limited_behind along.axis (take start now) (part ++ behind) fault before in
    let so_far : take start now ++ (part ++ behind) ≡ whole = rw (next.from) at made.so_far in
    rw so_far at more

pub put_sound : (a k : ℕ) (now part : List Point) → All IsPoint now → All IsPoint part
    → All IsPoint (put_mid a k now part)
put_sound a k now part old new =
    All-append IsPoint (take a now) (part ++ drop k (drop a now)) (All-take IsPoint a now old)
    (All-append IsPoint part (drop k (drop a now)) new (All-drop IsPoint k (drop a now) (All-drop IsPoint a now old)))
