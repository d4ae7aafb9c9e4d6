-- Contours one after another, each in the place of its points.
use Rattle.std.proofs.Common.{◌≡◌, ◌∙◌, ℕ, ◌+◌, ◌-◌, ◌<◌, ◌≤◌, List, [], ◌∷◌, ◌++◌, length, take, drop, get_or, sym, arith, append_assoc}
use Rattle.std.proofs.lemmas.List.{drop_more, drop_all, drop-drop, take-append-drop}
use Rattle.std.proofs.lemmas.Slice.{take-put_mid, drop-put_mid}
use borrow.Rule.Slice.PartMut.{put_mid}
use Rattle.tt_deltas_inference.specs.Bounds.{AreContourEnds}
use Rattle.tt_deltas_inference.specs.Inference.{contour, contours}
use Rattle.tt_deltas_inference.specs.declared.point.AxisPoint.{AxisPoint}

pub inside_of : (from : ℕ) (ends : List ℕ) (n : ℕ) → AreContourEnds from ends n → from ≤ n
inside_of from [] n h = h
inside_of from (end ∷ ends) n h = let rest = inside_of (end + 1) ends n (h.1) in omega (arith, h.0, rest)

-- the next contour
pub record Next (start end : ℕ) (ends : List ℕ) (n : ℕ) : Type 0 where
  pub order : start ≤ end + 1
  pub bound : end + 1 ≤ n
  pub rest : AreContourEnds (end + 1) ends n

next_of : (start end : ℕ) (ends : List ℕ) (n : ℕ) → AreContourEnds start (end ∷ ends) n → Next start end ends n
next_of start end ends n h = record { order = h.0; bound = inside_of (end + 1) ends n (h.1); rest = h.1 }

pub next_end : (start : ℕ) (ends : List ℕ) (i n : ℕ) → i < length ends → AreContourEnds start (drop i ends) n
    → Next start (get_or ends i 0) (drop (i + 1) ends) n
next_end start ends i n there h =
    next_of start (get_or ends i 0) (drop (i + 1) ends) n (rw (drop_more ends i 0 there) at h)

-- the facts after one more contour
pub record Made (whole now old : List AxisPoint) (at : ℕ) (ends : List ℕ) : Type 0 where
  pub so_far : take at now ++ contours at ends old ≡ whole
  pub rest : drop at now ≡ drop at old

-- the points from a place on decide those from a later place on
later : (now old : List AxisPoint) (start past : ℕ) → start ≤ past → drop start now ≡ drop start old
    → drop past now ≡ drop past old
later now old start past order same =
    let sum : start + (past - start) ≡ past = omega arith in
    let a = drop-drop (past - start) start now in
    let b = drop-drop (past - start) start old in
    let x : drop past now ≡ drop (past - start) (drop start now) = rw sum at (sym a) in
    let y : drop (past - start) (drop start old) ≡ drop past old = rw sum at b in
    x ∙ rw same y

pub after_contour : (whole now old part : List AxisPoint) (start past end : ℕ) (ends : List ℕ) → past ≡ end + 1
    → Next start end ends (length old) → length now ≡ length old → Made whole now old start (end ∷ ends)
    → part ≡ contour (take (past - start) (drop start now)) → length part ≡ past - start
    → Made whole (put_mid start (past - start) now part) old past ends
after_contour whole now old part start past end ends is next long made is_part many =
    let order = next.order in
    let bound = next.bound in
    let taken = take-put_mid start (past - start) now part past (omega arith) (omega arith) in
    let left = drop-put_mid start (past - start) now part past (omega arith) (omega arith) many in
    let this : part ≡ contour (take (past - start) (drop start old)) = rw (made.rest) at is_part in
    let so_far : take start now ++ (contour (take (past - start) (drop start old)) ++ contours past ends old) ≡ whole =
    rw (← is) at (made.so_far) in
    record {
      so_far = rw (taken, append_assoc (take start now) part (contours past ends old), this) so_far;
      rest = left ∙ later now old start past (omega arith) made.rest;
    }

-- the facts after the last contour
pub whole_made : (whole now old : List AxisPoint) (start i : ℕ) (ends : List ℕ) → length ends ≤ i
    → Made whole now old start (drop i ends) → now ≡ whole
whole_made whole now old start i ends past made =
    let none = drop_all i ends past in
    let so_far = rw none at made.so_far in
    let joined : take start now ++ drop start now ≡ whole = rw (made.rest) so_far in
    sym (take-append-drop start now) ∙ joined
