-- A sweep, run by run.
use Rattle.std.proofs.Common.{◌≡◌, ℕ, ◌+◌, ◌-◌, ◌≤◌, List, [], ◌++◌, length, take, drop, sym, append_assoc, length-append, length-drop, arith}
use Rattle.std.proofs.lemmas.List.{drop-drop, drop_all, append-nil, length-take-le}
use Rattle.std.proofs.Math.Seq.{take-append-add, drop-append-add}
use borrow.Rule.Slice.PartMut.{put_mid}
use Rattle.tt_deltas_inference.specs.Sweeps.{swept, IsRun}
use Rattle.tt_deltas_inference.specs.declared.point.AxisPoint.{AxisPoint}

-- a slice to the end is written back
pub written_to_end : (now part : List AxisPoint) (start : ℕ) → start ≤ length now
    → put_mid start (length now - start) now part ≡ take start now ++ part
written_to_end now part start inside =
    let none : drop (length now - start) (drop start now) ≡ [] =
    drop_all (length now - start) (drop start now) (omega (arith, length-drop start now)) in
    rw (none, append-nil part)

-- a list in two parts, the first with a given length
parts_at : (n k : ℕ) (xs ys : List AxisPoint) → n ≡ length xs
    → (take (n + k) (xs ++ ys) ≡ xs ++ take k ys) × (drop (n + k) (xs ++ ys) ≡ drop k ys)
parts_at n k xs ys e = (rw e (take-append-add xs ys k), rw e (drop-append-add xs ys k))

-- the facts after one more run
pub record Further (first : AxisPoint) (whole now old : List AxisPoint) (at : ℕ) (before : AxisPoint) : Type 0 where
  pub place : at ≤ length now
  pub so_far : take at now ++ swept before first (drop at old) ≡ whole
  pub rest : drop at now ≡ drop at old

pub after_run : (before first : AxisPoint) (whole now old part : List AxisPoint) (start len : ℕ) (last : AxisPoint)
    → Further first whole now old start before → IsRun before first (drop start now) part len last
    → Further first whole (take start now ++ part) old (start + len) last
after_run before first whole now old part start len last so is =
    let inside = so.place in
    let long : start ≡ length (take start now) = sym (length-take-le start now inside) in
    let parts = parts_at start len (take start now) part long in
    let later : drop (start + len) old ≡ drop len (drop start old) = sym (drop-drop len start old) in
    let part_is = rw so.rest at is.so_far in
    let rest_is = rw so.rest at is.rest in
    let joined = append_assoc (take start now) (take len part) (swept last first (drop len (drop start old))) in
    let bound = is.bound in
    let many = is.many in
    record {
      place = omega (arith, length-append (take start now) part);
      so_far = rw (parts.0, later, joined, part_is) (so.so_far);
      rest = rw (parts.1, later) rest_is;
    }
