-- A sweep, run by run.
use Rattle.std.proofs.Common.{◌≡◌, ℕ, ◌+◌, ◌≤◌, List, ◌++◌, length, take, drop, sym, append_assoc}
use Rattle.std.proofs.lemmas.List.{drop-drop, length-take-le, take-append-drop}
use Rattle.std.proofs.Math.Seq.{take-append-add, drop-append-add}
use Rattle.tt_state.specs.declared.point.Point.{Point}
use Rattle.tt_points_iup.specs.Sweeps.{swept, IsRun}
use Rattle.tt_points_iup.specs.declared.place.Along.{Along}

-- points with an unchanged front
pub front_kept : (now new : List Point) (start : ℕ) → take start new ≡ take start now
    → take start now ++ drop start new ≡ new
front_kept now new start front = rw (← front) (take-append-drop start new)

-- a list in two parts, the first with a given length
parts_at : (n k : ℕ) (xs ys : List Point) → n ≡ length xs
    → (take (n + k) (xs ++ ys) ≡ xs ++ take k ys) × (drop (n + k) (xs ++ ys) ≡ drop k ys)
parts_at n k xs ys e = (rw e (take-append-add xs ys k), rw e (drop-append-add xs ys k))

-- the facts after one more run
pub record Further (along : Along) (first : Point) (whole now old : List Point) (at : ℕ) (before : Point) : Type 0 where
  pub so_far : take at now ++ swept along before first (drop at old) ≡ whole
  pub rest : drop at now ≡ drop at old

pub after_run : (along : Along) (before first : Point) (whole now old part : List Point) (start len : ℕ) (last : Point)
    → start ≤ length now → Further along first whole now old start before
    → IsRun along before first (drop start now) part len last
    → Further along first whole (take start now ++ part) old (start + len) last
after_run along before first whole now old part start len last inside so is =
    let long : start ≡ length (take start now) = sym (length-take-le start now inside) in
    let parts = parts_at start len (take start now) part long in
    let later : drop (start + len) old ≡ drop len (drop start old) = sym (drop-drop len start old) in
    let part_is = rw so.rest at is.so_far in
    let rest_is = rw so.rest at is.rest in
    let joined = append_assoc (take start now) (take len part) (swept along last first (drop len (drop
    start old))) in
    record {
      so_far = rw (parts.0, later, joined, part_is) (so.so_far);
      rest = rw (parts.1, later) rest_is;
    }
