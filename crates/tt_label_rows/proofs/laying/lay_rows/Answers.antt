use Rattle.std.proofs.Common.{◌≡◌, ◌∙◌, refl, ap, ℕ, ◌+◌, ◌*◌, ◌<◌, ◌≤◌, pos, ◌+ℤ◌, unsigned_abs, List, [], ◌∷◌, ◌++◌, append_assoc, length, map, Vec, Global, SFits, w32, w64, of_z, to_z, arith}
use Rattle.std.proofs.lemmas.Int.{ints, to_z-of_z}
use Rattle.std.proofs.lemmas.List.{length-append, length_push, map_push}
use Rattle.std.specs.Vec.Iter.{into_iter_items}
use Rattle.tt_label_rows.specs.Pictures.{row_placed, rows_placed}
use Rattle.tt_line.specs.Outcome.{placement_of}
use Rattle.tt_line.proofs.LabelLines.{one_step_more}
use Rattle.tt_label_rows.proofs.InTheMiddle.{below_last}
use Rattle.tt_label_rows.proofs.laying.lay_rows.Goals.{In-Some}
use Rattle.tt_label_rows.proofs.laying.lay_rows.Goals as goal

-- the base line of the next line
value_then : (c : In-Some) → (to_z w64 c.loop-row.below-bits ≡ pos (length c.loop-row.yielded * c.args.step) +ℤ c.args.rise)
    × (unsigned_abs (to_z w64 c.loop-row.below-bits) ≤ 614400 + c.args.picture.height)
value_then c =
    let at = c.loop-row in
    let k = length at.yielded in
    let fits : SFits w32 c.args.rise = c.ranges.rise in
    let was = simp to_z-of_z at at.invariant.below in
    let steps : into_iter_items at.row-iterator ≡ c.in-Some.row ∷ into_iter_items c.next.new.self = c.in-Some.ensures.steps.0 in
    let long = length-append at.yielded (into_iter_items at.row-iterator) in
    let below : k < length c.args.rows.items = omega (arith, long, ap length at.invariant.all, ap length steps) in
    let bound = below_last k (length c.args.rows.items) c.args.step c.args.picture.height c.args.rise below c.requires.last c.requires.first in
    let value : to_z w64 at.below-bits ≡ pos (k * c.args.step) +ℤ c.args.rise = omega (arith, ints, was, at.below-is) in
    (value, rw value bound)

pub lay_row-requires-clause-rise : goal.lay_row-requires-clause-rise
lay_row-requires-clause-rise c =
    let at = c.loop-row in
    let near = (value_then (goal.at.lay_row-requires-clause-rise c).In-Some).1 in
    let small : SFits w32 (to_z w64 at.below-bits) = omega (arith, ints, near, c.requires.picture.height) in
    let same : to_z w32 (of_z w32 (to_z w64 at.below-bits)) ≡ to_z w64 at.below-bits = simp to_z-of_z refl in
    rw same near

pub overflow_add-below : goal.overflow_add-below
overflow_add-below c =
    let near = (value_then (goal.at.overflow_add-below c).In-Some).1 in
    let step : c.from-below-in-loop-row.result ≡ pos c.args.step = c.from-below-in-loop-row.ensures in
    let small : SFits w64 c.from-below-in-loop-row.result = omega (arith, ints, step, c.requires.step) in
    let same : to_z w64 (of_z w64 c.from-below-in-loop-row.result) ≡ c.from-below-in-loop-row.result = simp to_z-of_z refl in
    rw same (omega (arith, ints, near, step, c.requires.step, c.requires.picture.height))

pub loop-row-preserved : goal.loop-row-preserved
loop-row-preserved c =
    let at = c.loop-row in
    let so_far = at.invariant in
    let v = value_then (goal.at.loop-row-preserved c).In-Some in
    let near = v.1 in
    let s = c.in-Some.row in
    let left = into_iter_items c.next.new.self in
    let its : Vec (ℕ × ℕ) Global → List (ℕ × ℕ) = λ v. v.items in
    let steps : into_iter_items at.row-iterator ≡ s ∷ left = c.in-Some.ensures.steps.0 in
    let step : c.from-below-in-loop-row.result ≡ pos c.args.step = c.from-below-in-loop-row.ensures in
    let few : SFits w64 c.from-below-in-loop-row.result = omega (arith, ints, step, c.requires.step) in
    let same : to_z w64 (of_z w64 c.from-below-in-loop-row.result) ≡ c.from-below-in-loop-row.result = simp to_z-of_z refl in
    let fits : SFits w64 (to_z w64 at.below-bits +ℤ c.from-below-in-loop-row.result) = omega (arith, ints, near, step, c.requires.step, c.requires.picture.height) in
    let new : to_z w64 (of_z w64 (to_z w64 at.below-bits +ℤ to_z w64 (of_z w64 c.from-below-in-loop-row.result))) ≡ to_z w64 at.below-bits +ℤ pos c.args.step =
    rw same (simp to_z-of_z (ap (λ n. to_z w64 at.below-bits +ℤ n) step)) in
    let rise_fits : SFits w32 c.args.rise = c.ranges.rise in
    let rise : to_z w32 (of_z w32 c.args.rise) ≡ c.args.rise = simp to_z-of_z refl in
    let small : SFits w32 (to_z w64 at.below-bits) = omega (arith, ints, near, c.requires.picture.height) in
    let one : placement_of c.lay_row.result ≡ row_placed c.args.picture (to_z w64 at.below-bits) s.items = simp to_z-of_z at c.lay_row.ensures in
    let was = simp to_z-of_z at so_far.placed in
    let value_is : to_z w64 at.below-bits ≡ at.below = at.below-is in
    let placed : map placement_of at.made.items ++ rows_placed c.args.picture c.args.step (to_z w64 at.below-bits) (map its (s ∷ left))
    ≡ rows_placed c.args.picture c.args.step c.args.rise (map its c.args.rows.items) = cc in
    let pushed = c.in_ok-push.ensures.items in
    let more : length (at.yielded ++ s ∷ []) ≡ length at.yielded + 1 = omega (arith, length_push at.yielded s) in
    record {
      all = append_assoc at.yielded (s ∷ []) left ∙ rw (← steps) so_far.all;
      count = let was = so_far.count in
          let gone = c.in-Some.ensures.steps.1 in
          let short = ap length steps in
          omega arith;
      below = rw (new, rise, v.0, more) (one_step_more (length at.yielded) c.args.step c.args.rise);
      placed = rw (pushed, map_push placement_of at.made.items c.lay_row.result, one, new, rise)
          (append_assoc (map placement_of at.made.items) (row_placed c.args.picture (to_z w64 at.below-bits) s.items ∷ [])
          (rows_placed c.args.picture c.args.step (to_z w64 at.below-bits +ℤ pos c.args.step) (map its left)) ∙ placed);
    }

pub overflow_cast-below : goal.overflow_cast-below
overflow_cast-below c =
    let near = (value_then (goal.at.overflow_cast-below c).In-Some).1 in
    omega (arith, ints, near, c.requires.picture.height)
