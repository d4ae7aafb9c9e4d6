use Rattle.std.proofs.Common.{◌≡◌, ◌∙◌, refl, ap, ℕ, ◌+◌, ◌*◌, ◌<◌, ◌≤◌, pos, ◌+ℤ◌, unsigned_abs, List, [], ◌∷◌, ◌++◌, append_assoc, length, map, Vec, Global, SFits, w32, w64, of_z, to_z, arith}
use Rattle.std.proofs.lemmas.Int.{ints, to_z-of_z}
use Rattle.std.proofs.lemmas.List.{length-append, length_push, map_push}
use Rattle.std.specs.Vec.Iter.{into_iter_items}
use Rattle.tt_line.specs.Labels.{line_placed, lines_placed}
use Rattle.tt_line.specs.Outcome.{placement_of}
use Rattle.tt_line.proofs.LabelLines.{below_last, one_step_more}
use Rattle.tt_line.proofs.lines.lay_below.Goals.{In-Some}
use Rattle.tt_line.proofs.lines.lay_below.Goals as goal

-- the base line of the next line
value_then : (c : In-Some) → (to_z w64 c.loop-steps.below-bits ≡ pos (length c.loop-steps.yielded * c.args.step) +ℤ c.args.rise)
    × (unsigned_abs (to_z w64 c.loop-steps.below-bits) ≤ 614400 + c.args.extent.height)
value_then c =
    let at = c.loop-steps in
    let k = length at.yielded in
    let fits : SFits w32 c.args.rise = c.ranges.rise in
    let was = simp to_z-of_z at at.invariant.below in
    let steps : into_iter_items at.steps-iterator ≡ c.in-Some.steps ∷ into_iter_items c.next.new.self = c.in-Some.ensures.steps.0 in
    let long = length-append at.yielded (into_iter_items at.steps-iterator) in
    let below : k < length c.args.lines.items = omega (arith, long, ap length at.invariant.all, ap length steps) in
    let bound = below_last k (length c.args.lines.items) c.args.step c.args.extent.height c.args.rise below c.requires.last c.requires.first in
    let value : to_z w64 at.below-bits ≡ pos (k * c.args.step) +ℤ c.args.rise = omega (arith, ints, was, at.below-is) in
    (value, rw value bound)

pub lay_line-requires-clause-rise : goal.lay_line-requires-clause-rise
lay_line-requires-clause-rise c =
    let at = c.loop-steps in
    let near = (value_then (goal.at.lay_line-requires-clause-rise c).In-Some).1 in
    let small : SFits w32 (to_z w64 at.below-bits) = omega (arith, ints, near, c.requires.high.1) in
    let same : to_z w32 (of_z w32 (to_z w64 at.below-bits)) ≡ to_z w64 at.below-bits = simp to_z-of_z refl in
    rw same near

pub overflow_add-below : goal.overflow_add-below
overflow_add-below c =
    let near = (value_then (goal.at.overflow_add-below c).In-Some).1 in
    let step : c.from-below-in-loop-steps.result ≡ pos c.args.step = c.from-below-in-loop-steps.ensures in
    let small : SFits w64 c.from-below-in-loop-steps.result = omega (arith, ints, step, c.requires.step) in
    let same : to_z w64 (of_z w64 c.from-below-in-loop-steps.result) ≡ c.from-below-in-loop-steps.result = simp to_z-of_z refl in
    rw same (omega (arith, ints, near, step, c.requires.step, c.requires.high.1))

pub loop-steps-preserved : goal.loop-steps-preserved
loop-steps-preserved c =
    let at = c.loop-steps in
    let so_far = at.invariant in
    let v = value_then (goal.at.loop-steps-preserved c).In-Some in
    let near = v.1 in
    let s = c.in-Some.steps in
    let left = into_iter_items c.next.new.self in
    let its : Vec (ℕ × ℕ) Global → List (ℕ × ℕ) = λ v. v.items in
    let steps : into_iter_items at.steps-iterator ≡ s ∷ left = c.in-Some.ensures.steps.0 in
    let step : c.from-below-in-loop-steps.result ≡ pos c.args.step = c.from-below-in-loop-steps.ensures in
    let few : SFits w64 c.from-below-in-loop-steps.result = omega (arith, ints, step, c.requires.step) in
    let same : to_z w64 (of_z w64 c.from-below-in-loop-steps.result) ≡ c.from-below-in-loop-steps.result = simp to_z-of_z refl in
    let fits : SFits w64 (to_z w64 at.below-bits +ℤ c.from-below-in-loop-steps.result) = omega (arith, ints, near, step, c.requires.step, c.requires.high.1) in
    let new : to_z w64 (of_z w64 (to_z w64 at.below-bits +ℤ to_z w64 (of_z w64 c.from-below-in-loop-steps.result))) ≡ to_z w64 at.below-bits +ℤ pos c.args.step =
    rw same (simp to_z-of_z (ap (λ n. to_z w64 at.below-bits +ℤ n) step)) in
    let rise_fits : SFits w32 c.args.rise = c.ranges.rise in
    let rise : to_z w32 (of_z w32 c.args.rise) ≡ c.args.rise = simp to_z-of_z refl in
    let small : SFits w32 (to_z w64 at.below-bits) = omega (arith, ints, near, c.requires.high.1) in
    let one : placement_of c.lay_line.result ≡ line_placed c.args.extent c.args.align c.args.inner (to_z w64 at.below-bits) s.items = simp to_z-of_z at c.lay_line.ensures in
    let was = simp to_z-of_z at so_far.placed in
    let value_is : to_z w64 at.below-bits ≡ at.below = at.below-is in
    let placed : map placement_of at.made.items ++ lines_placed c.args.extent c.args.align c.args.inner c.args.step (to_z w64 at.below-bits) (map its (s ∷ left))
    ≡ lines_placed c.args.extent c.args.align c.args.inner c.args.step c.args.rise (map its c.args.lines.items) = cc in
    let pushed = c.in_ok-push.ensures.items in
    let more : length (at.yielded ++ s ∷ []) ≡ length at.yielded + 1 = omega (arith, length_push at.yielded s) in
    record {
      all = append_assoc at.yielded (s ∷ []) left ∙ rw (← steps) so_far.all;
      count = let was = so_far.count in
          let gone = c.in-Some.ensures.steps.1 in
          let short = ap length steps in
          omega arith;
      below = rw (new, rise, v.0, more) (one_step_more (length at.yielded) c.args.step c.args.rise);
      placed = rw (pushed, map_push placement_of at.made.items c.lay_line.result, one, new, rise)
          (append_assoc (map placement_of at.made.items) (line_placed c.args.extent c.args.align c.args.inner (to_z w64 at.below-bits) s.items ∷ [])
          (lines_placed c.args.extent c.args.align c.args.inner c.args.step (to_z w64 at.below-bits +ℤ pos c.args.step) (map its left)) ∙ placed);
    }
