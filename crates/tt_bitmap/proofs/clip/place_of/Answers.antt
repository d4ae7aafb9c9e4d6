use Rattle.std.proofs.Common.{◌+◌, ◌-◌, ◌*◌, ◌%◌, ◌∙◌, sym, SFits, w64, rules, arith, refl}
use Rattle.std.proofs.lemmas.Int.{ints, to_z-of_z}
use Rattle.tt_bitmap.proofs.Clips.{IsClipped, IsPlaced, none_shown, none_stamped, placed}
use Rattle.tt_bitmap.proofs.clip.place_of.Goals as goal

pub returns-then-to-from-clause-shown : goal.returns-then-to-from-clause-shown
returns-then-to-from-clause-shown c = λ word k fits.
    let at : SFits w64 c.args.at = c.ranges.at in
    let edge : SFits w64 c.from.result = search rules in
    let clipped : IsClipped c.args.at c.args.room c.args.width c.distance-from.result c.distance-to.result = record {
      before = rw c.from.ensures at (simp to_z-of_z at c.distance-to.ensures.before);
      past = rw c.from.ensures at (simp to_z-of_z at c.distance-to.ensures.past);
      left = simp to_z-of_z at c.distance-from.ensures.before;
      right = simp to_z-of_z at c.distance-from.ensures.past;
      most = c.distance-to.ensures.most;
      few = c.requires.room;
    } in
    none_stamped 0 0 word k (omega arith)
    ∙ sym (none_shown c.args.at c.args.room c.args.width c.distance-from.result c.distance-to.result word k clipped (omega (arith, c.if-to-from.true)))

pub returns-clause-shown : goal.returns-clause-shown
returns-clause-shown c = λ word k fits.
    let at : SFits w64 c.args.at = c.ranges.at in
    let edge : SFits w64 c.from.result = search rules in
    let clipped : IsClipped c.args.at c.args.room c.args.width c.distance-from.result c.distance-to.result = record {
      before = rw c.from.ensures at (simp to_z-of_z at c.distance-to.ensures.before);
      past = rw c.from.ensures at (simp to_z-of_z at c.distance-to.ensures.past);
      left = simp to_z-of_z at c.distance-from.ensures.before;
      right = simp to_z-of_z at c.distance-from.ensures.past;
      most = c.distance-to.ensures.most;
      few = c.requires.room;
    } in
    let high = c.if-to-from.false in
    let last = clipped.before (c.distance-to.result - 1) (omega (arith, high)) in
    let is_first = simp to_z-of_z at c.column_of-first.ensures.exact in
    let place : IsPlaced c.args.at c.min-start.result ((64 + (c.column_of-first.result - 8 * c.min-start.result) - c.distance-from.result) % 64)
    c.column_of-first.result c.distance-from.result c.distance-to.result = record {
      is_first = is_first;
      begins = omega (arith, c.min-start.ensures);
      ends = omega (arith, ints, last, is_first, c.min-start.ensures, c.saturating_sub.ensures, high, c.distance-to.ensures.most, c.requires.room, c.requires.width);
      turns = refl;
    } in
    placed c.args.at c.args.room c.args.width c.min-start.result _ c.ones.result c.column_of-first.result c.distance-from.result c.distance-to.result
    word k clipped place c.ones.ensures fits (search rules)
