use Rattle.std.proofs.Common.{◌≡◌, ◌+◌, ◌<◌, List, [], ◌∷◌, ◌++◌, inl, length, chars, map, drop, sym, ap, ◌∙◌, arith}
use Rattle.std.proofs.lemmas.Iterator.Consumers.{YieldsList-from_first, count_from_yields_List}
use Rattle.std.proofs.lemmas.List.{length_push, length-map, map-append}
use Rattle.tt_cmap.specs.declared.units.TextUnit.{TextUnit}
use Rattle.tt_cmap.specs.Maps.{has_pairs, units_by}
use Rattle.tt_cmap.proofs.UnitLaws.{units-are-few}
use Rattle.tt_c_calls.specs.Maps.{glyph_told}
use Rattle.tt_c_calls.proofs.Entries.{none_further, one_further, one_more}
use Rattle.tt_c_calls.proofs.mapping.write_glyphs.Goals.{After-count-count}
use Rattle.tt_c_calls.proofs.mapping.write_glyphs.Goals as goal

pub count-count-requires-clause-fits : goal.count-count-requires-clause-fits
count-count-requires-clause-fits c =
    let us = units_by c.args.face.now.cmap (chars c.args.text.now) in
    let from : c.units.result ≡ us = rw c.cmap.ensures.exact at c.units.ensures in
    let few = units-are-few (has_pairs c.args.face.now.cmap) (chars c.args.text.now) in
    inl (rw from (omega (arith, few, c.requires)))

-- the count is that of the units
counted : (c : After-count-count) → c.count-count.result ≡ length (units_by c.args.face.now.cmap (chars c.args.text.now))
counted c =
    let us = units_by c.args.face.now.cmap (chars c.args.text.now) in
    let from : c.units.result ≡ us = rw c.cmap.ensures.exact at c.units.ensures in
    count_from_yields_List c.units.result c.count-count.result c.count-count.ensures.ran
    (YieldsList-from_first (λ (u : TextUnit). u) (λ (left : List TextUnit). left) us from)

pub returns-then-count-room-clause-small : goal.returns-then-count-room-clause-small
returns-then-count-room-clause-small c =
    let all = counted (goal.at.returns-then-count-room-clause-small c).After-count-count in
    λ h. (omega (arith, all, c.if-count-room.true), rw (← all) c.sized.ensures)

pub bounds-room-i : goal.bounds-room-i
bounds-room-i c =
    let us = units_by c.args.face.now.cmap (chars c.args.text.now) in
    let all = counted (goal.at.bounds-room-i c).After-count-count in
    let further = one_further c.loop-unit.yielded c.loop-unit.unit-iterator _ us c.in-Some.unit c.in-Some.ensures.steps c.loop-unit.invariant.split in
    omega (arith, all, further.1, c.loop-unit.auto.room, c.if-count-room.false, c.loop-unit.invariant.count)

pub loop-unit-preserved : goal.loop-unit-preserved
loop-unit-preserved c =
    let us = units_by c.args.face.now.cmap (chars c.args.text.now) in
    let told = glyph_told c.args.face.now.metrics c.args.face.now.cmap in
    let so_far = c.loop-unit.invariant in
    let before = c.loop-unit.yielded in
    let old = c.args.room.now in
    let i = c.loop-unit.i in
    let all = counted (goal.at.loop-unit-preserved c).After-count-count in
    let further = one_further before c.loop-unit.unit-iterator _ us c.in-Some.unit c.in-Some.ensures.steps so_far.split in
    let within : i < length old = omega (arith, all, further.1, c.if-count-room.false, so_far.count) in
    let many : i ≡ length (map told before) = rw length-map so_far.count in
    record {
      split = further.0;
      count = omega (arith, so_far.count, length_push before c.in-Some.unit);
      room = rw (so_far.room, c.glyph_of.ensures) (one_more (map told before) old i (told c.in-Some.unit) many within
          ∙ ap (λ m. m ++ drop (i + 1) old) (sym (map-append told before (c.in-Some.unit ∷ []))));
    }

pub returns-clause-done : goal.returns-clause-done
returns-clause-done c =
    let us = units_by c.args.face.now.cmap (chars c.args.text.now) in
    let so_far = c.loop-unit.invariant in
    let every = none_further c.loop-unit.yielded c.loop-unit.unit-iterator us c.in-None.ensures.steps.0 so_far.split in
    let all = counted (goal.at.returns-clause-done c).After-count-count in
    λ h. (
      rw (← every, length-map, ← so_far.count) so_far.room,
      rw (length-map, ← all) c.sized-2.ensures,
    )
