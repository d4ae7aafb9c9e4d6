use Rattle.std.proofs.Common.{◌≡◌, ◌∙◌, sym, Some, None}
use Rattle.std.proofs.lemmas.List.Elements.{All-push}
use Rattle.tt_core.proofs.Pieces.{ends, goes_on, shorter, stops}
use Rattle.tt_core.specs.Cutting.{after, before}
use Rattle.tt_bdf.specs.Ranges.{IsCodeRange, range_of, ranges_of}
use Rattle.tt_bdf.proofs.range.read_ranges.Goals as goal

pub returns-in_default-clause-exact : goal.returns-in_default-clause-exact
unfolding ranges_of
returns-in_default-clause-exact c =
    let t = c.loop-range.rest.now in
    let none : range_of (before 44 t) ≡ None = rw c.cut.ensures.before at (sym c.in_default.ensures.exact) in
    sym (stops range_of c.loop-range.ranges.items 44 t none) ∙ c.loop-range.invariant.all

pub returns-in-None-clause-exact : goal.returns-in-None-clause-exact
unfolding ranges_of
returns-in-None-clause-exact c =
    let t = c.loop-range.rest.now in
    let is : range_of (before 44 t) ≡ Some c.in-Some.range = rw c.cut.ensures.before at (sym c.in-Some.ensures.exact) in
    let last : after 44 t ≡ None = sym (rw c.in-None.is at c.cut.ensures.after) in
    rw c.in_ok-push.ensures.items (sym (ends range_of c.loop-range.ranges.items 44 t c.in-Some.range is last) ∙ c.loop-range.invariant.all)

pub loop-range-smaller : goal.loop-range-smaller
loop-range-smaller c =
    let t = c.loop-range.rest.now in
    let next = c.in-Some-more.next.now in
    let more : after 44 t ≡ Some next = sym (rw c.in-Some-more.is at c.cut.ensures.after) in
    shorter 44 t next more

pub loop-range-preserved : goal.loop-range-preserved
loop-range-preserved c =
    let t = c.loop-range.rest.now in
    let next = c.in-Some-more.next.now in
    let ranges = c.loop-range.ranges.items in
    let range = c.in-Some.range in
    let is : range_of (before 44 t) ≡ Some range = rw c.cut.ensures.before at (sym c.in-Some.ensures.exact) in
    let more : after 44 t ≡ Some next = sym (rw c.in-Some-more.is at c.cut.ensures.after) in
    record {
      all = rw c.in_ok-push.ensures.items (goes_on range_of ranges 44 t next range is more ∙ c.loop-range.invariant.all);
      codes = rw c.in_ok-push.ensures.items (All-push IsCodeRange ranges range c.loop-range.invariant.codes c.in-Some.ensures.codes);
    }
