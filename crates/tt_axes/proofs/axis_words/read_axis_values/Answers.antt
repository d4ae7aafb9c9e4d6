use Rattle.std.proofs.Common.{◌≡◌, ◌∙◌, sym, Some, None}
use Rattle.tt_core.proofs.Pieces.{ends, goes_on, shorter, stops}
use Rattle.tt_core.specs.Cutting.{after, before}
use Rattle.tt_axes.specs.AxisWords.{axis_value_of, axis_values_of}
use Rattle.tt_axes.proofs.axis_words.read_axis_values.Goals as goal

pub returns-in_default : goal.returns-in_default
unfolding axis_values_of
returns-in_default c =
    let t = c.loop-value.rest.now in
    let none : axis_value_of (before 44 t) ≡ None = rw c.cut.ensures.before at (sym c.in_default.ensures) in
    sym (stops axis_value_of c.loop-value.values.items 44 t none) ∙ c.loop-value.invariant

pub returns-in-None : goal.returns-in-None
unfolding axis_values_of
returns-in-None c =
    let t = c.loop-value.rest.now in
    let is : axis_value_of (before 44 t) ≡ Some c.in-Some.value = rw c.cut.ensures.before at (sym c.in-Some.ensures) in
    let last : after 44 t ≡ None = sym (rw c.in-None.is at c.cut.ensures.after) in
    rw c.in_ok-push.ensures.items (sym (ends axis_value_of c.loop-value.values.items 44 t c.in-Some.value is last) ∙ c.loop-value.invariant)

pub loop-value-smaller : goal.loop-value-smaller
loop-value-smaller c =
    let t = c.loop-value.rest.now in
    let next = c.in-Some-more.next.now in
    let more : after 44 t ≡ Some next = sym (rw c.in-Some-more.is at c.cut.ensures.after) in
    shorter 44 t next more

pub loop-value-preserved : goal.loop-value-preserved
loop-value-preserved c =
    let t = c.loop-value.rest.now in
    let next = c.in-Some-more.next.now in
    let values = c.loop-value.values.items in
    let value = c.in-Some.value in
    let is : axis_value_of (before 44 t) ≡ Some value = rw c.cut.ensures.before at (sym c.in-Some.ensures) in
    let more : after 44 t ≡ Some next = sym (rw c.in-Some-more.is at c.cut.ensures.after) in
    rw c.in_ok-push.ensures.items (goes_on axis_value_of values 44 t next value is more ∙ c.loop-value.invariant)
