use Rattle.std.proofs.Common.{◌≡◌, ◌∙◌, ◌+◌, ◌-◌, ◌/◌, ◌^◌, suc, string_bytes, arith}
use Rattle.tt_axes.proofs.ShownDigits.{digit-below, digit-pushed, rest-below}
use Rattle.tt_axes.proofs.shown.push_digits.Goals as goal

pub loop-i-preserved : goal.loop-i-preserved
loop-i-preserved c =
    let rest = c.loop-i.rest in
    let m = 5 - (c.loop-i.i + 1) in
    let weight : c.last_weight-weight.result ≡ 10 ^ m = c.last_weight-weight.ensures.exact in
    let more : 5 - c.loop-i.i ≡ suc m = omega arith in
    let digit = digit-below rest (5 - c.loop-i.i) m more c.loop-i.invariant.small in
    let is : c.from.result ≡ 48 + rest / 10 ^ m = rw weight at c.from.ensures in
    let one = rw is at (c.in_ok-push.ensures.ascii (omega (arith, is, digit))) in
    let bytes = rw (is, one) at c.in_ok-push.ensures.bytes in
    let whole = digit-pushed (string_bytes c.loop-i.text) (string_bytes c.push.new.self) rest (5 - c.loop-i.i) m more c.if-rest-eq0.false bytes in
    record { text = rw weight (whole ∙ c.loop-i.invariant.text); small = rw weight (rest-below rest m) }
