use Rattle.std.proofs.Common.{◌*◌, ◌^◌, ◌≤◌, arith}
use Rattle.tt_scan_dropouts.proofs.Places.{few_bytes, place_within}
use Rattle.tt_scan_dropouts.proofs.bitmap.place.Goals as goal

pub overflow_mul-result : goal.overflow_mul-result
overflow_mul-result c =
    let rows : c.offset-above.result ≤ 4100 = omega (arith, c.offset-above.ensures.within, c.requires.window.high) in
    let few : c.stride.result * c.offset-above.result ≤ 2 ^ 17 * 4100 = rw c.stride.ensures (few_bytes c.args.window.width c.offset-above.result c.requires.window.width rows) in
    omega (arith, few)

pub overflow_mul-result-2 : goal.overflow_mul-result-2
overflow_mul-result-2 c =
    let rows : c.offset-above.result ≤ 4100 = omega (arith, c.offset-above.ensures.within, c.requires.window.high) in
    let few : c.stride.result * c.offset-above.result ≤ 2 ^ 17 * 4100 = rw c.stride.ensures (few_bytes c.args.window.width c.offset-above.result c.requires.window.width rows) in
    omega (arith, few)

pub overflow_add-result : goal.overflow_add-result
overflow_add-result c =
    let rows : c.offset-above.result ≤ 4100 = omega (arith, c.offset-above.ensures.within, c.requires.window.high) in
    let few : c.stride.result * c.offset-above.result ≤ 2 ^ 17 * 4100 = rw c.stride.ensures (few_bytes c.args.window.width c.offset-above.result c.requires.window.width rows) in
    omega (arith, few, c.offset.ensures.within, c.requires.window.width)

pub returns-clause-within : goal.returns-clause-within
returns-clause-within c =
    rw c.stride.ensures (place_within c.args.window.width c.args.window.height c.offset-above.result c.offset.result
    c.offset-above.ensures.within c.offset.ensures.within)
