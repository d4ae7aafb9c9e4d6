use Rattle.std.proofs.Common.{◌≡◌, ◌+◌, ◌*◌, length, ap, ◌∙◌, arith}
use Rattle.std.proofs.lemmas.Nat.{mul-le}
use Rattle.tt_core.specs.Bits.{stride}
use Rattle.tt_png.specs.Png.{filtered}
use Rattle.tt_png.proofs.Lengths.{length-filtered}
use Rattle.tt_png.proofs.Rows.{none_left, row_less, row_more}
use Rattle.tt_png.proofs.file.filtered.Goals as goal

pub loop-left-preserved : goal.loop-left-preserved
loop-left-preserved c =
    let some = c.loop-left-test.true in
    let bytes = c.row_bytes-bytes.result in
    record {
      whole = rw (c.in_ok-extend_from_slice.ensures.items, c.in_ok-push.ensures.items, c.split_at.ensures.front, c.split_at.ensures.back)
          (row_more bytes c.loop-left.left c.loop-left.content.items c.loop-left.rest.now some)
          ∙ c.loop-left.invariant.whole;
      rest = omega (arith, c.split_at.ensures.back_len, c.loop-left.invariant.rest, row_less bytes c.loop-left.left some);
    }

pub returns-clause-exact : goal.returns-clause-exact
returns-clause-exact c =
    let bytes = c.row_bytes-bytes.result in
    let all : c.loop-left.content.items ≡ filtered bytes c.args.height c.args.rows.now =
    none_left bytes c.loop-left.left c.loop-left.content.items c.loop-left.rest.now (omega (arith, c.loop-left-test.false))
    ∙ c.loop-left.invariant.whole in
    rw c.row_bytes-bytes.ensures.exact at all

pub returns-clause-few : goal.returns-clause-few
returns-clause-few c =
    let long = length-filtered (stride c.args.width) c.args.height c.args.rows.now c.requires.bytes in
    let most = mul-le (1 + c.row_bytes-bytes.result) c.args.height 2049 4096 (omega (arith, c.row_bytes-bytes.ensures.few)) c.requires.most_rows in
    let same = ap (λ k. (1 + k) * c.args.height) c.row_bytes-bytes.ensures.exact in
    omega (arith, ap length (returns-clause-exact c), long, same, most)
