use Rattle.std.proofs.Common.{arith, length-take-le}
use borrow.Rule.Slice.PartMut.{take_put}
use Rattle.tt_render_streams.proofs.Known.{consumes_in_place}
use Rattle.tt_render_streams.proofs.reading.read_after.Goals as goal

pub returns-clause-front : goal.returns-clause-front
returns-clause-front g c = take_put _ _ c.args.buf.now _ (omega (arith, c.requires))

pub returns-clause-bytes : goal.returns-clause-bytes
returns-clause-bytes g c =
    consumes_in_place _ _ c.read.result _ c.read.new.buf _ c.args.filled
    (length-take-le _ c.args.buf.now (omega (arith, c.requires))) c.read.ensures.bound c.read.ensures.bytes
