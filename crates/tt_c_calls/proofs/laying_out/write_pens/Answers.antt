use Rattle.std.proofs.Common.{◌≡◌, length, arith}
use Rattle.tt_c_calls.specs.Layouts.{pen_told}
use Rattle.tt_c_calls.proofs.Entries.{all_told, next_zipped}
use Rattle.tt_c_calls.proofs.laying_out.write_pens.Goals as goal

pub loop-i-preserved : goal.loop-i-preserved
loop-i-preserved c =
    rw (c.loop-i.invariant, c.pen_of.ensures)
    (next_zipped pen_told c.args.pens.now c.args.offsets.now c.args.room.now c.loop-i.i _ c.requires c.loop-i-test.true
    c.if-count-room.false)

pub returns-clause-done : goal.returns-clause-done
returns-clause-done c =
    let all : c.loop-i.i ≡ length c.args.pens.now = omega arith in
    λ h. (
      rw (c.loop-i.invariant, all) (all_told pen_told c.args.pens.now c.args.offsets.now c.args.room.now c.requires),
      c.sized-2.ensures,
    )
