use Rattle.std.proofs.Common.{◌≡◌, length, arith}
use Rattle.tt_c_calls.specs.Measures.{character_told}
use Rattle.tt_c_calls.proofs.Entries.{all_told, next_zipped}
use Rattle.tt_c_calls.proofs.measuring.write_characters.Goals as goal

pub loop-i-preserved : goal.loop-i-preserved
loop-i-preserved c =
    rw (c.loop-i.invariant, c.character_of.ensures)
    (next_zipped character_told c.args.measured.now c.args.offsets.now c.args.room.now c.loop-i.i _ c.requires
    c.loop-i-test.true c.if-count-room.false)

pub returns-clause-done : goal.returns-clause-done
returns-clause-done c =
    let all : c.loop-i.i ≡ length c.args.measured.now = omega arith in
    λ h. (
      rw (c.loop-i.invariant, all) (all_told character_told c.args.measured.now c.args.offsets.now c.args.room.now c.requires),
      c.sized-2.ensures,
    )
