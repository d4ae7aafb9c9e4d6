-- Not from the standard: contracts see an instruction without the address of its data.
use Rattle.tt_code.specs.declared.decoding.Instr as declared
use Rattle.tt_code.specs.Decoding.{Instr}

abbrev pub instr_view : declared.Instr → Instr
instr_view i = record { op = i.op; args = i.args.now; len = i.len }
