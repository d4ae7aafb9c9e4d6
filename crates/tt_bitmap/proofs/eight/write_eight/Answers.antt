use Rattle.std.proofs.Common.{◌≡◌, ◌∙◌, sym, ap, ◌+◌, ◌-◌, length, refl, arith}
use Rattle.std.specs.Int.{bit_at}
use Rattle.std.proofs.lemmas.Slice.{between-put_mid}
use Rattle.tt_bitmap.proofs.EightBytes.{written_bit, eight_at}
use Rattle.tt_bitmap.proofs.eight.write_eight.Goals as goal

pub returns-clause-within : goal.returns-clause-within
returns-clause-within c = λ i within b low.
    let start = c.args.start in
    let bytes = c.write_number.new.bytes in
    let is = c.write_number.ensures in
    let eight : length bytes ≡ start + 8 - start = rw is (omega arith) in
    let part = between-put_mid start (start + 8 - start) c.args.row.now bytes (start + 8) (omega (arith, c.requires)) eight in
    ap (λ n. bit_at n b) (sym (eight_at _ start i within) ∙ rw part (rw is refl)) ∙ written_bit c.args.eight i b within low
