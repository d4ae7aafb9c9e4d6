use Rattle.std.proofs.Common.{◌∙◌, refl}
use Rattle.tt_bitmap.proofs.EightBytes.{read_bit, eight_at, eight_small}
use Rattle.tt_bitmap.proofs.eight.read_eight.Goals as goal

pub returns : goal.returns
returns c = λ i within b low.
    let chunk = rw c.unwrap.ensures at c.as_array.ensures.cases in
    read_bit c.unwrap.result.now c.from_le_bytes.result i b (rw chunk.same chunk.long)
    (λ j. rw chunk.same (eight_small c.args.row.now c.args.start j (λ at. (c.type_inv.row at).fits))) c.from_le_bytes.ensures within low
    ∙ rw (chunk.same, eight_at c.args.row.now c.args.start i within) refl
