use Rattle.std.proofs.Common.{◌≡◌, ◌∙◌, ◌+◌, ◌-◌, ◌*◌, nat_lt, length, take, drop, replicate, sym, refl, rules, arith}
use Rattle.tt_core.specs.Bits.{stride}
use Rattle.tt_picture.specs.Stamps.{AreRowsOf}
use Rattle.tt_picture.proofs.Bands.{column_cut, white_rows}
use Rattle.tt_picture.proofs.Blackened.{and_false}
use Rattle.tt_picture.proofs.band.write_rows.Goals as goal

pub returns-in-None-clause-columns : goal.returns-in-None-clause-columns
returns-in-None-clause-columns c = λ i k below inside.
    let white : c.fill.new.self ≡ replicate (length c.args.band.now) 0 = search rules in
    rw (c.in-None.is, white) (white_rows (stride c.args.frame.width) i k (length c.args.band.now)
    ∙ sym (and_false (nat_lt k c.args.frame.width) _ refl))

pub returns-in-Some-clause-columns : goal.returns-in-Some-clause-columns
returns-in-Some-clause-columns c = λ i k below inside.
    let f = c.args.frame in
    let n = stride f.width in
    let all = c.in-Some.bytes.items in
    let rows : AreRowsOf f all = rw c.in-Some.is at c.requires.rows in
    let from = c.args.from in
    let part = column_cut n from c.args.count i k (n * from) (n * c.args.count) all refl refl below inside in
    let within = rows.padding (from + i) k (omega (arith, below, c.requires.within)) inside in
    let size : n * from + length c.args.band.now - n * from ≡ n * c.args.count = omega (arith, c.requires.len) in
    let copied : c.copy_from_slice.new.self ≡ take (n * c.args.count) (drop (n * from) all) =
    c.copy_from_slice.ensures.after ∙ rw (c.row_bytes.ensures, c.deref.ensures.value, size) refl in
    rw (c.in-Some.is, copied) (part ∙ within)
