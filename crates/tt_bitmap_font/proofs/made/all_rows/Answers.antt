use Rattle.std.proofs.Common.{◌≡◌, ◌∙◌, ◌≤◌, ap, length, sym, arith}
use Rattle.std.proofs.lemmas.List.{take_all, with_items_is}
use Rattle.tt_bitmap_font.proofs.made.all_rows.Goals as goal

pub write_rows-requires : goal.write_rows-requires
write_rows-requires c = omega (arith, ap length c.deref_mut.ensures.value, c.in_ok-rows.ensures, c.wanted.ensures)

pub returns-clause-exact : goal.returns-clause-exact
returns-clause-exact c =
    let new = c.write_rows.new.room in
    let count : length new ≡ c.in_ok-rows.rows.len = c.write_rows.ensures.len ∙ c.deref_mut.ensures.len in
    let few : length new ≤ c.args.list.wanted =
    omega (arith, c.write_rows.ensures.len, ap length c.deref_mut.ensures.value, c.in_ok-rows.ensures, c.wanted.ensures) in
    rw (with_items_is c.in_ok-rows.rows new count) (sym (take_all c.args.list.wanted new few) ∙ c.write_rows.ensures.rows)

pub returns-clause-count : goal.returns-clause-count
returns-clause-count c =
    let new = c.write_rows.new.room in
    let count : length new ≡ c.in_ok-rows.rows.len = c.write_rows.ensures.len ∙ c.deref_mut.ensures.len in
    rw (with_items_is c.in_ok-rows.rows new count)
    (omega (arith, c.write_rows.ensures.len, ap length c.deref_mut.ensures.value, c.in_ok-rows.ensures, c.wanted.ensures))
