use Rattle.std.proofs.Common.{◌≡◌, ◌∙◌, ◌*◌, length, replicate, ap, sym}
use Rattle.std.proofs.lemmas.List.{length-replicate, with_items_is}
use Rattle.tt_picture.specs.Placed.{in_edges, lines_have, number_has}
use Rattle.tt_picture.proofs.Bands.{are_rows, they_show}
use Rattle.tt_picture.proofs.Placed.{none_lined}
use Rattle.tt_picture.proofs.large.large_rows.Goals as goal

pub returns-then-not-some_large-clause-exact : goal.returns-then-not-some_large-clause-exact
returns-then-not-some_large-clause-exact c = λ k r column row.
    let gs = c.args.glyphs.now.made.items in
    let none = rw c.deref.ensures.value at (c.some_large.ensures c.if-not-some_large.true) in
    sym (none_lined (number_has in_edges gs) c.args.lines.now k r none)

pub paint_lines-requires-clause-rows : goal.paint_lines-requires-clause-rows
paint_lines-requires-clause-rows c =
    let f = c.args.frame in
    let n = c.row_bytes.result * f.height in
    let white : c.in_ok-rows.rows.items ≡ replicate n 0 = c.in_ok-rows.ensures.items_if_clones_equal (λ x is. is) in
    rw (c.deref_mut.ensures.value, white) (length-replicate n 0 ∙ ap (λ k. k * f.height) c.row_bytes.ensures)

pub returns-clause-rows : goal.returns-clause-rows
returns-clause-rows c =
    let f = c.args.frame in
    let n = c.row_bytes.result * f.height in
    let black = lines_have (number_has in_edges c.args.glyphs.now.made.items) c.args.lines.now in
    let new = c.paint_lines.new.rows in
    let white : c.in_ok-rows.rows.items ≡ replicate n 0 = c.in_ok-rows.ensures.items_if_clones_equal (λ x is. is) in
    let written : length new ≡ c.in_ok-rows.rows.len = c.in_ok-paint_lines.ensures.len ∙ c.deref_mut.ensures.len in
    let over = rw (c.deref-2.ensures.value, c.deref_mut.ensures.value, white) at c.in_ok-paint_lines.ensures in
    rw (with_items_is c.in_ok-rows.rows new written)
    (are_rows f n black new (ap (λ k. k * f.height) c.row_bytes.ensures) over)

pub returns-clause-exact : goal.returns-clause-exact
returns-clause-exact c = λ k r column row.
    let f = c.args.frame in
    let n = c.row_bytes.result * f.height in
    let black = lines_have (number_has in_edges c.args.glyphs.now.made.items) c.args.lines.now in
    let new = c.paint_lines.new.rows in
    let white : c.in_ok-rows.rows.items ≡ replicate n 0 = c.in_ok-rows.ensures.items_if_clones_equal (λ x is. is) in
    let written : length new ≡ c.in_ok-rows.rows.len = c.in_ok-paint_lines.ensures.len ∙ c.deref_mut.ensures.len in
    let over = rw (c.deref-2.ensures.value, c.deref_mut.ensures.value, white) at c.in_ok-paint_lines.ensures in
    rw (with_items_is c.in_ok-rows.rows new written) (they_show f n black new k r column row over)
