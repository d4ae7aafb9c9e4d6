use Rattle.std.proofs.Common.{◌≡◌, ◌∙◌, ◌-◌, ◌*◌, ℕ, List, Vec, Global, ap, length, map, sym, Err, Ok, arith, SFits, w32}
use Rattle.std.proofs.lemmas.Int.{ints, to_z-of_z}
use Rattle.std.proofs.lemmas.List.{length-map}
use Rattle.std.proofs.lemmas.Result.{err_from_is_err_and}
use Rattle.tt_label.specs.Views.{placements_of}
use Rattle.tt_label.proofs.RowsPlaced.{laid_rows, laid_rows_fail, rows_counted, rows_sized, some_rows, wide_picture}
use Rattle.tt_label_rows.specs.Pictures.{rows_placed, width_picture}
use Rattle.tt_line.specs.Labels.{widest}
use Rattle.tt_rows.specs.declared.unit.RowUnit.{RowUnit}
use Rattle.tt_label.proofs.widths.rows_in_width.Goals.{In_ok-broken, In_ok-lines, In_ok-picture}
use Rattle.tt_label.proofs.widths.rows_in_width.Goals as goal

abbrev its : List (Vec (ℕ × ℕ) Global) → List (List (ℕ × ℕ))
its rs = map (λ (v : Vec (ℕ × ℕ) Global). v.items) rs

-- as many rows below the first
more_then : (c : In_ok-picture) → c.saturating_sub-more.result ≡ length c.in_ok-broken.broken.rows.items - 1
more_then c = omega (arith, c.saturating_sub-more.ensures, c.len.ensures, c.in_ok-broken.broken.rows.ok.0)

-- the picture of the rows
picture_then : (c : In_ok-picture) → width_picture c.row_heights-heights.result (length (its c.in_ok-broken.broken.rows.items) - 1)
    (widest (its c.in_ok-broken.broken.rows.items)) c.args.width c.args.margin c.args.align ≡ Ok c.in_ok-picture.picture
picture_then c =
    let many = length-map c.in_ok-broken.broken.rows.items (λ (v : Vec (ℕ × ℕ) Global). v.items) in
    let wide : c.widest.result ≡ widest (its c.in_ok-broken.broken.rows.items) = rw c.deref.ensures.value at c.widest.ensures.exact in
    let rows : length (its c.in_ok-broken.broken.rows.items) - 1 ≡ c.saturating_sub-more.result = let more = more_then c in omega (arith, many, more) in
    rw (rows, ← wide) c.in_ok-picture.ensures.exact

-- the lines are the rows in it
lines_then : (c : In_ok-lines) → placements_of c.in_ok-lines.lines.items
    ≡ rows_placed c.in_ok-picture.picture c.row_heights-heights.result.step c.row_heights-heights.result.rise (its c.in_ok-broken.broken.rows.items)
lines_then c =
    let rise : SFits w32 c.row_heights-heights.result.rise = omega (arith, ints, c.row_heights-heights.ensures.within.rise) in
    let laid = simp to_z-of_z at c.in_ok-laid.ensures in
    c.in_ok-lines.ensures.lines ∙ laid

pub returns-in_err-picture-clause-exact : goal.returns-in_err-picture-clause-exact
returns-in_err-picture-clause-exact c =
    let p = err_from_is_err_and c.from_residual-in_err-picture.result c.from_residual-in_err-picture.ensures.1 in
    let many = length-map c.in_ok-broken.broken.rows.items (λ (v : Vec (ℕ × ℕ) Global). v.items) in
    let more : c.saturating_sub-more.result ≡ length c.in_ok-broken.broken.rows.items - 1 =
    omega (arith, c.saturating_sub-more.ensures, c.len.ensures, c.in_ok-broken.broken.rows.ok.0) in
    let wide : c.widest.result ≡ widest (its c.in_ok-broken.broken.rows.items) = rw c.deref.ensures.value at c.widest.ensures.exact in
    let rows : length (its c.in_ok-broken.broken.rows.items) - 1 ≡ c.saturating_sub-more.result = omega (arith, many, more) in
    let fails : width_picture c.row_heights-heights.result (length (its c.in_ok-broken.broken.rows.items) - 1)
    (widest (its c.in_ok-broken.broken.rows.items)) c.args.width c.args.margin c.args.align ≡ Err c.in_err-picture.field-0.0 =
    rw (rows, ← wide) c.in_err-picture.ensures.exact in
    rw (p.1, p.2, ← c.in_ok-broken.ensures.rows) (laid_rows_fail c.args.metrics.now c.args.ppem c.args.margin c.args.align c.args.width
    (its c.in_ok-broken.broken.rows.items) c.in_err-picture.field-0.0 c.row_heights-heights.result c.row_heights-heights.ensures.exact fails)

pub returns-clause-exact : goal.returns-clause-exact
returns-clause-exact c =
    let all = goal.at.returns-clause-exact c in
    let laid = laid_rows c.args.metrics.now c.args.ppem c.args.margin c.args.align c.args.width (its c.in_ok-broken.broken.rows.items) c.in_ok-picture.picture
    c.row_heights-heights.result c.row_heights-heights.ensures.exact (picture_then all.In_ok-picture) in
    rw (← c.in_ok-broken.ensures.rows, lines_then all.In_ok-lines) laid

pub returns-clause-rows : goal.returns-clause-rows
returns-clause-rows c =
    let all = goal.at.returns-clause-rows c in
    let p = c.in_ok-picture.picture in
    let h = c.row_heights-heights.result in
    let rs = its c.in_ok-broken.broken.rows.items in
    let lines = lines_then all.In_ok-lines in
    let some = some_rows (c.args.width - 2 * c.args.margin) (map (λ (v : Vec RowUnit Global). v.items) c.args.units.now)
    (let many = length-map c.args.units.now (λ (v : Vec RowUnit Global). v.items) in omega (arith, many, c.requires.some)) in
    let count : length c.in_ok-lines.lines.items ≡ length rs = sym (length-map c.in_ok-lines.lines.items _) ∙ ap length lines ∙ rows_counted p h.step h.rise rs in
    let rows = ap length c.in_ok-broken.ensures.rows in
    record {
      some = omega (arith, some, count, rows);
      within = c.requires.margin;
      margins = c.in_ok-lines.ensures.margin;
      sizes = rw lines (rows_sized p h.step h.rise rs);
      picture = c.in_ok-picture.ensures.within;
    }

pub returns-clause-wide : goal.returns-clause-wide
returns-clause-wide c =
    let all = goal.at.returns-clause-wide c in
    wide_picture c.row_heights-heights.result (length (its c.in_ok-broken.broken.rows.items) - 1) (widest (its c.in_ok-broken.broken.rows.items))
    c.args.width c.args.margin c.args.align c.in_ok-picture.picture (picture_then all.In_ok-picture)
