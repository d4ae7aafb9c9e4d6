use Rattle.std.proofs.Common.{◌≡◌, ◌∙◌, refl, ◌-◌, ◌≤◌, ℕ, Vec, Global, Some, ap, length, map, sym, false, true, arith, SFits, w32}
use Rattle.std.proofs.lemmas.Int.{ints, to_z-of_z}
use Rattle.std.proofs.lemmas.List.{length-map}
use Rattle.tt_box.proofs.RowsFit.{low_fits, room_of}
use Rattle.tt_box.specs.Boxes.{laid_in_box}
use Rattle.tt_box.specs.Views.{place_of}
use Rattle.tt_label_rows.specs.Pictures.{is_low}
use Rattle.tt_label_rows.specs.Rows.{breaks_word, text_rows}
use Rattle.tt_line.specs.Labels.{widest}
use Rattle.tt_line.specs.Outcome.{placement_of}
use Rattle.tt_rows.specs.declared.unit.RowUnit.{RowUnit}
use Rattle.tt_box.proofs.rows.lines_in_box.Goals as goal

pub returns : goal.returns
returns c =
    let b = place_of c.args.place in
    let room = room_of b in
    let us = map (λ (v : Vec RowUnit Global). v.items) c.args.units.now in
    let rows = c.in_ok-all.ensures.rows in
    let whole : breaks_word room us ≡ false = sym c.in_ok-all.ensures.broken ∙ c.if-broken.false in
    let wide : c.widest-wide.result ≡ widest (text_rows room us) = rw (c.deref.ensures.value, rows) at c.widest-wide.ensures.exact in
    let narrow : widest (text_rows room us) ≤ room = omega (arith, wide, c.if-wide-from.false, c.from.ensures) in
    let many = length-map c.in_ok-all.all.rows.items (λ (v : Vec (ℕ × ℕ) Global). v.items) in
    let count = ap length rows in
    let more : c.saturating_sub-more.result ≡ length (text_rows room us) - 1 =
    omega (arith, many, count, c.saturating_sub-more.ensures, c.len.ensures, c.in_ok-all.all.rows.ok.0) in
    let low : is_low c.args.heights (length (text_rows room us) - 1) b.height b.margin ≡ true =
    rw (← more) (sym c.is_low.ensures ∙ c.if-not-is_low.false) in
    let fits : SFits w32 c.first_rise-first.result = omega (arith, ints, c.first_rise-first.ensures.bound) in
    let laid = simp to_z-of_z at c.in_ok-laid.ensures in
    let placed : map placement_of c.in_ok-laid.laid.items ≡ laid_in_box c.args.heights b (text_rows room us) =
    laid ∙ rw (c.box_picture-picture.ensures.exact, c.first_rise-first.ensures.exact, more, rows) refl in
    ap Some placed ∙ sym (low_fits c.args.heights b us whole narrow low)
