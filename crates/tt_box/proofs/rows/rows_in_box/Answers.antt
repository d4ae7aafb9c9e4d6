use Rattle.std.proofs.Common.{◌≡◌, ◌∙◌, sym, ap, Some, map, Vec, Global, arith}
use Rattle.std.proofs.lemmas.List.{length-map}
use Rattle.tt_box.proofs.RowsFit.{all_sized, some_fit}
use Rattle.tt_box.specs.Boxes.{laid_if_fits}
use Rattle.tt_box.specs.Views.{place_of}
use Rattle.tt_label.specs.Views.{placements_of}
use Rattle.tt_line.specs.Outcome.{placement_of}
use Rattle.tt_rows.specs.declared.unit.RowUnit.{RowUnit}
use Rattle.tt_strike.specs.declared.laid.Laid.{Laid}
use Rattle.tt_box.proofs.rows.rows_in_box.Goals.{In_ok-with_margin}
use Rattle.tt_box.proofs.rows.rows_in_box.Goals as goal

-- the rows fit
fits_then : (c : In_ok-with_margin) → laid_if_fits c.args.heights (place_of c.args.place) (map (λ (v : Vec RowUnit Global). v.items) c.args.units.now)
    ≡ Some (placements_of c.in_ok-with_margin.field-0.items)
fits_then c = let is = rw c.in-Some.is at c.in_ok-lines.ensures in sym is ∙ ap Some (sym c.in_ok-with_margin.ensures.lines)

pub returns-clause-exact : goal.returns-clause-exact
returns-clause-exact c =
    let at = goal.at.returns-clause-exact c in sym (fits_then at.In_ok-with_margin)

pub returns-clause-boxed : goal.returns-clause-boxed
returns-clause-boxed c =
    let at = goal.at.returns-clause-boxed c in
    let us = map (λ (v : Vec RowUnit Global). v.items) c.args.units.now in
    let ls = c.in_ok-with_margin.field-0.items in
    let fits = fits_then at.In_ok-with_margin in
    let many = length-map c.args.units.now (λ (v : Vec RowUnit Global). v.items) in
    let count = length-map ls (λ (l : Laid). placement_of l.line) in
    let first = c.requires.some in
    let some = some_fit c.args.heights (place_of c.args.place) us (placements_of ls) (omega (arith, many, first)) fits in
    record {
      some = omega (arith, count, some);
      margins = c.in_ok-with_margin.ensures.margin;
      sizes = all_sized c.args.heights (place_of c.args.place) us (placements_of ls) fits;
    }
