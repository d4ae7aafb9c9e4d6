use Rattle.std.proofs.Common.{◌≡◌, ◌≤◌, ◌+◌, ◌&&◌, ◌||◌, ℤ, pos, ◌+ℤ◌, false, ap, sym, ◌∙◌, SFits, w32, to_z, rules, arith}
use Rattle.std.proofs.lemmas.Int.{ints, to_z-of_z}
use Rattle.tt_scan.specs.Contours.{contours_at}
use Rattle.tt_scan_dropouts.specs.Dropouts.{columns_of_rules, is_dropout, rows_of_rules}
use Rattle.tt_scan_dropouts.specs.Windows.{box_has, has}
use Rattle.tt_scan_dropouts.proofs.Clips.{band_fits, clipped_alike, clipped_away}
use Rattle.tt_scan_dropouts.proofs.Bands.{no_rows, rows_more}
use Rattle.tt_scan_dropouts.proofs.Outlines.{edges_at}
use Rattle.tt_scan_dropouts.proofs.filling.dropouts.Goals as goal

pub returns-in-None : goal.returns-in-None
returns-in-None c =
    let es = c.args.glyph.tape.now.edges in
    let across = columns_of_rules c.args.glyph.rules in
    let up = rows_of_rules c.args.glyph.rules in
    let none : (p j : ℤ) → (has c.args.window p j && box_has across up p j) ≡ false =
    simp (c.pixels_reached.ensures.columns, c.pixels_reached.ensures.rows) at c.in-None.ensures.none in
    record {
      exact = λ col row. rw c.new-found.ensures.items (sym (clipped_away c.args.glyph.rules (contours_at es c.args.glyph.ends.now)
          c.args.window col row (rw (edges_at es c.args.glyph.ends.now c.args.glyph.are_ends) c.args.glyph.boxed.held) (none col row)));
    }

pub loop-done-init : goal.loop-done-init
loop-done-init c = record {
  within = omega arith;
  found = λ col row. rw c.new-found.ensures.items (no_rows c.in-Some.part col row
      (is_dropout c.args.glyph.rules (contours_at c.args.glyph.tape.now.edges c.args.glyph.ends.now) col row));
}

pub push_band-requires : goal.push_band-requires
push_band-requires c =
    let part = c.in-Some.part in
    let near = c.in-Some.ensures.near in
    let left : SFits w32 part.left = search rules in
    let bottom : SFits w32 part.bottom = search rules in
    let small : to_z w32 c.loop-done.done ≡ pos c.loop-done.done =
    omega (arith, ints, near.bottom, near.top, c.loop-done.invariant.within) in
    let below : SFits w32 (part.bottom +ℤ pos c.loop-done.done) =
    omega (arith, ints, near.bottom, near.top, c.loop-done.invariant.within) in
    let some : 1 ≤ c.min-height.result = omega (arith, c.min-height.ensures, c.loop-done-test.true) in
    let few : c.min-height.result ≤ 2048 = omega (arith, c.min-height.ensures) in
    let within : c.loop-done.done + c.min-height.result ≤ part.height = omega (arith, c.min-height.ensures, c.loop-done-test.true) in
    rw small (simp to_z-of_z (band_fits part c.loop-done.done c.min-height.result near some few within))

pub loop-done-preserved : goal.loop-done-preserved
loop-done-preserved c =
    let part = c.in-Some.part in
    let near = c.in-Some.ensures.near in
    let done = c.loop-done.done in
    let height = c.min-height.result in
    let left : SFits w32 part.left = search rules in
    let bottom : SFits w32 part.bottom = search rules in
    let small : to_z w32 c.loop-done.done ≡ pos c.loop-done.done =
    omega (arith, ints, near.bottom, near.top, c.loop-done.invariant.within) in
    let below : SFits w32 (part.bottom +ℤ pos done) = omega (arith, ints, near.bottom, near.top, c.loop-done.invariant.within) in
    record {
      within = omega (arith, c.min-height.ensures, c.loop-done-test.true);
      found = λ col row.
          let is = is_dropout c.args.glyph.rules (contours_at c.args.glyph.tape.now.edges c.args.glyph.ends.now) col row in
          let pushed = simp to_z-of_z at (rw small at (c.in_ok-push_band.ensures col row)) in
          pushed
          ∙ ap (λ old. old || (has (record { left = part.left; bottom = part.bottom +ℤ pos done; width = part.width; height = height }) col row && is))
          (c.loop-done.invariant.found col row)
          ∙ rows_more part done height col row is;
    }

pub returns : goal.returns
returns c =
    let glyph = c.args.glyph in
    let es = glyph.tape.now.edges in
    let contours = contours_at es glyph.ends.now in
    let part = c.in-Some.part in
    let cut : (p j : ℤ) → has part p j ≡ (has c.args.window p j && box_has (columns_of_rules glyph.rules) (rows_of_rules glyph.rules) p j) =
    simp (c.pixels_reached.ensures.columns, c.pixels_reached.ensures.rows) at c.in-Some.ensures.some in
    let all : c.loop-done.done ≡ part.height = omega (arith, c.loop-done-test.false, c.loop-done.invariant.within) in
    record {
      exact = λ col row. rw all at (c.loop-done.invariant.found col row)
          ∙ clipped_alike glyph.rules contours c.args.window part col row
          (rw (edges_at es glyph.ends.now glyph.are_ends) glyph.boxed.held) (cut col row);
    }
