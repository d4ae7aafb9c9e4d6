use Rattle.std.proofs.Common.{◌≡◌, ◌∙◌, ◌+◌, ℤ, Bool, ap, sym, pos, ◌+ℤ◌, ◌&&◌, SFits, w64, rules, arith}
use Rattle.std.proofs.lemmas.Int.{ints, to_z-of_z}
use Rattle.tt_scan.specs.Contours.{contours_at}
use Rattle.tt_scan_dropouts.specs.Dropouts.{is_dropout}
use Rattle.tt_scan_dropouts.specs.Passes.{has_pixel}
use Rattle.tt_scan_dropouts.specs.Windows.{has}
use Rattle.tt_scan_dropouts.specs.declared.window.Window.{Window}
use Rattle.tt_scan_ink.specs.Ink.{count_of}
use Rattle.tt_bitmap.specs.Inks.{IsInk}
use Rattle.tt_scan_ink.specs.Least.{shown}
use Rattle.tt_scan_ink.proofs.Regions.{bands_more, no_rows, window_is}
use Rattle.tt_scan_ink.proofs.Together.{ink_alike, joined_is}
use Rattle.tt_scan_ink.proofs.dropouts.windows_ink.Goals as goal

pub loop-done-init : goal.loop-done-init
loop-done-init c =
    let black : ℤ → ℤ → Bool = is_dropout c.args.glyph.rules (contours_at c.args.glyph.tape.now.edges c.args.glyph.ends.now) in
    record {
      count = c.count_of-count.ensures.exact;
      within = omega arith;
      ink = λ k j. no_rows c.args.columns black c.args.rows.first k j;
    }

pub loop-done-preserved : goal.loop-done-preserved
loop-done-preserved c =
    let so_far = c.loop-done.invariant in
    let columns = c.args.columns in
    let first = c.args.rows.first in
    let done = c.loop-done.done in
    let height = c.min-height.result in
    let near = c.requires.rows in
    let low = near.first in
    let high = near.last in
    let some : SFits w64 first = search rules in
    let more : SFits w64 c.from.result = search rules in
    let place : SFits w64 (first +ℤ c.from.result) =
    omega (arith, ints, low, high, so_far.count, so_far.within, c.from.ensures) in
    let left : SFits w64 columns.first = search rules in
    let black : ℤ → ℤ → Bool = is_dropout c.args.glyph.rules (contours_at c.args.glyph.tape.now.edges c.args.glyph.ends.now) in
    let window : Window =
    record { left = columns.first; bottom = first +ℤ pos done; width = count_of columns; height = height } in
    let is : c.window_of-window.result ≡ window =
    rw c.from.ensures at (simp to_z-of_z at c.window_of-window.ensures.exact) in
    let part : IsInk (λ (k : ℤ) (j : ℤ). has window k j && black k j) c.pixels_ink.result =
    ink_alike (has_pixel c.deref.result.now) (λ (k : ℤ) (j : ℤ). has window k j && black k j) c.pixels_ink.result
    (λ k j. sym (ap (λ ps. has_pixel ps k j) c.deref.ensures.value ∙ (rw is at (c.in_ok-found.ensures.exact k j))))
    c.pixels_ink.ensures in
    let here : IsInk (shown columns (first +ℤ pos done) height black) c.pixels_ink.result =
    ink_alike (λ (k : ℤ) (j : ℤ). has window k j && black k j) (shown columns (first +ℤ pos done) height black) _
    (λ k j. window_is columns black (first +ℤ pos done) height k j c.requires.columns) part in
    record {
      count = c.count_of-count.ensures.exact;
      within = omega (arith, c.min-height.ensures, so_far.within, c.loop-done-test.true);
      ink = rw c.joined-ink.ensures
          (joined_is (shown columns first done black) (shown columns (first +ℤ pos done) height black)
          (shown columns first (done + height) black) _ _ (bands_more columns black first done height) so_far.ink here);
    }

pub returns : goal.returns
returns c =
    let so_far = c.loop-done.invariant in
    let end : c.loop-done.done ≡ count_of c.args.rows =
    omega (arith, c.loop-done-test.false, so_far.within, so_far.count) in
    rw end at so_far.ink
