use Rattle.std.proofs.Common.{◌≡◌, refl, false, Bool, ℤ}
use Rattle.std.specs.Prelude.{IfSome}
use Rattle.std.proofs.lemmas.Result.{IfOk-weaker}
use Rattle.tt_scan.specs.Contours.{contours_at}
use Rattle.tt_scan_dropouts.specs.Dropouts.{columns_of_rules, is_dropout, rows_of_rules}
use Rattle.tt_scan_ink.specs.Ink.{count_of, dropouts_ink, ink_in}
use Rattle.tt_bitmap.specs.Inks.{IsInk}
use Rattle.tt_scan_ink.specs.Least.{IsNear, shown}
use Rattle.tt_scan_ink.proofs.Near.{reached_near}
use Rattle.tt_scan_ink.proofs.NearInk.{dropouts_near}
use Rattle.tt_scan_ink.proofs.Regions.{found_is, none_is}
use Rattle.tt_scan_ink.proofs.dropouts.dropouts_ink.Goals as goal

pub returns-then-not-may_have_dropouts-clause-exact : goal.returns-then-not-may_have_dropouts-clause-exact
returns-then-not-may_have_dropouts-clause-exact c =
    let b = c.args.rules.extents in
    let black : ℤ → ℤ → Bool = is_dropout c.args.rules (contours_at c.args.tape.now.edges c.args.ends.now) in
    let none : (k j : ℤ) → black k j ≡ false = λ k j.
    rw c.lend-edges.ensures.exact at (c.may_have_dropouts.ensures c.if-not-may_have_dropouts.true c.args.rules refl refl k j) in
    none_is black (columns_of_rules c.args.rules) (rows_of_rules c.args.rules) (reached_near c.args.rules.rules.dots b c.requires.boxed.fits).0 none

pub windows_ink-requires-clause-columns : goal.windows_ink-requires-clause-columns
windows_ink-requires-clause-columns c =
    let b = c.args.rules.extents in
    rw c.pixels_reached.ensures.columns (reached_near c.args.rules.rules.dots b c.requires.boxed.fits).0

pub windows_ink-requires-clause-rows : goal.windows_ink-requires-clause-rows
windows_ink-requires-clause-rows c =
    let b = c.args.rules.extents in
    rw c.pixels_reached.ensures.rows (reached_near c.args.rules.rules.dots b c.requires.boxed.fits).1

pub returns-clause-exact : goal.returns-clause-exact
returns-clause-exact c =
    let b = c.args.rules.extents in
    let black : ℤ → ℤ → Bool = is_dropout c.args.rules (contours_at c.args.tape.now.edges c.args.ends.now) in
    IfOk-weaker c.windows_ink.result
    (IsInk (shown (columns_of_rules c.args.rules) (rows_of_rules c.args.rules).first (count_of (rows_of_rules c.args.rules)) black))
    (λ ink. ink ≡ ink_in black (columns_of_rules c.args.rules) (rows_of_rules c.args.rules))
    (λ ink is. found_is black (columns_of_rules c.args.rules) (rows_of_rules c.args.rules) ink (reached_near c.args.rules.rules.dots b c.requires.boxed.fits).0 is)
    (rw (c.pixels_reached.ensures.columns, c.pixels_reached.ensures.rows) at c.windows_ink.ensures)

pub returns-clause-near : goal.returns-clause-near
returns-clause-near c =
    let contours = contours_at c.args.tape.now.edges c.args.ends.now in
    IfOk-weaker c.windows_ink.result (λ ink. ink ≡ dropouts_ink c.args.rules contours) (λ ink. IfSome ink IsNear)
    (λ ink is. rw is (dropouts_near c.args.rules contours c.requires.boxed.fits)) (returns-clause-exact c)
