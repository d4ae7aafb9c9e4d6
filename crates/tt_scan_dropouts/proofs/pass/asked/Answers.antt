use Rattle.std.proofs.Common.{◌≡◌, ◌∙◌, sym, get_or, SFits, w32, w64, rules}
use Rattle.std.proofs.lemmas.Int.{to_z-of_z}
use Rattle.std.proofs.lemmas.List.{get_or_default}
use Rattle.tt_scan_gaps.specs.Gaps.{pixel_of}
use Rattle.tt_scan_dropouts.specs.Windows.{is_black_by}
use Rattle.tt_scan_gaps.proofs.GapMarks.{no_mark}
use Rattle.tt_scan_dropouts.proofs.PassSteps.{asks_for}
use Rattle.tt_scan_dropouts.proofs.pass.asked.Goals as goal

pub returns-then-some_asks : goal.returns-then-some_asks
returns-then-some_asks c = λ d.
    let result : SFits w64 c.pixel_of.result = search rules in
    let gap : SFits w32 (get_or c.args.marks.now 0 no_mark).at.gap = search rules in
    let pixel : c.pixel_of.result ≡ pixel_of c.args.pass.rules c.args.columns (get_or c.args.marks.now 0 no_mark).at.gap c.args.marks.now = simp to_z-of_z at c.pixel_of.ensures in
    rw (get_or_default c.args.marks.now 0 d no_mark c.requires) (simp to_z-of_z
    (asks_for c.args.pass.rules c.args.columns (is_black_by c.args.pass.over c.args.pass.ink.now) (get_or c.args.marks.now 0 no_mark).at.line
    (get_or c.args.marks.now 0 no_mark).at.gap c.pixel_of.result c.args.marks.now
    (sym c.is_free.ensures ∙ c.if-is_free.true) (sym c.some_asks.ensures ∙ c.if-some_asks.true) pixel))
