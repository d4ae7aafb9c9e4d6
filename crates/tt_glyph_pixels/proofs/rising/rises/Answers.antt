use Rattle.std.proofs.Common.{◌≡◌, ◌∙◌, refl, sym, Bool, true, false, ◌&&◌}
use Rattle.tt_scan_gaps.specs.Crossings.{crossings, is_rising}
use Rattle.tt_scan_gaps.specs.Seen.{seen_by}
use Rattle.tt_scan_gaps.specs.Walk.{some_in_free_gap}
use Rattle.tt_scan_gaps.proofs.Tests.{first_not}
use Rattle.tt_scan_dropouts.specs.Seen.{is_black_on}
use Rattle.tt_scan_dropouts.proofs.NoFreeGap.{none_met}
use Rattle.tt_glyph_pixels.proofs.rising.rises.Goals as goal

and_false : (b : Bool) → (b && false) ≡ false
and_false true = refl
and_false false = refl

pub returns-else-meets : goal.returns-else-meets
returns-else-meets c =
    let black = is_black_on c.args.over c.args.inked.now in
    let e = seen_by c.args.over c.args.edge.now in
    let none : some_in_free_gap black (crossings e) ≡ false =
    first_not (some_in_free_gap black (crossings e)) false (none_met false black e (sym c.meets.ensures ∙ c.if-meets.false)) in
    c.if-meets.false ∙ sym (rw none (and_false (is_rising e)))
