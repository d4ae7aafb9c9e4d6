use Rattle.std.proofs.Common.{◌≡◌, ◌∙◌, ap, sym, not, ◌&&◌, ◌||◌, get_or, SFits, w32, w64, rules}
use Rattle.std.proofs.lemmas.Int.{to_z-of_z}
use Rattle.std.specs.Ordering.{int_eq}
use Rattle.tt_scan_gaps.specs.Gaps.{asked, is_odd}
use Rattle.tt_scan_dropouts.specs.Passes.{asked_before}
use Rattle.tt_scan_dropouts.specs.Windows.{is_black_by}
use Rattle.tt_scan_gaps.proofs.GapMarks.{no_mark}
use Rattle.tt_scan_dropouts.proofs.PassSteps.{all_added, asked_near, unasked}
use Rattle.tt_scan_dropouts.proofs.PassGroups.{added_asked, added_unasked, asked_before_is, gives_way_is, group_asks, last_asked, last_unasked}
use Rattle.tt_scan_dropouts.proofs.pass.added_by.Goals as goal

pub loop-start-preserved-in_ok-grant : goal.loop-start-preserved-in_ok-grant
loop-start-preserved-in_ok-grant c =
    let how = c.args.pass.rules in
    let box = c.args.columns in
    let black = is_black_by c.args.pass.over c.args.pass.ink.now in
    let ms = c.args.marks.now in
    let ask = asked how box ms black in
    let start = c.loop-start.start in
    let end = c.group_end-end.result in
    let below = c.loop-start-test.true in
    let group = c.group_end-end.ensures.group in
    let last = c.loop-start.last in
    let pixel = c.in-Some.pixel in
    let at = (get_or ms start no_mark).at in
    let line_fits : SFits w32 at.line = search rules in
    let gap_fits : SFits w32 at.gap = search rules in
    let pixel_fits : SFits w64 pixel = search rules in
    let asks = group_asks how box ms black start end no_mark c.asked.result group (c.asked.ensures no_mark)
    ∙ c.in-Some.is in
    let found : c.asked_before.result ≡ asked_before last at.line at.gap = simp to_z-of_z at c.asked_before.ensures in
    let before = found ∙ asked_before_is ask ms start no_mark last (unasked how box ms black) c.requires
    (c.loop-start.invariant.first below) below c.loop-start.invariant.last in
    let gives = gives_way_is (ask at.line) at.gap c.asked_before.result before in
    record {
      within = group.within;
      first = c.group_end-end.ensures.next;
      added = λ p j.
          let granted = simp to_z-of_z at (c.in_ok-grant.ensures p j) in
          let more = added_asked ask ms start end no_mark pixel (is_odd c.asked_before.result) (asked_near how box ms black)
          below group asks gives p j in
          granted
          ∙ ap (λ old. old || (not (is_odd c.asked_before.result) && (int_eq pixel p && int_eq at.line j)))
          (c.loop-start.invariant.added p j)
          ∙ sym more;
      last = simp to_z-of_z (last_asked ask ms start end no_mark pixel c.asked_before.result c.requires below group asks before);
    }

pub loop-start-preserved : goal.loop-start-preserved
loop-start-preserved c =
    let how = c.args.pass.rules in
    let box = c.args.columns in
    let black = is_black_by c.args.pass.over c.args.pass.ink.now in
    let ms = c.args.marks.now in
    let ask = asked how box ms black in
    let start = c.loop-start.start in
    let end = c.group_end-end.result in
    let below = c.loop-start-test.true in
    let group = c.group_end-end.ensures.group in
    let asks = group_asks how box ms black start end no_mark c.asked.result group (c.asked.ensures no_mark)
    ∙ c.in_default.is in
    record {
      within = group.within;
      first = c.group_end-end.ensures.next;
      added = λ p j.
          c.loop-start.invariant.added p j ∙ sym (added_unasked ask ms start end no_mark below group asks p j);
      last = last_unasked ask ms start end no_mark c.loop-start.last below group c.loop-start.invariant.last asks;
    }

pub returns : goal.returns
returns c = λ p j. c.loop-start.invariant.added p j
    ∙ all_added c.args.pass.rules c.args.columns c.args.marks.now (is_black_by c.args.pass.over c.args.pass.ink.now)
    c.loop-start.start p j c.loop-start-test.false
