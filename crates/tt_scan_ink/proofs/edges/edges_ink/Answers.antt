use Rattle.std.proofs.Common.{◌≡◌, ◌∙◌, ap, map, All}
use Rattle.std.specs.Prelude.{IfSome}
use Rattle.std.proofs.lemmas.Result.{IfOk-weaker}
use Rattle.tt_scan.specs.Tape.{Tape}
use Rattle.tt_scan_edges.specs.Winding.{EdgeFits}
use Rattle.tt_scan_gaps.specs.Boxes.{columns_of}
use Rattle.tt_scan_gaps.specs.Seen.{turned_round}
use Rattle.tt_scan_ink.specs.Ink.{count_of, edges_ink, ink_in}
use Rattle.tt_bitmap.specs.Inks.{IsInk}
use Rattle.tt_scan_ink.specs.Least.{IsNear, is_inked_by, shown}
use Rattle.tt_scan_ink.proofs.Near.{columns_near, lines_near}
use Rattle.tt_scan_ink.proofs.NearInk.{edges_near}
use Rattle.tt_scan_ink.proofs.Regions.{found_is}
use Rattle.tt_scan_ink.proofs.edges.edges_ink.Goals as goal

pub bands_ink-requires-clause-columns : goal.bands_ink-requires-clause-columns
bands_ink-requires-clause-columns c =
    rw c.box_of.ensures.columns (columns_near c.lend.result.now c.lend.ensures.fits)

pub bands_ink-requires-clause-rows : goal.bands_ink-requires-clause-rows
bands_ink-requires-clause-rows c = rw c.box_of.ensures.rows (lines_near c.lend.result.now c.lend.ensures.fits)

pub returns-clause-exact : goal.returns-clause-exact
returns-clause-exact c =
    let es = c.args.list.edges in
    let on_tape : c.in_ok-tape.tape.edges ≡ es = ap (λ (t : Tape). t.edges) c.in_ok-tape.ensures in
    let lent : c.lend.result.now ≡ es = c.lend.ensures.exact ∙ on_tape in
    let fits : All EdgeFits es = rw lent at c.lend.ensures.fits in
    let columns : c.box_of.result.0 ≡ columns_of es = c.box_of.ensures.columns ∙ ap columns_of lent in
    let rows : c.box_of.result.1 ≡ columns_of (map turned_round es) =
    c.box_of.ensures.rows ∙ ap (λ es. columns_of (map turned_round es)) lent in
    let given : c.into_list.result.edges ≡ es = c.into_list.ensures ∙ on_tape in
    IfOk-weaker c.bands_ink.result
    (IsInk (shown (columns_of es) (columns_of (map turned_round es)).first (count_of (columns_of (map turned_round es)))
    (is_inked_by es)))
    (λ ink. ink ≡ ink_in (is_inked_by es) (columns_of es) (columns_of (map turned_round es)))
    (λ ink is. found_is (is_inked_by es) (columns_of es) (columns_of (map turned_round es)) ink (columns_near es fits)
    is)
    (rw (columns, rows, given) at c.bands_ink.ensures)

pub returns-clause-near : goal.returns-clause-near
returns-clause-near c =
    let es = c.args.list.edges in
    let on_tape : c.in_ok-tape.tape.edges ≡ es = ap (λ (t : Tape). t.edges) c.in_ok-tape.ensures in
    let lent : c.lend.result.now ≡ es = c.lend.ensures.exact ∙ on_tape in
    let fits : All EdgeFits es = rw lent at c.lend.ensures.fits in
    IfOk-weaker c.bands_ink.result (λ ink. ink ≡ edges_ink es) (λ ink. IfSome ink IsNear) (λ ink is. rw is (edges_near es fits))
    (returns-clause-exact c)
