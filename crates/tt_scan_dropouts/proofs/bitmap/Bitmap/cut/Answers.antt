use Rattle.std.proofs.Common.{◌≡◌, ◌∙◌, refl, ap, false, ℕ, ◌*◌, ◌<◌, ◌≤◌, length, inl, inr, arith}
use Rattle.std.proofs.lemmas.List.{length-replicate, with_items_is}
use Rattle.tt_scan.specs.Tape.{Tape}
use Rattle.tt_scan_edges.specs.Winding.{is_black}
use Rattle.tt_scan_gaps.specs.Crossings.{centre}
use Rattle.tt_scan_dropouts.specs.Windows.{place, row_from_top}
use Rattle.tt_scan_dropouts.proofs.Inked.{all_below, all_white, count_fits, none_above, one_row_more}
use Rattle.tt_scan_dropouts.proofs.bitmap.Bitmap.cut.Goals as goal

pub loop-r-init : goal.loop-r-init
loop-r-init c =
    let w = c.args.window in
    let bytes = c.stride.result * w.height in
    let white = c.in_ok-bits.ensures.items_if_clones_equal (λ x is. is) in
    record {
      black = λ k j inside. rw (
        white,
        all_white bytes (place w k j),
        none_above w (λ x y. is_black c.args.tape.now.edges (centre x) (centre y)) c.rows_met-from.result.0 k j
            (λ r below before. c.rows_met-from.ensures.blank r k below (inl before)) inside,
      ) refl;
      len = ap length white ∙ length-replicate bytes 0 ∙ rw c.stride.ensures refl;
      tape = refl;
      crosses = rw c.requires.fresh (omega arith);
      room = refl;
    }

pub ink_row-requires-clause-rows : goal.ink_row-requires-clause-rows
ink_row-requires-clause-rows c = rw c.loop-r.invariant.tape c.requires.rows

pub ink_row-requires-clause-within : goal.ink_row-requires-clause-within
ink_row-requires-clause-within c = omega (arith, c.loop-r-test.true, c.rows_met-from.ensures.within)

pub ink_row-requires-clause-count : goal.ink_row-requires-clause-count
ink_row-requires-clause-count c =
    let so_far = c.loop-r.invariant in
    let edges : c.loop-r.tape.edges ≡ c.args.tape.now.edges = ap (λ (t : Tape). t.edges) so_far.tape in
    rw edges (count_fits c.loop-r.r c.args.window.height (length c.args.tape.now.edges) c.loop-r.tape.crosses
    (omega (arith, c.loop-r-test.true, c.rows_met-from.ensures.within)) c.requires.window.high c.requires.few so_far.crosses)

pub ink_row-requires-clause-room : goal.ink_row-requires-clause-room
ink_row-requires-clause-room c =
    let so_far = c.loop-r.invariant in
    let edges : c.loop-r.tape.edges ≡ c.args.tape.now.edges = ap (λ (t : Tape). t.edges) so_far.tape in
    rw (edges, so_far.room) c.requires.room

pub loop-r-preserved : goal.loop-r-preserved
loop-r-preserved c =
    let w = c.args.window in
    let es = c.args.tape.now.edges in
    let so_far = c.loop-r.invariant in
    let edges : c.loop-r.tape.edges ≡ es = ap (λ (t : Tape). t.edges) so_far.tape in
    let written = with_items_is c.loop-r.bits c.ink_row.new.bits (c.ink_row.ensures.len ∙ c.deref_mut.ensures.len) in
    let black = rw (c.deref_mut.ensures.value, edges) at c.ink_row.ensures.black in
    let crosses = rw edges at c.ink_row.ensures.crosses in
    record {
      black = λ k j inside. rw written (black k j inside ∙ rw (so_far.black k j inside)
          (one_row_more w c.loop-r.r j (is_black es (centre k) (centre j))));
      len = rw written (c.ink_row.ensures.len ∙ ap length c.deref_mut.ensures.value ∙ so_far.len);
      tape = c.ink_row.ensures.tape ∙ ap (λ (t : Tape). record t { crosses = c.ink_row.new.tape.crosses }) so_far.tape;
      crosses = omega (arith, crosses, so_far.crosses);
      room = c.ink_row.ensures.room ∙ so_far.room;
    }

pub returns-clause-black : goal.returns-clause-black
returns-clause-black c = λ k j inside.
    let so_far = c.loop-r.invariant in
    let blank : (r : ℕ) → r < c.args.window.height → c.loop-r.r ≤ r
    → is_black c.args.tape.now.edges (centre k) (centre (row_from_top c.args.window r)) ≡ false =
    λ r below after. c.rows_met-from.ensures.blank r k below (inr (omega (arith, after, c.loop-r-test.false))) in
    rw (inside, so_far.black k j inside)
    (all_below c.args.window (λ x y. is_black c.args.tape.now.edges (centre x) (centre y)) c.loop-r.r k j blank inside)

pub returns-clause-tape : goal.returns-clause-tape
returns-clause-tape c = c.loop-r.invariant.tape

pub returns-clause-room : goal.returns-clause-room
returns-clause-room c = c.loop-r.invariant.room
