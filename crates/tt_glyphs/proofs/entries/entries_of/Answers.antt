use Rattle.std.proofs.Common.{◌≡◌, ◌∙◌, ap, ◌<◌, ◌≤◌, length, refl, slice_index, take, [], ◌∷◌, arith}
use Rattle.std.specs.List.{sum_by}
use Rattle.std.proofs.lemmas.List.{map-append, take_all, take_more}
use Rattle.tt_picture.specs.Distinct.{distinct}
use Rattle.tt_glyphs.specs.Listed.{IsNextOf, bytes_among, entry_by}
use Rattle.tt_glyphs.proofs.Entered.{all_small, drawn_few, end_after, entry_small, reports_fit, wanted_is}
use Rattle.tt_glyphs.proofs.entries.entries_of.Goals.{After-next_entry-entry}
use Rattle.tt_glyphs.proofs.entries.entries_of.Goals as goal

-- the entry of a number is that of the definition
entry_made : (c : After-next_entry-entry) → c.next_entry-entry.result
    ≡ entry_by c.args.drawn.now (distinct c.args.glyphs.now) (slice_index c.args.glyphs.now c.loop-glyph.glyph-index)
entry_made c =
    let gs = c.args.glyphs.now in
    let i = c.loop-glyph.glyph-index in
    let next : IsNextOf c.args.places.now c.args.drawn.now gs i c.deref-in-loop-glyph.result.now (slice_index gs i) c.loop-glyph.end =
    record {
      within = c.loop-glyph-test.true;
      number = refl;
      drawn = c.requires.distinct;
      entries = c.deref-in-loop-glyph.ensures.value ∙ c.loop-glyph.invariant.entries;
      ends = c.loop-glyph.invariant.end;
    } in
    c.next_entry-entry.ensures gs i next

pub starts_of-requires-clause-few : goal.starts_of-requires-clause-few
starts_of-requires-clause-few c =
    let few = drawn_few c.args.drawn.now (length c.args.places.now) c.args.glyphs.now c.requires.distinct in
    omega (arith, few, c.requires.few)

pub end_of-next-requires-clause-told : goal.end_of-next-requires-clause-told
end_of-next-requires-clause-told c =
    let g = slice_index c.args.glyphs.now c.loop-glyph.glyph-index in
    rw (entry_made (goal.at.end_of-next-requires-clause-told c).After-next_entry-entry)
    (reports_fit c.args.drawn.now g c.requires.fits)

pub end_of-next-requires-clause-at : goal.end_of-next-requires-clause-at
end_of-next-requires-clause-at c =
    rw (entry_made (goal.at.end_of-next-requires-clause-at c).After-next_entry-entry)
    (entry_small c.args.drawn.now c.args.glyphs.now c.loop-glyph.glyph-index c.loop-glyph-test.true c.requires.fits c.requires.few)

pub loop-glyph-preserved : goal.loop-glyph-preserved
loop-glyph-preserved c =
    let ds = c.args.drawn.now in
    let gs = c.args.glyphs.now in
    let i = c.loop-glyph.glyph-index in
    let below : i < length gs = c.loop-glyph-test.true in
    let made = entry_made (goal.at.loop-glyph-preserved c).After-next_entry-entry in
    let entry = entry_by ds (distinct gs) in
    record {
      entries = rw (c.in_ok-push.ensures.items, take_more gs i 0 below, map-append entry (take i gs) (slice_index gs i ∷ []), made, c.loop-glyph.invariant.entries)
          refl;
      end = rw (c.max-end.ensures, c.end_of-next.ensures, made, c.loop-glyph.invariant.end) (end_after ds gs i below);
    }

pub returns-clause-wanted : goal.returns-clause-wanted
returns-clause-wanted c =
    let ds = c.args.drawn.now in
    let gs = c.args.glyphs.now in
    let over : length gs ≤ c.loop-glyph.glyph-index = omega (arith, c.loop-glyph-test.false) in
    c.loop-glyph.invariant.end ∙ ap (λ ns. sum_by (bytes_among ds) (distinct ns)) (take_all c.loop-glyph.glyph-index gs over)
    ∙ wanted_is c.args.places.now ds gs c.requires.places c.requires.distinct

pub returns-clause-small : goal.returns-clause-small
returns-clause-small c =
    let ds = c.args.drawn.now in
    let gs = c.args.glyphs.now in
    let over : length gs ≤ c.loop-glyph.glyph-index = omega (arith, c.loop-glyph-test.false) in
    let whole = c.loop-glyph.invariant.end ∙ ap (λ ns. sum_by (bytes_among ds) (distinct ns)) (take_all c.loop-glyph.glyph-index gs over) in
    let small = all_small ds gs c.requires.fits c.requires.few in
    omega (arith, whole, small)
