use Rattle.std.proofs.Common.{◌≡◌, arith, length, map, refl}
use Rattle.std.proofs.lemmas.List.{length-map, take_at}
use Rattle.std.proofs.lemmas.List.Elements.{All-map}
use Rattle.tt_c_calls.specs.Bitmaps.{EntryStands, IsListGlyphDefect, bitmap_told, bitmaps_wanted}
use Rattle.tt_c_calls.proofs.Answered.{fails, stands, tells, wants_none}
use Rattle.tt_c_calls.proofs.glyph_bitmaps.draw_glyphs.Goals as goal

pub returns-then-told-glyphs : goal.returns-then-told-glyphs
returns-then-told-glyphs c = rw c.sized.ensures (record {
  order = λ few. refl;
  done = λ h. absurd (omega (arith, h));
  refused = λ enough _ _. absurd (omega (arith, enough, c.if-told-glyphs.true));
  small = λ enough _. absurd (omega (arith, enough, c.if-told-glyphs.true));
  kept = λ _. refl;
  told_kept = λ _. refl;
  stands = λ h. absurd (omega (arith, h));
  glyphs_stand = λ h. absurd (omega (arith, h));
})

pub returns-in-Err : goal.returns-in-Err
returns-in-Err c =
    let fault = c.in-Err.fault in
    rw c.answer_of.ensures (record {
      order = λ few. absurd (omega (arith, few, c.if-told-glyphs.false));
      done = λ h. absurd (fails fault h);
      refused = λ _ _ _. tells (bitmaps_wanted c.args.job.now c.args.glyphs.now c.args.font.now) fault c.in-Err.ensures.exact;
      small = λ _ h. absurd (wants_none fault h);
      kept = λ _. refl;
      told_kept = λ _. refl;
      stands = stands _ fault c.in-Err.ensures.defects;
      glyphs_stand = λ h. absurd (fails fault h);
    })

pub returns-then-wanted-rows : goal.returns-then-wanted-rows
returns-then-wanted-rows c =
    let wanted = c.wanted-wanted.ensures in
    rw c.sized-then-wanted-rows.ensures (record {
      order = λ few. absurd (omega (arith, few, c.if-told-glyphs.false));
      done = λ h. absurd (omega (arith, h));
      refused = λ _ _ h. absurd (h refl);
      small = λ _ _. (c.in-Ok.list, c.in-Ok.ensures.exact, rw wanted at c.if-wanted-rows.true, rw wanted refl);
      kept = λ _. refl;
      told_kept = λ _. refl;
      stands = λ h. absurd (omega (arith, h));
      glyphs_stand = λ h. absurd (omega (arith, h));
    })

pub returns : goal.returns
returns c =
    let b = c.in-Ok.list in
    let n = length c.args.glyphs.now in
    let wanted = c.wanted-wanted.ensures in
    let many = c.in-Ok.ensures.entries in
    let written = rw (c.entries.ensures, many) at c.write_entries.ensures in
    let long : length (map bitmap_told b.entries) ≡ n = rw length-map many in
    rw (c.sized-2.ensures, wanted) (record {
      order = λ few. absurd (omega (arith, few, c.if-told-glyphs.false));
      done = λ _. (
        b,
        c.in-Ok.ensures.exact,
        many,
        record {
          entries = written;
          rows = c.write_rows.ensures.rows;
          rest = c.write_rows.ensures.rest;
          answer = refl;
        },
      );
      refused = λ _ h. absurd (h refl);
      small = λ _ h. absurd (omega (arith, h));
      kept = λ h. absurd (h refl);
      told_kept = λ h. absurd (h refl);
      stands = λ h. absurd (omega (arith, h));
      glyphs_stand = λ _. rw (written, take_at (map bitmap_told b.entries) _ n long)
          (All-map (EntryStands (IsListGlyphDefect c.args.job.now c.args.glyphs.now c.args.font.now)) bitmap_told b.entries
          c.in-Ok.ensures.stands);
    })
