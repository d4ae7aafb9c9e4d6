use Rattle.std.proofs.Common.{◌≡◌, ◌≤◌, true, false, SFits, w32, of_z, to_z, refl, arith, rules}
use Rattle.std.proofs.lemmas.Bool.Decides.{nat_tests}
use Rattle.std.proofs.lemmas.Int.{to_z-of_z}
use Rattle.tt_glyphs.specs.Bitmaps.{is_large}
use Rattle.tt_glyphs.proofs.DrawnGlyphs.{blank_drawn, inked_drawn, large_drawn}
use Rattle.tt_glyphs.proofs.drawing.placed.Goals as goal

pub returns-then-is_large-clause-drawn : goal.returns-then-is_large-clause-drawn
returns-then-is_large-clause-drawn c = λ s source at by.
    let large : is_large c.args.place ≡ true = rw c.is_large.ensures at c.if-is_large.true in
    rw c.rowless.ensures (large_drawn c.args.source.now.fit s c.args.number c.args.place c.args.edged at by large)

pub returns-then-place-eq0-clause-drawn : goal.returns-then-place-eq0-clause-drawn
returns-then-place-eq0-clause-drawn c = λ s source at by.
    let small : is_large c.args.place ≡ false = rw c.is_large.ensures at c.if-is_large.false in
    let left = c.args.edged.advance_left in
    let fits : SFits w32 left = search rules in
    let same : to_z w32 (of_z w32 left) ≡ left = simp to_z-of_z refl in
    rw (c.rowless-then-place-eq0.ensures, c.in_ok-advance_of.ensures, same)
    (blank_drawn c.args.source.now c.args.source.now.fit s c.args.number c.args.place c.args.edged source at by small c.if-place-eq0.true)

pub returns-then-place-eq0-clause-fits : goal.returns-then-place-eq0-clause-fits
returns-then-place-eq0-clause-fits c =
    let small : is_large c.args.place ≡ false = rw c.is_large.ensures at c.if-is_large.false in
    rw c.rowless-then-place-eq0.ensures (record {
      told = record {
        width = grind (arith, nat_tests, small);
        height = grind (arith, nat_tests, small);
        left = c.requires.place.left;
        top = c.requires.place.top;
      };
      bitmap = rw c.if-place-eq0.true (omega arith);
    })

pub rows_of-requires-clause-place : goal.rows_of-requires-clause-place
rows_of-requires-clause-place c =
    let small : is_large c.args.place ≡ false = rw c.is_large.ensures at c.if-is_large.false in
    let some : 1 ≤ c.args.place.width = omega (arith, c.if-place-eq0.false) in
    record {
      some = some;
      high = c.requires.place.high some;
      width = grind (arith, nat_tests, small);
      height = grind (arith, nat_tests, small);
      left = c.requires.place.left;
      top = c.requires.place.top;
    }

pub returns-clause-fits : goal.returns-clause-fits
returns-clause-fits c =
    let small : is_large c.args.place ≡ false = rw c.is_large.ensures at c.if-is_large.false in
    let place = c.in_ok-bitmap.ensures.place in
    record {
      told = record {
        width = grind (arith, nat_tests, small);
        height = grind (arith, nat_tests, small);
        left = c.requires.place.left;
        top = c.requires.place.top;
      };
      bitmap = (c.in_ok-bitmap.ensures.fits, rw place refl);
    }

pub returns-clause-drawn : goal.returns-clause-drawn
returns-clause-drawn c = λ s source at by.
    let small : is_large c.args.place ≡ false = rw c.is_large.ensures at c.if-is_large.false in
    let left = c.args.edged.advance_left in
    let fits : SFits w32 left = search rules in
    let same : to_z w32 (of_z w32 left) ≡ left = simp to_z-of_z refl in
    rw (c.in_ok-advance_of.ensures, same)
    (inked_drawn c.args.source.now c.args.source.now.fit s c.args.number c.args.place c.args.edged c.in_ok-bitmap.bitmap source at by small
    c.in_ok-bitmap.ensures.rows)
