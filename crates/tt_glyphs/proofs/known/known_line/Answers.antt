use Rattle.std.proofs.Common.{◌∙◌, sym, ℕ, ◌<◌, map, arith}
use Rattle.std.proofs.lemmas.List.{append-nil, length_push}
use Rattle.std.proofs.lemmas.List.Elements.{All-push}
use Rattle.tt_glyphs.proofs.KnownNumbers.{below_count, known_all, known_more, known_same}
use Rattle.tt_glyphs.proofs.known.known_line.Goals.{in-Some+in_ok-push, in_default}
use Rattle.tt_glyphs.proofs.known.known_line.Goals as goal

pub loop-glyph-preserved : goal.loop-glyph-preserved
loop-glyph-preserved c =
    let count = c.args.count in
    let gs = c.args.glyphs.now in
    let line = c.loop-glyph.line.items in
    let i = c.loop-glyph.glyph-index in
    let below = c.loop-glyph-test.true in
    elim c.match-known_number.branch [
      | in-Some+in_ok-push w ↦
          let n = w.in-Some.number in
          let found = sym w.in-Some.ensures in
          record {
            numbers = rw (w.line-is, w.in_ok-push.ensures.items)
                (known_more line count n gs i below found ∙ c.loop-glyph.invariant.numbers);
            known = rw (w.line-is, w.in_ok-push.ensures.items)
                (All-push (λ (g : ℕ × ℕ). g.0 < count) line (n, 0) c.loop-glyph.invariant.known (below_count count _ n found));
            few = rw (w.line-is, w.in_ok-push.ensures.items, length_push line (n, 0)) (omega (arith, c.loop-glyph.invariant.few));
          }
      | in_default w ↦ record {
        numbers = rw (w.line-is, known_same count gs i below (sym w.in_default.ensures)) c.loop-glyph.invariant.numbers;
        known = rw w.line-is c.loop-glyph.invariant.known;
        few = rw w.line-is (omega (arith, c.loop-glyph.invariant.few));
      }
    ]

pub returns-clause-numbers : goal.returns-clause-numbers
returns-clause-numbers c =
    let line = c.loop-glyph.line.items in
    let none_left = known_all c.args.count c.args.glyphs.now c.loop-glyph.glyph-index c.loop-glyph-test.false in
    rw (← append-nil (map (λ (g : ℕ × ℕ). g.0) line)) (rw none_left at c.loop-glyph.invariant.numbers)
