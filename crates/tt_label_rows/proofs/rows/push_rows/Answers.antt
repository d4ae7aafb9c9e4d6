use Rattle.std.proofs.Common.{◌≡◌, ◌∙◌, ap, ℕ, ◌+◌, ◌-◌, ◌*◌, ◌^◌, ◌<◌, ◌≤◌, List, [], ◌∷◌, ◌++◌, append_assoc, ◌||◌, Vec, Global, get_or, length, map, sym, take, drop, refl, arith}
use Rattle.std.proofs.lemmas.List.{length-map, length_push, map_push, take_all, take_more}
use Rattle.std.proofs.lemmas.List.Elements.{All-push}
use Rattle.std.specs.Prelude.{All}
use Rattle.tt_core.specs.Limits.{text_limit}
use Rattle.tt_label_rows.proofs.Broken.{any_last, or_joined}
use Rattle.tt_label_rows.specs.Rows.{row_glyphs}
use Rattle.tt_rows.specs.declared.row.LineRow.{LineRow}
use Rattle.tt_rows.specs.declared.unit.RowUnit.{RowUnit}
use Rattle.tt_rows.specs.Rows.{empty_row}
use Rattle.tt_rows.specs.Widths.{part, stepped_row}
use Rattle.tt_label_rows.proofs.rows.push_rows.Goals as goal

pub row_glyphs-requires-clause-order : goal.row_glyphs-requires-clause-order
row_glyphs-requires-clause-order c =
    let below = c.loop-row-test.true in
    let at = c.in_ok-line.ensures.within c.loop-row.row-index empty_row (rw c.deref-row-items.ensures.value at below) in
    rw c.deref-row-items.ensures.value at.0

pub row_glyphs-requires-clause-within : goal.row_glyphs-requires-clause-within
row_glyphs-requires-clause-within c =
    let below = c.loop-row-test.true in
    let at = c.in_ok-line.ensures.within c.loop-row.row-index empty_row (rw c.deref-row-items.ensures.value at below) in
    rw c.deref-row-items.ensures.value at.1

pub loop-row-preserved : goal.loop-row-preserved
loop-row-preserved c =
    let at = c.loop-row in
    let was = at.invariant in
    let all = c.deref-row-items.result.now in
    let i = at.row-index in
    let row = get_or all i empty_row in
    let units = c.args.units.now in
    let its : Vec (ℕ × ℕ) Global → List (ℕ × ℕ) = λ v. v.items in
    let v = c.in_ok-glyphs.glyphs in
    let pushed : c.push.new.self.items ≡ at.made.rows.items ++ v ∷ [] = c.in_ok-push.ensures.items in
    let one : v.items ≡ row_glyphs units row = c.in_ok-glyphs.ensures.exact in
    let more : map (row_glyphs units) (take (i + 1) all) ≡ map (row_glyphs units) (take i all) ++ row_glyphs units row ∷ [] =
    ap (map (row_glyphs units)) (take_more all i empty_row c.loop-row-test.true) ∙ map_push (row_glyphs units) (take i all) row in
    record {
      rows = rw (pushed, map_push its at.made.rows.items v, was.rows, one, more)
          (append_assoc (map its c.args.made.now.rows.items) (map (row_glyphs units) (take i all)) (row_glyphs units row ∷ []));
      broken = was.broken;
      count = let count = was.count in rw (pushed, length_push at.made.rows.items v) (omega (arith, count));
      short = λ short. rw pushed (All-push (λ (v : Vec (ℕ × ℕ) Global). length v.items ≤ text_limit) at.made.rows.items v (was.short short) c.in_ok-glyphs.ensures.short);
    }
