use Rattle.std.proofs.Common.{◌≡◌, ◌∙◌, ℕ, ◌<◌, ◌≤◌, get_or, length, map, refl, take, arith}
use Rattle.std.proofs.lemmas.List.{append-nil, drop_all, map_more, take_all}
use Rattle.std.proofs.lemmas.List.Sums.{sum-map, sum_by_more_le, sum_by_push}
use Rattle.tt_line.proofs.Pens.{at_pens}
use Rattle.tt_label_rows.proofs.Stood.{from_start, one_stands, step_read}
use Rattle.tt_label_rows.proofs.laying.stand.Goals as goal

pub overflow_add-pen : goal.overflow_add-pen
overflow_add-pen c =
    let gs = c.args.glyphs.now in
    let i = c.loop-i.i in
    let within : i < length gs = omega (arith, c.loop-i-test.true) in
    let step : get_or c.loop-i.glyphs i (0, 0) ≡ get_or gs i (0, 0) = rw c.loop-i.invariant.placed (step_read c.args.start gs i within) in
    let pen = c.loop-i.invariant.pen in
    let fits = c.requires in
    let most = sum_by_more_le (λ (p : ℕ × ℕ). p.1) gs i (0, 0) within in
    let all = sum-map (λ (p : ℕ × ℕ). p.1) gs in
    let so_far = sum-map (λ (p : ℕ × ℕ). p.1) (take i gs) in
    rw step (omega (arith, pen, fits, most, all, so_far))

pub overflow_add-glyphs : goal.overflow_add-glyphs
overflow_add-glyphs c =
    let gs = c.args.glyphs.now in
    let i = c.loop-i.i in
    let within : i < length gs = omega (arith, c.loop-i-test.true) in
    let most = sum_by_more_le (λ (p : ℕ × ℕ). p.1) gs i (0, 0) within in
    let all = sum-map (λ (p : ℕ × ℕ). p.1) gs in
    let so_far = sum-map (λ (p : ℕ × ℕ). p.1) (take i gs) in
    omega (arith, c.loop-i.invariant.pen, c.requires, most, all, so_far)

pub loop-i-preserved : goal.loop-i-preserved
loop-i-preserved c =
    let gs = c.args.glyphs.now in
    let i = c.loop-i.i in
    let within : i < length gs = omega (arith, c.loop-i-test.true) in
    let step = step_read c.args.start gs i within in
    record {
      pen = rw (
        map_more (λ (p : ℕ × ℕ). p.1) gs i (0, 0) within,
        sum_by_push (λ n. n) (map (λ (p : ℕ × ℕ). p.1) (take i gs)) (get_or gs i (0, 0)).1,
        c.loop-i.invariant.pen,
        c.loop-i.invariant.placed,
        step,
      ) refl;
      placed = rw (c.loop-i.invariant.placed, c.loop-i.invariant.pen) (one_stands c.args.start gs i within);
    }

pub returns : goal.returns
returns c =
    let gs = c.args.glyphs.now in
    let over : length gs ≤ c.loop-i.i = omega (arith, c.loop-i-test.false) in
    c.loop-i.invariant.placed ∙ rw (take_all c.loop-i.i gs over, drop_all c.loop-i.i gs over, append-nil (from_start c.args.start (at_pens gs))) refl
