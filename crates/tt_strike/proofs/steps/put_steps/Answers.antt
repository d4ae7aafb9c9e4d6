use Rattle.std.proofs.Common.{◌≡◌, ◌∙◌, ◌+◌, ◌<◌, ◌≤◌, ◌-◌, ℕ, List, ap, ap₂, drop, get_or, length, map, SFits, w32, of_z, to_z, refl, sym, arith, rules}
use Rattle.std.proofs.lemmas.Int.{to_z-of_z}
use Rattle.std.specs.List.{slice_index}
use Rattle.std.proofs.lemmas.List.{get_or_default, length-map}
use Rattle.tt_picture.specs.Fitted.{FittedGlyph, fitted_numbers}
use Rattle.tt_line.specs.Steps.{kerning_before}
use Rattle.tt_line.proofs.Kerned.{at_end, at_start, drop-numbers, one_kerned, step_here}
use Rattle.tt_picture.specs.Steps.{step_by}
use Rattle.tt_picture.proofs.Outlines.{advance_at, numbers_kept, same_number}
use Rattle.tt_picture.proofs.Seats.{seated}
use Rattle.tt_strike.proofs.steps.put_steps.Goals.{After-from-place}
use Rattle.tt_strike.proofs.steps.put_steps.Goals as goal

-- as many glyphs as at first
as_many : (gs hs : List (ℕ × ℕ)) → map (λ (g : ℕ × ℕ). g.0) gs ≡ map (λ (g : ℕ × ℕ). g.0) hs → length gs ≡ length hs
as_many gs hs same = sym (length-map gs (λ (g : ℕ × ℕ). g.0)) ∙ ap length same ∙ length-map hs (λ (g : ℕ × ℕ). g.0)

-- the number of the glyph at a place is that at first
as_at_first : (line gs : List (ℕ × ℕ)) (i n : ℕ) → map (λ (g : ℕ × ℕ). g.0) line ≡ map (λ (g : ℕ × ℕ). g.0) gs
    → i < length gs → n ≡ (get_or line i (0, 0)).0 → n ≡ (get_or gs i (0, 0)).0
as_at_first line gs i n same below is =
    let many = as_many line gs same in
    let under : i < length line = omega (arith, below, many) in
    is ∙ same_number line gs i same under below

-- the place of that glyph among those with outlines
place_is : (c : After-from-place) → (0 < c.from-place.result) × (c.from-place.result - 1 < length (fitted_numbers c.args.fitted.now))
    × (slice_index (fitted_numbers c.args.fitted.now) (c.from-place.result - 1) ≡ (get_or c.args.line.now c.loop-i.i (0, 0)).0)
place_is c =
    let gs = c.args.line.now in
    let i = c.loop-i.i in
    let n = (get_or gs i (0, 0)).0 in
    let table = c.args.places.now in
    let seat = c.from-place.result in
    let below : i < length gs = c.loop-i-test.true in
    let number : c.from.result ≡ n = as_at_first c.loop-i.line gs i c.from.result c.loop-i.invariant.numbers below c.from.ensures in
    let known : n < length table = c.requires.known i (0, 0) below in
    let read : seat ≡ get_or table n seat =
    c.from-place.ensures ∙ ap (λ m. get_or table m 0) number ∙ sym (get_or_default table n seat 0 known) in
    seated table (fitted_numbers c.args.fitted.now) n seat known read c.requires.places (c.requires.among i (0, 0) below)

pub offset_bounds-places-from : goal.offset_bounds-places-from
offset_bounds-places-from c =
    let number = as_at_first c.loop-i.line c.args.line.now c.loop-i.i c.from.result c.loop-i.invariant.numbers
    c.loop-i-test.true c.from.ensures in
    let below : c.from.result < length c.args.places.now = rw number (c.requires.known c.loop-i.i (0, 0) c.loop-i-test.true) in
    omega (arith, below)

pub bounds-places-from : goal.bounds-places-from
bounds-places-from c =
    let number = as_at_first c.loop-i.line c.args.line.now c.loop-i.i c.from.result c.loop-i.invariant.numbers
    c.loop-i-test.true c.from.ensures in
    rw number (c.requires.known c.loop-i.i (0, 0) c.loop-i-test.true)

pub overflow_sub-place : goal.overflow_sub-place
overflow_sub-place c =
    let some = (place_is (goal.at.overflow_sub-place c).After-from-place).0 in omega (arith, some)

pub bounds-fitted-place : goal.bounds-fitted-place
bounds-fitted-place c =
    let below = (place_is (goal.at.bounds-fitted-place c).After-from-place).1 in
    let many = length-map c.args.fitted.now (λ (g : FittedGlyph). g.number) in
    omega (arith, below, many)

pub loop-i-preserved : goal.loop-i-preserved
unfolding step_here
loop-i-preserved c =
    let gs = c.args.line.now in
    let line = c.loop-i.line in
    let i = c.loop-i.i in
    let n = (get_or gs i (0, 0)).0 in
    let place = c.from-place.result - 1 in
    let below : i < length gs = c.loop-i-test.true in
    let many = as_many line gs c.loop-i.invariant.numbers in
    let under : i < length line = omega (arith, below, many) in
    let seat = place_is (goal.at.loop-i-preserved c).After-from-place in
    let found : slice_index (fitted_numbers c.args.fitted.now) place ≡ n = seat.2 in
    let inside : place < length (fitted_numbers c.args.fitted.now) = seat.1 in
    let as_long = length-map c.args.fitted.now (λ (g : FittedGlyph). g.number) in
    let within : place < length c.args.fitted.now = omega (arith, inside, as_long) in
    let m = c.args.metrics.now in
    let numbers = c.loop-i.invariant.numbers in
    let read : (get_or line i (0, 0)).0 ≡ n = same_number line gs i numbers under below in
    let rest : map (λ (g : ℕ × ℕ). g.0) (drop (i + 1) line) ≡ map (λ (g : ℕ × ℕ). g.0) (drop (i + 1) gs) =
    sym (drop-numbers (i + 1) line) ∙ ap (λ (ns : List ℕ). drop (i + 1) ns) numbers ∙ drop-numbers (i + 1) gs in
    let kerning : c.kerning_at-kerning.result ≡ kerning_before m n (map (λ (g : ℕ × ℕ). g.0) (drop (i + 1) gs)) =
    c.kerning_at-kerning.ensures.exact ∙ ap₂ (λ (k : ℕ) (ks : List ℕ). kerning_before m k ks) read rest in
    let fits : SFits w32 c.kerning_at-kerning.result = search rules in
    let same : to_z w32 (of_z w32 c.kerning_at-kerning.result) ≡ c.kerning_at-kerning.result = simp to_z-of_z refl in
    let wide : SFits w32 c.advance_left.result = search rules in
    let alike : to_z w32 (of_z w32 c.advance_left.result) ≡ c.advance_left.result = simp to_z-of_z refl in
    record {
      numbers = numbers_kept line i c.kerned_step.result under ∙ numbers;
      steps = λ advance advances.
          let its : c.advance_left.result ≡ advance n = c.advance_left.ensures
          ∙ advance_at advance c.args.fitted.now place n c.index-fitted-place.result advances within found c.index-fitted-place.is in
          let step : c.kerned_step.result ≡ step_here m (step_by m c.args.ppem advance) i gs = rw (same, alike, its, kerning) at c.kerned_step.ensures in
          rw (read, step, c.loop-i.invariant.steps advance advances) (one_kerned m (step_by m c.args.ppem advance) i gs below);
    }

pub loop-i-init : goal.loop-i-init
loop-i-init c = record {
  numbers = refl;
  steps = λ advance advances. sym (at_start c.args.metrics.now (step_by c.args.metrics.now c.args.ppem advance) c.args.line.now);
}

pub returns : goal.returns
returns c = λ advance advances.
    let gs = c.args.line.now in
    let many = as_many c.loop-i.line gs c.loop-i.invariant.numbers in
    let over : length gs ≤ c.loop-i.i = omega (arith, c.loop-i-test.false, many) in
    c.loop-i.invariant.steps advance advances ∙ at_end c.args.metrics.now (step_by c.args.metrics.now c.args.ppem advance) c.loop-i.i gs over
