use Rattle.std.proofs.Common.{◌≡◌, ◌∙◌, ap, ℕ, ◌<◌, List, Vec, Global, map, sym}
use Rattle.std.specs.List.{flat_map}
use Rattle.tt_label.proofs.Joined.{all_flat, lists_joined, one_joined}
use Rattle.tt_label.specs.Fitted.{glyphs_in}
use Rattle.tt_metrics.specs.Metrics.{glyphs_of}
use Rattle.tt_label.proofs.fitting.fit_lines.Goals.{After-deref, After-deref-2}
use Rattle.tt_label.proofs.fitting.fit_lines.Goals as goal

abbrev items_of : List (Vec (ℕ × ℕ) Global) → List (List (ℕ × ℕ))
items_of lines = map (λ (v : Vec (ℕ × ℕ) Global). v.items) lines

abbrev all_of : List (Vec (ℕ × ℕ) Global) → List (ℕ × ℕ)
all_of lines = flat_map (λ (v : Vec (ℕ × ℕ) Global). v.items) lines

-- the numbers of all glyphs
numbers_joined : (gs : List (ℕ × ℕ)) (lines : List (Vec (ℕ × ℕ) Global)) → gs ≡ all_of lines
    → map (λ (g : ℕ × ℕ). g.0) gs ≡ glyphs_in (items_of lines)
numbers_joined gs lines are = ap (λ (gs : List (ℕ × ℕ)). map (λ (g : ℕ × ℕ). g.0) gs) (are ∙ sym (lists_joined lines))

one_then : (c : After-deref) → c.deref.result.now ≡ all_of c.args.lines.now
one_then c =
    c.deref.ensures.value ∙ ap (λ (v : Vec (ℕ × ℕ) Global). v.items) c.index-lines-0.is
    ∙ one_joined c.args.lines.now c.index-lines-0.result c.if-lines-eq1.true

all_then : (c : After-deref-2) → c.deref-2.result.now ≡ all_of c.args.lines.now
all_then c = c.deref-2.ensures.value ∙ c.in_ok-all.ensures

pub fit_units-requires-clause-known : goal.fit_units-requires-clause-known
fit_units-requires-clause-known c =
    rw (one_then (goal.at.fit_units-requires-clause-known c).After-deref) (all_flat (λ (g : ℕ × ℕ). g.0 < glyphs_of c.args.sized.now.face.metrics)
    (λ (v : Vec (ℕ × ℕ) Global). v.items) c.args.lines.now c.requires.known)

pub fit_units-requires-clause-few : goal.fit_units-requires-clause-few
fit_units-requires-clause-few c = rw (one_then (goal.at.fit_units-requires-clause-few c).After-deref) c.requires.few

pub returns-then-lines-eq1-clause-fitted : goal.returns-then-lines-eq1-clause-fitted
returns-then-lines-eq1-clause-fitted c =
    rw (numbers_joined c.deref.result.now c.args.lines.now (one_then (goal.at.returns-then-lines-eq1-clause-fitted c).After-deref)) at c.fit_units.ensures.fitted

pub returns-then-lines-eq1-clause-stops : goal.returns-then-lines-eq1-clause-stops
returns-then-lines-eq1-clause-stops c =
    rw (numbers_joined c.deref.result.now c.args.lines.now (one_then (goal.at.returns-then-lines-eq1-clause-stops c).After-deref)) at c.fit_units.ensures.stops

pub returns-then-lines-eq1-clause-defects : goal.returns-then-lines-eq1-clause-defects
returns-then-lines-eq1-clause-defects c =
    rw (numbers_joined c.deref.result.now c.args.lines.now (one_then (goal.at.returns-then-lines-eq1-clause-defects c).After-deref)) at c.fit_units.ensures.defects

pub fit_units-requires-2-clause-known : goal.fit_units-requires-2-clause-known
fit_units-requires-2-clause-known c =
    rw (all_then (goal.at.fit_units-requires-2-clause-known c).After-deref-2) (all_flat (λ (g : ℕ × ℕ). g.0 < glyphs_of c.args.sized.now.face.metrics)
    (λ (v : Vec (ℕ × ℕ) Global). v.items) c.args.lines.now c.requires.known)

pub fit_units-requires-2-clause-few : goal.fit_units-requires-2-clause-few
fit_units-requires-2-clause-few c = rw (all_then (goal.at.fit_units-requires-2-clause-few c).After-deref-2) c.requires.few

pub returns-clause-fitted : goal.returns-clause-fitted
returns-clause-fitted c =
    rw (numbers_joined c.deref-2.result.now c.args.lines.now (all_then (goal.at.returns-clause-fitted c).After-deref-2)) at c.fit_units-2.ensures.fitted

pub returns-clause-stops : goal.returns-clause-stops
returns-clause-stops c =
    rw (numbers_joined c.deref-2.result.now c.args.lines.now (all_then (goal.at.returns-clause-stops c).After-deref-2)) at c.fit_units-2.ensures.stops

pub returns-clause-defects : goal.returns-clause-defects
returns-clause-defects c =
    rw (numbers_joined c.deref-2.result.now c.args.lines.now (all_then (goal.at.returns-clause-defects c).After-deref-2)) at c.fit_units-2.ensures.defects
