-- Units with their steps, one by one.
use Rattle.std.proofs.Common.{◌≡◌, ◌∙◌, ap, refl, sym, ℕ, zero, suc, ◌+◌, ◌<◌, ◌≤◌, ℤ, pos, List, [], ◌∷◌, ◌++◌, append_assoc, append-nil, add-one, drop, drop-cons, get_or, length, map, arith}
use Rattle.std.proofs.lemmas.List.{drop_all, drop_more, get_or-map, length-map}
use Rattle.std.proofs.lemmas.Simd.{map-map}
use Rattle.tt_label_rows.specs.Units.{stepped_units, unit_glyphs, with_steps}
use Rattle.tt_line.proofs.Kerned.{drop-numbers}
use Rattle.tt_line.specs.Steps.{kerning_before}
use Rattle.tt_metrics.specs.Metrics.{Metrics}
use Rattle.tt_rows.specs.Breaks.{no_unit}
use Rattle.tt_rows.specs.declared.unit.RowUnit.{RowUnit}

abbrev pub at_zero : RowUnit → ℕ × ℕ
at_zero u = (u.glyph, 0)

-- the glyphs of the units from a place on
pub glyphs_from : (us : List RowUnit) (i : ℕ) → map (λ (p : ℕ × ℕ). p.0) (drop i (map at_zero us)) ≡ unit_glyphs (drop i us)
glyphs_from us zero = map-map (λ (p : ℕ × ℕ). p.0) at_zero us
glyphs_from [] (suc i) = refl
glyphs_from (u ∷ us) (suc i) = glyphs_from us i

pub glyph_at : (us : List RowUnit) (i : ℕ) → i < length us → (get_or (map at_zero us) i (0, 0)).0 ≡ (get_or us i no_unit).glyph
glyph_at us i below = ap (λ (p : ℕ × ℕ). p.0) (get_or-map at_zero us i no_unit (0, 0) below)

-- the kerning of a unit, by the line of its glyphs
pub kerning_is : (m : Metrics) (us : List RowUnit) (line : List (ℕ × ℕ)) (i : ℕ) → i < length us → line ≡ map at_zero us
    → kerning_before m (get_or line i (0, 0)).0 (map (λ (p : ℕ × ℕ). p.0) (drop (i + 1) line))
    ≡ kerning_before m (get_or us i no_unit).glyph (unit_glyphs (drop (i + 1) us))
kerning_is m us line i below is = rw (is, glyph_at us i below, glyphs_from us (i + 1)) refl

-- one unit more
pub one_stepped : (m : Metrics) (step : ℕ → ℤ → ℕ) (us made : List RowUnit) (i : ℕ) (u : RowUnit) → i < length us
    → u ≡ with_steps step (get_or us i no_unit) (kerning_before m (get_or us i no_unit).glyph (unit_glyphs (drop (i + 1) us)))
    → (made ++ u ∷ []) ++ stepped_units m step (drop (i + 1) us) ≡ made ++ stepped_units m step (drop i us)
one_stepped m step us made i u below is =
    rw (append_assoc made (u ∷ []) (stepped_units m step (drop (i + 1) us)), is, drop_more us i no_unit below) refl

pub all_stepped : (m : Metrics) (step : ℕ → ℤ → ℕ) (us made : List RowUnit) (i : ℕ) → length us ≤ i
    → made ++ stepped_units m step (drop i us) ≡ made
all_stepped m step us made i over = rw (drop_all i us over) (append-nil made)

-- a line of the units' glyphs
drop_glyphs : (n : ℕ) (us : List RowUnit) → drop n (unit_glyphs us) ≡ unit_glyphs (drop n us)
drop_glyphs zero us = refl
drop_glyphs (suc n) [] = refl
drop_glyphs (suc n) (u ∷ us) = drop_glyphs n us

pub as_many : (us : List RowUnit) (line : List (ℕ × ℕ)) → map (λ (p : ℕ × ℕ). p.0) line ≡ unit_glyphs us → length line ≡ length us
as_many us line are =
    sym (length-map line (λ (p : ℕ × ℕ). p.0)) ∙ ap length are ∙ length-map us (λ (u : RowUnit). u.glyph)

pub line_glyph : (us : List RowUnit) (line : List (ℕ × ℕ)) (i : ℕ) → map (λ (p : ℕ × ℕ). p.0) line ≡ unit_glyphs us → i < length us
    → (get_or line i (0, 0)).0 ≡ (get_or us i no_unit).glyph
line_glyph us line i are below =
    let many = as_many us line are in
    let under : i < length line = omega (arith, many, below) in
    sym (get_or-map (λ (p : ℕ × ℕ). p.0) line i (0, 0) 0 under) ∙ ap (λ (ns : List ℕ). get_or ns i 0) are
    ∙ get_or-map (λ (u : RowUnit). u.glyph) us i no_unit 0 below

pub line_rest : (us : List RowUnit) (line : List (ℕ × ℕ)) (n : ℕ) → map (λ (p : ℕ × ℕ). p.0) line ≡ unit_glyphs us
    → map (λ (p : ℕ × ℕ). p.0) (drop n line) ≡ unit_glyphs (drop n us)
line_rest us line n are = sym (drop-numbers n line) ∙ ap (λ (ns : List ℕ). drop n ns) are ∙ drop_glyphs n us

-- its advance stands beside the glyph of a unit
pub own_advance : (advance : ℕ → ℕ) (us : List RowUnit) (line : List (ℕ × ℕ)) (i : ℕ)
    → line ≡ map (λ g. (g, advance g)) (unit_glyphs us) → i < length us
    → (get_or line i (0, 0)).1 ≡ advance (get_or us i no_unit).glyph
own_advance advance us line i are below =
    let both : ℕ → ℕ × ℕ = λ g. (g, advance g) in
    let count = length-map us (λ (u : RowUnit). u.glyph) in
    let there = ap (λ (qs : List (ℕ × ℕ)). get_or qs i (0, 0)) are
    ∙ get_or-map both (unit_glyphs us) i 0 (0, 0) (omega (arith, count, below)) in
    ap (λ (p : ℕ × ℕ). p.1) there ∙ ap advance (get_or-map (λ (u : RowUnit). u.glyph) us i no_unit 0 below)
