-- The glyphs of a line, each with its step.
use Rattle.std.proofs.Common.{◌≡◌, ◌∙◌, refl, sym, ap, ap₂, Bool, false, if◌then◌else◌, int_lt, neg_ℤ, ℕ, zero, suc, ◌+◌, ◌*◌, ◌/◌, ◌<◌, ℤ, pos, ◌+ℤ◌, ◌*ℤ◌, unsigned_abs, All, List, [], ◌∷◌, drop, get_or, length, map, Option, Some, None, inl, inr, arith}
use Rattle.std.proofs.lemmas.List.{get_or-map, length-map}
use Rattle.std.specs.Option.{is_some}
use Rattle.tt_kern.specs.Feature.{feature_of}
use Rattle.tt_kern.specs.Kerning.{Tables}
use Rattle.tt_kern.specs.KernTable.{kern_sum}
use Rattle.tt_kern.specs.Words.{word, long}
use Rattle.tt_metrics.specs.Metrics.{Metrics, advance_of, kerning_by, kerning_of, units_per_em_of}
use Rattle.tt_core.specs.Numbers.{nearest_quotient, rounded_quotient}
use Rattle.std.proofs.lemmas.Int.{ints}
use Rattle.tt_line.specs.Layout.{advance_in_pixels}
use Rattle.tt_line.specs.Laws.{KerningLooksOneAhead, NoTableNoKerning, UnkernedLinesAdvance}
use Rattle.tt_line.specs.Steps.{at_least, kerning_before, linear_line, step_in_pixels, stepped}

pub length-stepped : (m : Metrics) (step : ℕ → ℤ → ℕ) (gs : List ℕ) → length (stepped m step gs) ≡ length gs
length-stepped m step [] = refl
length-stepped m step (g ∷ gs) = ap (λ (n : ℕ). suc n) (length-stepped m step gs)

-- the glyphs are the given ones
pub firsts : (m : Metrics) (step : ℕ → ℤ → ℕ) (gs : List ℕ) → map (λ (p : ℕ × ℕ). p.0) (stepped m step gs) ≡ gs
firsts m step [] = refl
firsts m step (g ∷ gs) = ap (λ (hs : List ℕ). g ∷ hs) (firsts m step gs)

-- a glyph with its step, by its number
pub stepped_at : (m : Metrics) (step : ℕ → ℤ → ℕ) (gs : List ℕ) (i : ℕ) → i < length gs
    → get_or (stepped m step gs) i (0, 0) ≡ (get_or gs i 0, step (get_or gs i 0) (kerning_before m (get_or gs i 0) (drop (i + 1) gs)))
stepped_at m step [] i within = absurd (omega (arith, within))
stepped_at m step (g ∷ gs) zero within = refl
stepped_at m step (g ∷ gs) (suc i) within =
    let on : suc i + 1 ≡ suc (i + 1) = omega arith in
    rw on (stepped_at m step gs i (omega (arith, within)))

not_below : (n : ℕ) → int_lt (pos n) (pos 0) ≡ false
not_below n = grind (arith, ints)

at_least_none : (q : ℕ) → at_least 0 (pos q) ≡ q
at_least_none q = ap (λ (b : Bool). if b then 0 else q) (not_below q)

quotient_of : (n d : ℕ) → rounded_quotient (pos n) (pos d) ≡ pos ((2 * n + d) / (2 * d))
quotient_of n d =
    ap (λ (b : Bool). if b then nearest_quotient (neg_ℤ (pos n)) (neg_ℤ (pos d)) else nearest_quotient (pos n) (pos d)) (not_below d)

-- the step of a glyph without kerning is its advance
pub step_alone : (m : Metrics) (ppem g : ℕ) → step_in_pixels m ppem g (pos 0) ≡ advance_in_pixels m ppem g
step_alone m ppem g =
    let units = advance_of m g in
    let em = units_per_em_of m in
    let sum : pos units +ℤ pos 0 ≡ pos units = omega (arith, ints) in
    ap (λ (n : ℤ). at_least 0 (rounded_quotient (n *ℤ pos ppem) (pos em))) sum
    ∙ ap (λ (n : ℤ). at_least 0 n) (quotient_of (units * ppem) em)
    ∙ at_least_none ((2 * (units * ppem) + em) / (2 * em))
    ∙ sym (ap (λ (n : ℤ). unsigned_abs n) (quotient_of (units * ppem) em))

kerning_none : (m : Metrics) (g : ℕ) (gs : List ℕ) → ((g h : ℕ) → kerning_of m g h ≡ pos 0) → kerning_before m g gs ≡ pos 0
kerning_none m g [] none = refl
kerning_none m g (h ∷ hs) none = none g h

-- where no pair has kerning, the steps are the advances
pub unkerned-lines : UnkernedLinesAdvance
unkerned-lines m ppem [] none = refl
unkerned-lines m ppem (g ∷ gs) none =
    let one : step_in_pixels m ppem g (kerning_before m g gs) ≡ advance_in_pixels m ppem g =
    ap (λ (k : ℤ). step_in_pixels m ppem g k) (kerning_none m g gs none) ∙ step_alone m ppem g in
    ap₂ (λ (n : ℕ) (ps : List (ℕ × ℕ)). (g, n) ∷ ps) one (unkerned-lines m ppem gs none)

pub unkerned_line : (m : Metrics) (ppem : ℕ) (gs : List ℕ) → m.kerning ≡ None
    → linear_line m ppem gs ≡ map (λ (g : ℕ). (g, advance_in_pixels m ppem g)) gs
unkerned_line m ppem gs off = unkerned-lines m ppem gs (λ g h. ap (λ (k : Option Tables). kerning_by k g h) off)

-- a glyph has no kerning where pairs are not kerned
pub no_tables : (kerning : Option Tables) → false ≡ is_some kerning → kerning ≡ None
no_tables None none = refl
no_tables (Some tables) none = absurd cc

pub unkerned_before : (m : Metrics) (g : ℕ) (gs : List ℕ) → m.kerning ≡ None → kerning_before m g gs ≡ pos 0
unkerned_before m g gs off = kerning_none m g gs (λ g h. ap (λ (k : Option Tables). kerning_by k g h) off)

pub no-table : NoTableNoKerning
unfolding word long feature_of kern_sum
no-table m v g h (inl off) = ap (λ (k : Option Tables). kerning_by k g h) off
no-table m v g h (inr empty) = ap (λ (k : Option Tables). kerning_by k g h) empty ∙ refl

-- the glyphs of a line before its last have their steps, whatever follows the line
pub looks-ahead : KerningLooksOneAhead
looks-ahead m ppem [] more i within = absurd (omega (arith, within))
looks-ahead m ppem (g ∷ gs) more zero within = refl
looks-ahead m ppem (g ∷ []) more (suc i) within = absurd (omega (arith, within))
looks-ahead m ppem (g ∷ h ∷ gs) more (suc i) within =
    ap (λ (ps : List (ℕ × ℕ)). (g, step_in_pixels m ppem g (kerning_of m g h)) ∷ ps) (looks-ahead m ppem (h ∷ gs) more i (omega (arith, within)))

-- glyphs beside numbers are the glyphs
pub numbers_beside : (f : ℕ → ℕ) (gs : List ℕ) → map (λ (p : ℕ × ℕ). p.0) (map (λ (g : ℕ). (g, f g)) gs) ≡ gs
numbers_beside f [] = refl
numbers_beside f (g ∷ gs) = ap (λ (hs : List ℕ). g ∷ hs) (numbers_beside f gs)

-- two lines of the same glyphs: where those of one are known, so are those of the other
pub known_alike : (n : ℕ) (ps qs : List (ℕ × ℕ)) → map (λ (p : ℕ × ℕ). p.0) ps ≡ map (λ (p : ℕ × ℕ). p.0) qs
    → All (λ (p : ℕ × ℕ). p.0 < n) ps → All (λ (p : ℕ × ℕ). p.0 < n) qs
known_alike n ps qs same known = λ k d within.
    let number : ℕ × ℕ → ℕ = λ p. p.0 in
    let long = ap length same in
    let these = length-map ps number in
    let those = length-map qs number in
    let here : k < length ps = omega (arith, long, these, those, within) in
    let one : (get_or ps k d).0 ≡ (get_or qs k d).0 =
    sym (get_or-map number ps k d 0 here) ∙ ap (λ (ns : List ℕ). get_or ns k 0) same ∙ get_or-map number qs k d 0 within in
    rw (← one) (known k d here)
