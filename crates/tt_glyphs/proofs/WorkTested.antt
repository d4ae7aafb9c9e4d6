-- The chords and the crossings of tried glyphs are those of the definition, and are tested against the limits.
use Rattle.std.proofs.Common.{◌≡◌, ◌∙◌, refl, sym, ap, ℕ, ◌<◌, nat_lt, Bool, true, false, List, [], ◌∷◌, map, Option, Some, None, Result, Ok, Err, inl, inr, arith}
use Rattle.std.specs.List.{sum_by}
use Rattle.std.proofs.lemmas.Bool.Decides.{nat_tests}
use Rattle.std.proofs.lemmas.List.Sums.{sum_by-cons}
use Rattle.tt_core.specs.declared.fault.JobFault.TheVariants as fault
use Rattle.tt_core.specs.Faults.{Fault}
use Rattle.tt_fit.specs.declared.programs.Fit.{Fit}
use Rattle.tt_fit.specs.Fitting.{Fitter, fitted_outline}
use Rattle.tt_fit.specs.outline.Outline.{Outline}
use Rattle.tt_picture.specs.declared.fitting.LineLimits.{LineLimits}
use Rattle.tt_picture.specs.Distinct.{distinct}
use Rattle.tt_picture.specs.Steps.{glyph_chords, outline_chords}
use Rattle.tt_picture.specs.Shapes.{chords_with}
use Rattle.tt_strike.specs.Work.{chord_limit, chords_in, crossings_allowed, edges_limited, is_bounded, line_fitter, work_tested}
use Rattle.tt_glyphs.specs.declared.ruled.TriedGlyph.{TriedGlyph}
use Rattle.tt_glyphs.specs.Requests.{crossings_of_list, glyph_crossings, outline_crossings}
use Rattle.tt_glyphs.specs.Tried.{AreTriedBy, IsPast, IsWithin, ruled_by, ruled_chords, ruled_crossings, tried_chords, tried_crossings, tried_glyph, tried_numbers}

-- some glyphs, each with its fitter
abbrev tried_again : (ℕ → Fitter) → TriedGlyph → TriedGlyph
tried_again maker t = tried_glyph (maker t.number) t.number

chords_by : (s : Fitter) (g : ℕ) (r : Result Outline Fault) → ruled_chords (ruled_by s g r) ≡ outline_chords (chords_with s) r
chords_by s g (Ok o) = refl
chords_by s g (Err f) = refl

chords_one : (s : Fitter) (g : ℕ) → ruled_chords (ruled_by s g (fitted_outline s g)) ≡ glyph_chords s g
unfolding glyph_chords
chords_one s g = chords_by s g (fitted_outline s g)

crossings_by : (s : Fitter) (g : ℕ) (r : Result Outline Fault) → ruled_crossings (ruled_by s g r) ≡ outline_crossings s g r
crossings_by s g (Ok o) = refl
crossings_by s g (Err f) = refl

crossings_one : (s : Fitter) (g : ℕ) → ruled_crossings (ruled_by s g (fitted_outline s g)) ≡ glyph_crossings s g
unfolding glyph_crossings
crossings_one s g = crossings_by s g (fitted_outline s g)

chords_all : (maker : ℕ → Fitter) (ts : List TriedGlyph)
    → tried_chords (map (tried_again maker) ts) ≡ sum_by (λ g. glyph_chords (maker g) g) (tried_numbers ts)
chords_all maker [] = refl
chords_all maker (t ∷ ts) =
    sum_by-cons (λ (z : TriedGlyph). ruled_chords z.body) (tried_again maker t) (map (tried_again maker) ts)
    ∙ rw (chords_one (maker t.number) t.number, chords_all maker ts)
    (sym (sum_by-cons (λ g. glyph_chords (maker g) g) t.number (tried_numbers ts)))

crossings_all : (maker : ℕ → Fitter) (ts : List TriedGlyph)
    → tried_crossings (map (tried_again maker) ts) ≡ sum_by (λ g. glyph_crossings (maker g) g) (tried_numbers ts)
crossings_all maker [] = refl
crossings_all maker (t ∷ ts) =
    sum_by-cons (λ (z : TriedGlyph). ruled_crossings z.body) (tried_again maker t) (map (tried_again maker) ts)
    ∙ rw (crossings_one (maker t.number) t.number, crossings_all maker ts)
    (sym (sum_by-cons (λ g. glyph_crossings (maker g) g) t.number (tried_numbers ts)))

pub chords_tried : (s : Fitter) (gs : List ℕ) (ts : List TriedGlyph) → AreTriedBy (line_fitter s gs) ts
    → tried_numbers ts ≡ distinct gs → tried_chords ts ≡ chords_in s gs
chords_tried s gs ts tried numbers =
    let maker = line_fitter s gs in
    ap tried_chords tried ∙ chords_all maker ts ∙ ap (sum_by (λ g. glyph_chords (maker g) g)) numbers

pub crossings_tried : (s : Fitter) (gs : List ℕ) (ts : List TriedGlyph) → AreTriedBy (line_fitter s gs) ts
    → tried_numbers ts ≡ distinct gs → tried_crossings ts ≡ crossings_of_list s gs
crossings_tried s gs ts tried numbers =
    let maker = line_fitter s gs in
    ap tried_crossings tried ∙ crossings_all maker ts ∙ ap (sum_by (λ g. glyph_crossings (maker g) g)) numbers

-- the limits of a fit
abbrev pub AreLimits : Fit → Option ℕ → Option LineLimits → Type 0
AreLimits how left limits =
    (is_bounded how ≡ true → limits ≡ Some (record { chords = chord_limit; crossings = crossings_allowed left }))
    × (is_bounded how ≡ false → limits ≡ None)

within_by : (bounded : Bool) (how : Fit) (left : Option ℕ) (limits : Option LineLimits) (chords crossings : ℕ)
    → is_bounded how ≡ bounded → AreLimits how left limits → IsWithin limits chords crossings
    → edges_limited how left chords crossings ≡ Ok tt
unfolding edges_limited work_tested
within_by true how left limits chords crossings is are few =
    let both = rw (are.0 is) at few in
    let first : nat_lt chord_limit chords ≡ false = let fact = both.0 in grind (arith, nat_tests, fact) in
    let second : nat_lt (crossings_allowed left) crossings ≡ false = let fact = both.1 in grind (arith, nat_tests, fact) in
    rw (is, first, second) refl
within_by false how left limits chords crossings is are few = rw is refl

pub within_limits : (how : Fit) (left : Option ℕ) (limits : Option LineLimits) (chords crossings : ℕ)
    → AreLimits how left limits → IsWithin limits chords crossings → edges_limited how left chords crossings ≡ Ok tt
within_limits how left limits chords crossings are few =
    within_by (is_bounded how) how left limits chords crossings refl are few

crossings_past : (first : Bool) (how : Fit) (left : Option ℕ) (chords crossings : ℕ) → is_bounded how ≡ true
    → nat_lt chord_limit chords ≡ first → crossings_allowed left < crossings
    → edges_limited how left chords crossings ≡ Err fault.WorkLarge
unfolding edges_limited work_tested
crossings_past true how left chords crossings is first past = rw (is, first) refl
crossings_past false how left chords crossings is first past =
    let second : nat_lt (crossings_allowed left) crossings ≡ true = grind (arith, nat_tests, past) in rw (is, first, second) refl

chords_past : (how : Fit) (left : Option ℕ) (chords crossings : ℕ) → is_bounded how ≡ true → chord_limit < chords
    → edges_limited how left chords crossings ≡ Err fault.WorkLarge
unfolding edges_limited work_tested
chords_past how left chords crossings is past =
    let first : nat_lt chord_limit chords ≡ true = grind (arith, nat_tests, past) in rw (is, first) refl

past_by : (bounded : Bool) (how : Fit) (left : Option ℕ) (limits : Option LineLimits) (chords crossings : ℕ)
    → is_bounded how ≡ bounded → AreLimits how left limits → IsPast limits chords crossings
    → edges_limited how left chords crossings ≡ Err fault.WorkLarge
past_by true how left limits chords crossings is are many = elim (rw (are.0 is) at many) [
  | inl past ↦ chords_past how left chords crossings is past
  | inr past ↦ crossings_past (nat_lt chord_limit chords) how left chords crossings is refl past
]
past_by false how left limits chords crossings is are many = absurd (rw (are.1 is) at many)

pub past_limits : (how : Fit) (left : Option ℕ) (limits : Option LineLimits) (chords crossings : ℕ)
    → AreLimits how left limits → IsPast limits chords crossings → edges_limited how left chords crossings ≡ Err fault.WorkLarge
past_limits how left limits chords crossings are many =
    past_by (is_bounded how) how left limits chords crossings refl are many
