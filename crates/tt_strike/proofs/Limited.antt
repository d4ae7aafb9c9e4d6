-- The edges of a line's glyphs, within their limits and past them.
use Rattle.std.proofs.Common.{◌≡◌, refl, ℕ, ◌+◌, ◌-◌, ◌^◌, ◌<◌, ◌≤◌, nat_lt, true, false, Bool, if◌then◌else◌, List, [], ◌∷◌, ◌++◌, map, Option, Result, Ok, Err, arith}
use Rattle.std.specs.List.{sum_by}
use Rattle.std.specs.Prelude.{min}
use Rattle.std.proofs.lemmas.Bool.Decides.{nat_tests}
use Rattle.std.proofs.lemmas.List.Elements.{All-head, All-tail}
use Rattle.std.proofs.lemmas.List.Sums.{sum_by-cons, sum_by_push}
use Rattle.tt_core.specs.Faults.{Fault}
use Rattle.tt_core.specs.declared.fault.JobFault.TheVariants as fault
use Rattle.tt_core.specs.Outcomes.{◌>>=◌, each}
use Rattle.tt_fit.specs.Fitting.{Fitter, fitted_outline}
use Rattle.tt_fit.specs.outline.Outline.{Outline}
use Rattle.tt_fit.specs.declared.programs.Fit.{Fit}
use Rattle.tt_picture.specs.Distinct.{distinct, distinct_after, is_among, with_glyph}
use Rattle.tt_picture.specs.Fitted.{AreFitted, FittedBody, FittedGlyph, IsFitted, IsFittedBody, fitted_crossings, fitted_numbers, kept, made_crossings, outlined}
use Rattle.tt_picture.specs.Pixels.{Shape}
use Rattle.tt_picture.specs.Shapes.{chords_with, crossings_in, edges_at, filled_at, filled_by, filling_crossings, glyph_shape}
use Rattle.tt_picture.proofs.Standings.{counts_from_pen, filling_from_pen}
use Rattle.tt_picture.specs.dropouts.Counted.{edges_counted}
use Rattle.tt_strike.proofs.FirstShape.{first_of}
use Rattle.tt_strike.specs.Refusals.{as_job, job}
use Rattle.tt_strike.specs.Work.{chord_limit, crossings_allowed, edges_limited, is_bounded, work_tested}

pub past_limit : (how : Fit) (limit work : ℕ) → is_bounded how ≡ true → limit < work → work_tested how limit work ≡ Err fault.WorkLarge
unfolding work_tested
past_limit how limit work bounded past =
    let over : nat_lt limit work ≡ true = grind (arith, nat_tests) in
    rw (bounded, over) refl

pub in_limit : (how : Fit) (limit work : ℕ) → is_bounded how ≡ true → work ≤ limit → work_tested how limit work ≡ Ok tt
unfolding work_tested
in_limit how limit work bounded few =
    let within : nat_lt limit work ≡ false = grind (arith, nat_tests) in
    rw (bounded, within) refl

-- crossings that are counted up to 2 ^ 64 - 1
pub count_over : (how : Fit) (most work count : ℕ) → is_bounded how ≡ true → count ≡ min work (2 ^ 64 - 1) → most < count
    → work_tested how most work ≡ Err fault.WorkLarge
count_over how most work count bounded is past = past_limit how most work bounded (omega (arith, is, past))

pub count_within : (how : Fit) (most work count : ℕ) → is_bounded how ≡ true → count ≡ min work (2 ^ 64 - 1) → count ≤ most
    → most < 2 ^ 64 - 1 → (work_tested how most work ≡ Ok tt) × (count ≡ work)
count_within how most work count bounded is within under =
    (in_limit how most work bounded (omega (arith, is, within, under)), omega (arith, is, within, under))

pub unbounded_work : (how : Fit) (most work : ℕ) → is_bounded how ≡ false → work_tested how most work ≡ Ok tt
unfolding work_tested
unbounded_work how most work other = rw other refl

pub too_many_chords : (how : Fit) (left : Option ℕ) (chords crossings : ℕ) → is_bounded how ≡ true → 32000000 < chords
    → as_job (edges_limited how left chords crossings) ≡ Err (job fault.WorkLarge)
unfolding edges_limited
too_many_chords how left chords crossings bounded past = rw (past_limit how chord_limit chords bounded past) refl

-- with few chords the crossings decide
pub few_chords : (how : Fit) (left : Option ℕ) (chords crossings : ℕ) → is_bounded how ≡ true → chords ≤ 32000000
    → edges_limited how left chords crossings ≡ work_tested how (crossings_allowed left) crossings
unfolding edges_limited
few_chords how left chords crossings bounded few = rw (in_limit how chord_limit chords bounded few) refl

either_way : (b : Bool)
    → as_job {X = Unit {0}} ((if b then Err fault.WorkLarge else Ok (tt {0})) >>= λ (u : Unit {0}). Err fault.WorkLarge) ≡ Err (job fault.WorkLarge)
either_way true = refl
either_way false = refl

-- too many crossings are refused, however many chords there are
pub too_many_crossings : (how : Fit) (left : Option ℕ) (chords crossings : ℕ) → is_bounded how ≡ true
    → crossings_allowed left < crossings → as_job (edges_limited how left chords crossings) ≡ Err (job fault.WorkLarge)
unfolding edges_limited work_tested
too_many_crossings how left chords crossings bounded past =
    let over : nat_lt (crossings_allowed left) crossings ≡ true = grind (arith, nat_tests) in
    rw (bounded, over) (either_way (nat_lt chord_limit chords))

-- the crossings of a glyph by its number, at one pen
abbrev crosses_by : Fitter → ℕ → Result Outline Fault → ℕ
crosses_by s n (Ok o) = let es = edges_at (chords_with s) 0 o in edges_counted es + filling_crossings (filled_by s n o) es
crosses_by s n (Err f) = 0

abbrev crosses : (ℕ → Fitter) → ℕ → ℕ
crosses maker n = crosses_by (maker n) n (fitted_outline (maker n) n)

body_crosses : (s : Fitter) (n : ℕ) (o : Outline) (body : FittedBody) → IsFittedBody s n o body
    → made_crossings body ≡ crosses_by s n (Ok o)
body_crosses s n o (outlined m) is = rw (is.rule, is.outline, is.filled) refl
body_crosses s n o (kept k) is = is.1.cut.crossings

fitted_crosses : (maker : ℕ → Fitter) (fs : List FittedGlyph) → AreFitted maker fs
    → fitted_crossings fs ≡ sum_by (crosses maker) (fitted_numbers fs)
fitted_crosses maker [] fitted = refl
fitted_crosses maker (f ∷ fs) fitted =
    let P : FittedGlyph → Type 0 = λ g. IsFitted (maker g.number) g in
    let one = All-head P f fs fitted in
    let own : made_crossings f.body ≡ crosses maker f.number = rw one.outline (body_crosses (maker f.number) f.number one.shape f.body one.body) in
    let rest = fitted_crosses maker fs (All-tail P f fs fitted) in
    let first = sum_by-cons (λ (g : FittedGlyph). made_crossings g.body) f fs in
    let number = sum_by-cons (crosses maker) f.number (fitted_numbers fs) in
    omega (arith, own, rest, first, number)

line_crosses : (maker : ℕ → Fitter) (line : List (ℕ × ℕ)) (shapes : List Shape) → each (glyph_shape maker) line ≡ Ok shapes
    → sum_by (crosses maker) (map (λ g. g.0) line) ≡ crossings_in shapes
line_crosses maker [] shapes made = let none : shapes ≡ [] = cc in rw none refl
line_crosses maker (g ∷ gs) shapes made =
    let one = first_of maker g gs shapes made in
    let o = one.outline in
    let s = maker g.0 in
    let there : edges_counted (edges_at (chords_with s) g.1 o) + filling_crossings (filled_at g.1 (filled_by s g.0 o)) (edges_at (chords_with s) g.1 o)
    ≡ crosses_by s g.0 (Ok o) =
    rw (counts_from_pen (chords_with s) o g.1, filling_from_pen (filled_by s g.0 o) (chords_with s) o g.1) refl in
    let own : crosses maker g.0 ≡ crosses_by s g.0 (Ok o) = rw one.fitted refl in
    let rest = line_crosses maker gs one.rest one.others in
    let number = sum_by-cons (crosses maker) g.0 (map (λ (g : ℕ × ℕ). g.0) gs) in
    rw one.all (omega (arith, there, own, rest, number))

one_distinct : (f : ℕ → ℕ) (before : List ℕ) (g : ℕ) (b : Bool) → sum_by f (if b then before else before ++ g ∷ []) ≤ sum_by f before + f g
one_distinct f before g true = omega arith
one_distinct f before g false = let more = sum_by_push f before g in omega (arith, more)

few_distinct : (f : ℕ → ℕ) (before gs : List ℕ) → sum_by f (distinct_after before gs) ≤ sum_by f before + sum_by f gs
few_distinct f before [] = omega arith
few_distinct f before (g ∷ gs) =
    let rest = few_distinct f (with_glyph before g) gs in
    let one = one_distinct f before g (is_among g before) in
    let first = sum_by-cons f g gs in
    omega (arith, rest, one, first)

-- the distinct glyphs of a line have no more crossings than the line
pub few_fitted : (maker : ℕ → Fitter) (fs : List FittedGlyph) (line : List (ℕ × ℕ)) (shapes : List Shape)
    → AreFitted maker fs → fitted_numbers fs ≡ distinct (map (λ g. g.0) line) → each (glyph_shape maker) line ≡ Ok shapes
    → fitted_crossings fs ≤ crossings_in shapes
few_fitted maker fs line shapes fitted numbers made =
    let own : fitted_crossings fs ≡ sum_by (crosses maker) (distinct (map (λ g. g.0) line)) = rw numbers at (fitted_crosses maker fs fitted) in
    let all = line_crosses maker line shapes made in
    let few = few_distinct (crosses maker) [] (map (λ g. g.0) line) in
    omega (arith, own, all, few)
