-- The shapes of a line by its distinct glyphs: the line has a shape for each glyph where all distinct glyphs are made, and
-- the fault of the first distinct glyph that fails is the fault of the line.
use Rattle.std.proofs.Common.{◌≡◌, ◌∙◌, refl, sym, ℕ, Bool, true, false, ◌||◌, ◌==◌, List, [], ◌∷◌, ◌++◌, map, Result, Ok, Err, append_assoc, arith}
use Rattle.std.proofs.lemmas.Bool.Decides.{nat_tests}
use Rattle.std.proofs.lemmas.List.Elements.{All-head, All-tail}
use Rattle.tt_core.specs.Faults.{Fault}
use Rattle.tt_core.specs.Outcomes.{◌>>=◌, each}
use Rattle.tt_fit.specs.Fitting.{Fitter, fitted_outline}
use Rattle.tt_fit.specs.outline.Outline.{Outline}
use Rattle.tt_picture.specs.Distinct.{distinct, distinct_after, is_among, with_glyph}
use Rattle.tt_picture.specs.Glyphs.{AreDrawn, Glyph, IsDrawn, numbers_of}
use Rattle.tt_picture.specs.Lines.{HasGlyphsOf}
use Rattle.tt_picture.specs.Pixels.{Shape}
use Rattle.tt_picture.specs.Shapes.{glyph_shape}
use Rattle.tt_picture.specs.Steps.{outlines_by}
use Rattle.tt_picture.proofs.Among.{all_among}
use Rattle.tt_picture.proofs.Outlines.{HasOutline, first_or, shapes_by}
use Rattle.tt_picture.proofs.Turns.{BeginsWith, begins_with}

drawn_outline : (maker : ℕ → Fitter) (gs : List Glyph) (n : ℕ) → AreDrawn maker gs → is_among n (numbers_of gs) ≡ true
    → HasOutline maker n
drawn_outline maker [] n drawn among = absurd cc
drawn_outline maker (g ∷ gs) n drawn among =
    let P : Glyph → Type 0 = λ g. IsDrawn (maker g.number) g in
    let one = All-head P g gs drawn in
    first_or (g.number == n) maker g.number (numbers_of gs) n refl among (one.shape, one.outline)
    (drawn_outline maker gs n (All-tail P g gs drawn))

-- the shapes of a line whose glyphs are drawn
pub shapes_of_drawn : (maker : ℕ → Fitter) (gs : List Glyph) (line : List (ℕ × ℕ)) → AreDrawn maker gs
    → HasGlyphsOf (numbers_of gs) line → (shapes : List Shape) × (each (glyph_shape maker) line ≡ Ok shapes)
shapes_of_drawn maker gs line drawn among =
    shapes_by maker (numbers_of gs) line (λ n. drawn_outline maker gs n drawn) among

-- the glyphs of a line are among its distinct ones
pub has_distinct : (gs : List Glyph) (line : List (ℕ × ℕ)) → numbers_of gs ≡ distinct (map (λ g. g.0) line)
    → HasGlyphsOf (numbers_of gs) line
has_distinct gs line numbers = all_among line (numbers_of gs) numbers

-- the fault of a line

abbrev Steps : Type 0
Steps = ℕ → Result Outline Fault

not_both : {A : Type 0} (a : A) (e : Fault) → ◌≡◌ {A = Result A Fault} (Ok a) (Err e) → ⊥
not_both a e is = absurd cc

same_fault : {A : Type 0} (e f : Fault) → ◌≡◌ {A = Result A Fault} (Err e) (Err f) → e ≡ f
same_fault e f is = cc

-- one that is made, and then some that fail
then_fails : (make : Steps) (gs : List ℕ) (o : Outline) (g : ℕ) (f : Fault) → make g ≡ Ok o → each make gs ≡ Err f
    → each make (g ∷ gs) ≡ Err f
then_fails make gs o g f one all = rw (one, all) refl

-- where all of some are made, one of them is made, and so are the others
abbrev FirstMade : Steps → ℕ → List ℕ → List Outline → Type 0
FirstMade make g gs os = (o : Outline) × (make g ≡ Ok o) × (rest : List Outline) × (each make gs ≡ Ok rest) × (os ≡ o ∷ rest)

parts_by : (make : Steps) (g : ℕ) (gs : List ℕ) (os : List Outline) (r : Result Outline Fault) (rs : Result (List Outline) Fault)
    → make g ≡ r → each make gs ≡ rs → (r >>= λ y. rs >>= λ ys. Ok (y ∷ ys)) ≡ Ok os → FirstMade make g gs os
parts_by make g gs os (Ok o) (Ok rest) one all is =
    let told : ◌≡◌ {A = Result (List Outline) Fault} (Ok (o ∷ rest)) (Ok os) = is in
    let same : o ∷ rest ≡ os = cc in
    (o, one, rest, all, sym same)
parts_by make g gs os (Ok o) (Err f) one all is = absurd cc
parts_by make g gs os (Err e) rs one all is = absurd cc

parts_made : (make : Steps) (g : ℕ) (gs : List ℕ) (os : List Outline) → each make (g ∷ gs) ≡ Ok os → FirstMade make g gs os
parts_made make g gs os is = parts_by make g gs os (make g) (each make gs) refl refl is

-- all of some, and one more
pushed_by : (make : Steps) (bs : List ℕ) (os rest : List Outline) (b g : ℕ) (p o : Outline) → make b ≡ Ok p
    → each make (bs ++ g ∷ []) ≡ Ok (rest ++ o ∷ []) → os ≡ p ∷ rest → each make ((b ∷ bs) ++ g ∷ []) ≡ Ok (os ++ o ∷ [])
pushed_by make bs os rest b g p o first more is = rw (first, more, is) refl

pushed_made : (make : Steps) (before : List ℕ) (os : List Outline) (g : ℕ) (o : Outline) → each make before ≡ Ok os
    → make g ≡ Ok o → each make (before ++ g ∷ []) ≡ Ok (os ++ o ∷ [])
pushed_made make [] os g o all one =
    let told : ◌≡◌ {A = Result (List Outline) Fault} (Ok []) (Ok os) = all in
    let none : ◌≡◌ {A = List Outline} [] os = cc in
    rw (one, ← none) refl
pushed_made make (b ∷ bs) os g o all one =
    let (p, first, rest, others, is) = parts_made make b bs os all in
    pushed_by make bs os rest b g p o first (pushed_made make bs rest g o others one) is

-- all of some, and one that fails
pushed_fails : (make : Steps) (before rest : List ℕ) (os : List Outline) (g : ℕ) (e : Fault) → each make before ≡ Ok os
    → make g ≡ Err e → each make (before ++ g ∷ rest) ≡ Err e
pushed_fails make [] rest os g e all one = rw one refl
pushed_fails make (b ∷ bs) rest os g e all one =
    let (p, first, others, made, is) = parts_made make b bs os all in
    rw (first, pushed_fails make bs rest others g e made one) refl

-- one of those that are made
made_one_by : (here : Bool) (make : Steps) (b : ℕ) (bs : List ℕ) (g : ℕ) (o : Outline) → (b == g) ≡ here
    → (here || is_among g bs) ≡ true → make b ≡ Ok o → (is_among g bs ≡ true → (p : Outline) × (make g ≡ Ok p))
    → (p : Outline) × (make g ≡ Ok p)
made_one_by true make b bs g o same is one more = let first : b ≡ g = grind (arith, nat_tests) in (o, rw first at one)
made_one_by false make b bs g o other is one more = more is

made_one : (make : Steps) (before : List ℕ) (os : List Outline) (g : ℕ) → each make before ≡ Ok os → is_among g before ≡ true
    → (o : Outline) × (make g ≡ Ok o)
made_one make [] os g all among = absurd cc
made_one make (b ∷ bs) os g all among =
    let (o, first, rest, others, is) = parts_made make b bs os all in
    made_one_by (b == g) make b bs g o refl among first (made_one make bs rest g others)

-- the first of the distinct glyphs that fails is the first of all
abbrev FailsSo : Steps → List ℕ → Fault → Type 0
FailsSo make gs f = each make gs ≡ Err f

fails_with : (make : Steps) (before gs : List ℕ) (os : List Outline) (g : ℕ) (f : Fault) (r : Result Outline Fault)
    → is_among g before ≡ false → make g ≡ r → each make before ≡ Ok os
    → FailsSo make (distinct_after (before ++ g ∷ []) gs) f
    → ((os : List Outline) → each make (before ++ g ∷ []) ≡ Ok os → FailsSo make gs f) → FailsSo make (g ∷ gs) f
fails_with make before gs os g f (Ok o) absent one all fails more =
    then_fails make gs o g f one (more (os ++ o ∷ []) (pushed_made make before os g o all one))
fails_with make before gs os g f (Err e) absent one all fails more =
    let after : BeginsWith (before ++ g ∷ []) (distinct_after (before ++ g ∷ []) gs) = begins_with (before ++ g ∷ []) gs in
    let whole : distinct_after (before ++ g ∷ []) gs ≡ before ++ g ∷ after.0 = after.1 ∙ append_assoc before (g ∷ []) after.0 in
    let stuck : each make (distinct_after (before ++ g ∷ []) gs) ≡ Err e = rw whole (pushed_fails make before after.0 os g e all one) in
    let same : e ≡ f = same_fault e f (sym stuck ∙ fails) in
    rw (one, same) refl

fails_by : (there : Bool) (make : Steps) (before gs : List ℕ) (os : List Outline) (g : ℕ) (f : Fault)
    → is_among g before ≡ there → each make before ≡ Ok os → FailsSo make (distinct_after (with_glyph before g) gs) f
    → (FailsSo make (distinct_after before gs) f → FailsSo make gs f)
    → (FailsSo make (distinct_after (before ++ g ∷ []) gs) f → (os : List Outline) → each make (before ++ g ∷ []) ≡ Ok os → FailsSo make gs f)
    → FailsSo make (g ∷ gs) f
fails_by true make before gs os g f is all fails again more =
    let there = made_one make before os g all is in
    let rest : FailsSo make (distinct_after before gs) f = rw is at fails in
    then_fails make gs there.0 g f there.1 (again rest)
fails_by false make before gs os g f is all fails again more =
    let rest : FailsSo make (distinct_after (before ++ g ∷ []) gs) f = rw is at fails in
    fails_with make before gs os g f (make g) is refl all rest (more rest)

fails_after : (make : Steps) (before gs : List ℕ) (os : List Outline) (f : Fault) → each make before ≡ Ok os
    → FailsSo make (distinct_after before gs) f → FailsSo make gs f
fails_after make before [] os f all fails = absurd (not_both os f (sym all ∙ fails))
fails_after make before (g ∷ gs) os f all fails =
    fails_by (is_among g before) make before gs os g f refl all fails
    (λ rest. fails_after make before gs os f all rest)
    (λ rest os all. fails_after make (before ++ g ∷ []) gs os f all rest)

-- the glyphs of a line at their pens fail as their numbers do
line_by : (maker : ℕ → Fitter) (g : ℕ × ℕ) (gs : List (ℕ × ℕ)) (f : Fault) (r : Result Outline Fault)
    (rs : Result (List Outline) Fault) → fitted_outline (maker g.0) g.0 ≡ r
    → each (λ n. fitted_outline (maker n) n) (map (λ g. g.0) gs) ≡ rs → (r >>= λ y. rs >>= λ ys. Ok (y ∷ ys)) ≡ Err f
    → (each (λ n. fitted_outline (maker n) n) (map (λ g. g.0) gs) ≡ Err f → each (glyph_shape maker) gs ≡ Err f)
    → each (glyph_shape maker) (g ∷ gs) ≡ Err f
line_by maker g gs f (Ok o) (Ok os) one all is rest = absurd cc
line_by maker g gs f (Ok o) (Err e) one all is rest =
    let same : ◌≡◌ {A = Result (List Outline) Fault} (Err e) (Err f) = is in
    rw (one, rest (all ∙ same)) refl
line_by maker g gs f (Err e) rs one all is rest =
    let told : ◌≡◌ {A = Result (List Outline) Fault} (Err e) (Err f) = is in
    let same : e ≡ f = cc in
    rw (one, same) refl

numbers_fail : (maker : ℕ → Fitter) (line : List (ℕ × ℕ)) (f : Fault)
    → each (λ n. fitted_outline (maker n) n) (map (λ g. g.0) line) ≡ Err f → each (glyph_shape maker) line ≡ Err f
numbers_fail maker [] f fails = absurd cc
numbers_fail maker (g ∷ gs) f fails =
    line_by maker g gs f (fitted_outline (maker g.0) g.0) (each (λ n. fitted_outline (maker n) n) (map (λ g. g.0) gs)) refl refl fails
    (numbers_fail maker gs f)

-- the fault of a line's distinct glyphs is the fault of the line
pub fault_of_line : (maker : ℕ → Fitter) (numbers : List ℕ) (line : List (ℕ × ℕ)) (f : Fault)
    → numbers ≡ distinct (map (λ g. g.0) line) → outlines_by maker numbers ≡ Err f → each (glyph_shape maker) line ≡ Err f
fault_of_line maker numbers line f distinct_ones fails =
    let first : FailsSo (λ n. fitted_outline (maker n) n) (distinct_after [] (map (λ g. g.0) line)) f = rw distinct_ones at fails in
    numbers_fail maker line f (fails_after (λ n. fitted_outline (maker n) n) [] (map (λ g. g.0) line) [] f refl first)
