-- A line with added columns and rows is refused as the line is: its glyphs are the same, and count the same.
use Rattle.std.proofs.Common.{◌≡◌, ◌∙◌, refl, sym, ℕ, ◌+◌, Bool, true, false, ◌||◌, nat_lt, if◌then◌else◌, List, [], ◌∷◌, map, Option, Some, None, Result, Ok, Err, inl, inr, ◌⊎◌}
use Rattle.std.specs.Prelude.{⊤}
use Rattle.tt_core.specs.Faults.{Fault}
use Rattle.tt_core.specs.Limits.{height_limit, width_limit}
use Rattle.tt_core.specs.Outcomes.{◌>>=◌, each}
use Rattle.tt_core.specs.declared.fault.JobFault.{JobFault}
use Rattle.tt_core.specs.declared.fault.JobFault.TheVariants as fault
use Rattle.tt_fit.specs.Fitting.{Fitter, fitted_outline}
use Rattle.tt_fit.specs.outline.Outline.{Outline}
use Rattle.tt_line.specs.Layout.{Placement}
use Rattle.tt_strike.specs.Grown.{grown, grown_line, grown_outcome, grown_placement, lacking, not_large, with_sides}
use Rattle.tt_strike.specs.Job.{Job}
use Rattle.tt_strike_laws.specs.Laws.{GrownRefusals, SidesRefuseNothing}
use Rattle.tt_strike.specs.Measures.{Measure, measured_line}
use Rattle.tt_picture.specs.Pictures.{picture}
use Rattle.tt_picture.specs.Shapes.{chords_with, crossings_in, filled_by, glyph_shape, shape_at}
use Rattle.tt_strike.specs.Picture.{drawn, frame_of, laid_out, line_shapes, points_tested, setting_in}
use Rattle.tt_picture.specs.Pixels.{Shape}
use Rattle.tt_strike.specs.Refusals.{Refused, as_font, as_job, job}
use Rattle.tt_face.specs.Faces.{Face}
use Rattle.tt_strike.specs.Work.{chords_in, edges_limited, line_fitter, work_left}
use Rattle.tt_strike.specs.declared.growing.Sides.{Sides}
use Rattle.tt_picture.specs.declared.ink_box.InkBox.{InkBox}
use Rattle.tt_strike_laws.proofs.Agreeing.{measured_so_drawn}
use Rattle.tt_picture.proofs.Standings.{counts_from_pen, filling_from_pen}
use Rattle.tt_strike.proofs.Stopped.{line_as_laid}

-- neither of two results is an error, or both are the same
abbrev AreRefusedAlike : {A B E : Type 0} → Result A E → Result B E → Type 0
AreRefusedAlike (Ok a) (Ok b) = ⊤
AreRefusedAlike (Ok a) (Err d) = ⊥
AreRefusedAlike (Err e) (Ok b) = ⊥
AreRefusedAlike (Err e) (Err d) = e ≡ d

refused_there : {A B E : Type 0} (x : Result A E) (y : Result B E) (e : E) → AreRefusedAlike x y → x ≡ Err e → y ≡ Err e
refused_there (Ok a) y e alike is = absurd cc
refused_there (Err d) (Ok b) e alike is = absurd alike
refused_there (Err d) (Err f) e alike is = let same : d ≡ f = alike in cc

refused_here : {A B E : Type 0} (x : Result A E) (y : Result B E) (e : E) → AreRefusedAlike x y → y ≡ Err e → x ≡ Err e
refused_here x (Ok b) e alike is = absurd cc
refused_here (Ok a) (Err f) e alike is = absurd alike
refused_here (Err d) (Err f) e alike is = let same : d ≡ f = alike in cc

-- two lists of shapes count the same, or neither is made
abbrev AreCountedAlike : Result (List Shape) Fault → Result (List Shape) Fault → Type 0
AreCountedAlike (Ok these) (Ok those) = crossings_in these ≡ crossings_in those
AreCountedAlike (Ok these) (Err f) = ⊥
AreCountedAlike (Err e) (Ok those) = ⊥
AreCountedAlike (Err e) (Err f) = e ≡ f

summed : (a b c d e f : ℕ) → a ≡ d → b ≡ e → c ≡ f → (a + b) + c ≡ (d + e) + f
summed a b c d e f first second third = rw (first, second, third) refl

one_more : (s : Fitter) (g : ℕ × ℕ) (left : ℕ) (o : Outline) (these those : List Shape)
    → crossings_in these ≡ crossings_in those
    → crossings_in (shape_at s g o ∷ these) ≡ crossings_in (shape_at s (g.0, g.1 + left) o ∷ those)
one_more s g left o these those same =
    let way = chords_with s in
    let filled = filled_by s g.0 o in
    summed _ _ _ _ _ _ (counts_from_pen way o g.1 ∙ sym (counts_from_pen way o (g.1 + left)))
    (filling_from_pen filled way o g.1 ∙ sym (filling_from_pen filled way o (g.1 + left))) same

with_first : (s : Fitter) (g : ℕ × ℕ) (left : ℕ) (made : Result Outline Fault) (these those : Result (List Shape) Fault)
    → AreCountedAlike these those
    → AreCountedAlike ((made >>= λ o. Ok (shape_at s g o)) >>= λ one. these >>= λ ones. Ok (one ∷ ones))
    ((made >>= λ o. Ok (shape_at s (g.0, g.1 + left) o)) >>= λ one. those >>= λ ones. Ok (one ∷ ones))
with_first s g left (Err f) these those alike = refl
with_first s g left (Ok o) (Ok these) (Ok those) alike = one_more s g left o these those alike
with_first s g left (Ok o) (Ok these) (Err f) alike = absurd alike
with_first s g left (Ok o) (Err e) (Ok those) alike = absurd alike
with_first s g left (Ok o) (Err e) (Err f) alike = alike

counted_alike : (maker : ℕ → Fitter) (left : ℕ) (gs : List (ℕ × ℕ)) → AreCountedAlike (each (glyph_shape maker) gs)
    (each (glyph_shape maker) (map (λ (g : ℕ × ℕ). (g.0, g.1 + left)) gs))
counted_alike maker left [] = refl
counted_alike maker left (g ∷ gs) =
    with_first (maker g.0) g left (fitted_outline (maker g.0) g.0) (each (glyph_shape maker) gs)
    (each (glyph_shape maker) (map (λ (g : ℕ × ℕ). (g.0, g.1 + left)) gs)) (counted_alike maker left gs)

numbers_stay : (left : ℕ) (gs : List (ℕ × ℕ))
    → map (λ (g : ℕ × ℕ). g.0) (map (λ (g : ℕ × ℕ). (g.0, g.1 + left)) gs) ≡ map (λ (g : ℕ × ℕ). g.0) gs
numbers_stay left [] = refl
numbers_stay left (g ∷ gs) = rw (numbers_stay left gs) refl

-- the shapes of a line, step by step
after_test : {A B : Type 0} (t : Result (Unit {0}) JobFault) (x : Result A Refused) (y : Result B Refused)
    → AreRefusedAlike x y → AreRefusedAlike (as_job t >>= λ u. x) (as_job t >>= λ u. y)
after_test (Ok u) x y alike = alike
after_test (Err j) x y alike = refl

after_shapes : (a : Job) (left : Option ℕ) (chords : ℕ) (these those : Result (List Shape) Fault)
    → AreCountedAlike these those
    → AreRefusedAlike
    (as_font these >>= λ glyphs. as_job (edges_limited a.fit left chords (crossings_in glyphs)) >>= λ u. Ok glyphs)
    (as_font those >>= λ glyphs. as_job (edges_limited a.fit left chords (crossings_in glyphs)) >>= λ u. Ok glyphs)
after_shapes a left chords (Ok these) (Ok those) alike =
    let same : crossings_in these ≡ crossings_in those = alike in
    rw same (after_test (edges_limited a.fit left chords (crossings_in those)) (Ok these) (Ok those) tt)
after_shapes a left chords (Ok these) (Err f) alike = absurd alike
after_shapes a left chords (Err e) (Ok those) alike = absurd alike
after_shapes a left chords (Err e) (Err f) alike = let same : e ≡ f = alike in rw same refl

line_alike : (s : Fitter) (a : Job) (line : Placement) (sides : Sides)
    → AreRefusedAlike (line_shapes s a line) (line_shapes s a (with_sides line sides))
line_alike s a line sides =
    let numbers = map (λ (g : ℕ × ℕ). g.0) line.glyphs in
    let maker = line_fitter s numbers in
    let larger = map (λ (g : ℕ × ℕ). (g.0, g.1 + sides.left)) line.glyphs in
    rw (numbers_stay sides.left line.glyphs) (after_test (points_tested s a line) _ _
    (after_shapes a (work_left s numbers) (chords_in s numbers) (each (glyph_shape maker) line.glyphs) (each (glyph_shape maker) larger)
    (counted_alike maker sides.left line.glyphs)))

shown_alike : {A B C D E : Type 0} (x : Result A E) (y : Result B E) (p : A → C) (q : B → D) → AreRefusedAlike x y
    → AreRefusedAlike (x >>= λ a. Ok (p a)) (y >>= λ b. Ok (q b))
shown_alike (Ok a) (Ok b) p q alike = tt
shown_alike (Ok a) (Err d) p q alike = absurd alike
shown_alike (Err e) (Ok b) p q alike = absurd alike
shown_alike (Err e) (Err d) p q alike = alike

after_setting : {A B E S : Type 0} (r : Result S E) (f : S → Result A E) (g : S → Result B E)
    → ((s : S) → AreRefusedAlike (f s) (g s)) → AreRefusedAlike (r >>= f) (r >>= g)
after_setting (Ok s) f g alike = alike s
after_setting (Err e) f g alike = refl

drawn_alike : (face : Face) (a : Job) (line : Placement) (sides : Sides)
    → AreRefusedAlike (drawn face a line) (drawn face a (with_sides line sides))
unfolding drawn
drawn_alike face a line sides =
    after_setting (as_font (setting_in face a)) _ _
    (λ s. shown_alike (line_shapes s a line) (line_shapes s a (with_sides line sides))
    (picture (frame_of line a.margin)) (picture (frame_of (with_sides line sides) a.margin))
    (line_alike s a line sides))

pub sides_refuse_nothing : SidesRefuseNothing
sides_refuse_nothing face a line sides r =
    let alike = drawn_alike face a line sides in (
      refused_here (drawn face a line) (drawn face a (with_sides line sides)) r alike,
      refused_there (drawn face a line) (drawn face a (with_sides line sides)) r alike,
    )

-- an enlarged line, by the test of its size
by_size : (face : Face) (a : Job) (line : Placement) (sides : Sides) (r : Refused) (large : Bool)
    → (as_job (if large then Err fault.PictureLarge else Ok (with_sides line sides)) >>= drawn face a) ≡ Err r
    → (drawn face a line ≡ Err r) ⊎ (r ≡ job fault.PictureLarge)
by_size face a line sides r true fails = let is : r ≡ job fault.PictureLarge = cc in inr is
by_size face a line sides r false fails = inl ((sides_refuse_nothing face a line sides r).0 fails)

by_ink : (face : Face) (a : Job) (line : Placement) (r : Refused) (ink : Option InkBox)
    → (as_job (grown line ink) >>= drawn face a) ≡ Err r → (drawn face a line ≡ Err r) ⊎ (r ≡ job fault.PictureLarge)
unfolding not_large
by_ink face a line r None fails = inl fails
by_ink face a line r (Some b) fails =
    let sides = lacking line.width line.height b in
    let larger = with_sides line sides in
    by_size face a line sides r (nat_lt width_limit larger.width || nat_lt height_limit larger.height) fails

by_measure : (face : Face) (a : Job) (line : Placement) (r : Refused) (measure : Result Measure Refused)
    → measured_line face a line ≡ measure → ((measure >>= λ m. as_job (grown line m.ink)) >>= drawn face a) ≡ Err r
    → (drawn face a line ≡ Err r) ⊎ (r ≡ job fault.PictureLarge)
by_measure face a line r (Ok m) is fails = by_ink face a line r m.ink fails
by_measure face a line r (Err e) is fails =
    let same : e ≡ r = cc in inl (measured_so_drawn face a r line (rw same at is))

by_line : (face : Face) (a : Job) (r : Refused) (laid : Result Placement Refused)
    → ((laid >>= grown_line face a) >>= drawn face a) ≡ Err r
    → ((laid >>= drawn face a) ≡ Err r) ⊎ (r ≡ job fault.PictureLarge)
unfolding grown_line
by_line face a r (Ok line) fails = by_measure face a line r (measured_line face a line) refl fails
by_line face a r (Err e) fails = inl fails

pub grown_refusals : GrownRefusals
unfolding grown_outcome grown_placement
grown_refusals face a r fails = rw (line_as_laid face a) (by_line face a r (laid_out face a) fails)
