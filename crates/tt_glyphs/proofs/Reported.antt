-- The entries, the bytes and the rows of drawn glyphs are those of the definition.
use Rattle.std.proofs.Common.{◌≡◌, ◌∙◌, refl, sym, ap, ℕ, nat_lt, Bool, true, false, ◌==◌, List, [], ◌∷◌, map, length, All, arith}
use Rattle.std.specs.Prelude.{flat_map}
use Rattle.std.specs.List.{sum_by}
use Rattle.std.proofs.lemmas.Bool.Decides.{nat_tests}
use Rattle.std.proofs.lemmas.List.Elements.{All-cons, All-head, All-tail, filter_passes}
use Rattle.tt_fit.specs.declared.programs.Fit.{Fit}
use Rattle.tt_fit.specs.Fitting.{Fitter}
use Rattle.tt_metrics.specs.Metrics.{glyphs_of}
use Rattle.tt_picture.specs.Distinct.{distinct, is_among}
use Rattle.tt_picture.specs.Glyphs.{ArePlaces}
use Rattle.tt_strike.specs.Work.{line_fitter}
use Rattle.tt_glyphs.specs.declared.drawing.DrawnGlyph.{DrawnGlyph}
use Rattle.tt_glyphs.specs.declared.told.GlyphEntry.{GlyphEntry}
use Rattle.tt_glyphs.specs.declared.told.Told.{Told}
use Rattle.tt_glyphs.specs.Drawn.{IsDrawn, drawn_rows}
use Rattle.tt_glyphs.specs.Entries.{all_rows, bytes_wanted, entries, entry_of, glyph_told, known, number_bytes, number_rows, number_told, told_bytes}
use Rattle.tt_glyphs.specs.Listed.{bytes_among, drawn_numbers, entry_by, known_of, told_among}
use Rattle.tt_glyphs.proofs.Entered.{past_unknown, wanted_is}
use Rattle.tt_glyphs.proofs.Numbers.{among_distinct, among_filter, before_agree, distinct_filter, first_of, later, rows_filter, sum_agree}

-- each of some glyphs has the report of a definition; so has each number among them
told_by : (same : Bool) (F : ℕ → Told) (d : DrawnGlyph) (ds : List DrawnGlyph) (g : ℕ) → (d.number == g) ≡ same → d.told ≡ F d.number
    → (is_among g (drawn_numbers ds) ≡ true → told_among ds g ≡ F g) → is_among g (d.number ∷ drawn_numbers ds) ≡ true
    → told_among (d ∷ ds) g ≡ F g
told_by true F d ds g is own rest among = let one : d.number ≡ g = grind (arith, nat_tests, is) in rw is (own ∙ ap F one)
told_by false F d ds g is own rest among = rw is (rest (rw is at among))

told_all : (F : ℕ → Told) (ds : List DrawnGlyph) (g : ℕ) → All (λ (d : DrawnGlyph). d.told ≡ F d.number) ds
    → is_among g (drawn_numbers ds) ≡ true → told_among ds g ≡ F g
told_all F [] g own among = absurd cc
told_all F (d ∷ ds) g own among =
    told_by (d.number == g) F d ds g refl (All-head (λ (z : DrawnGlyph). z.told ≡ F z.number) d ds own)
    (told_all F ds g (All-tail (λ (z : DrawnGlyph). z.told ≡ F z.number) d ds own)) among

-- the glyphs of a list, drawn by their fitters
pub record AreDrawnOf (how : Fit) (s : Fitter) (gs : List ℕ) (ds : List DrawnGlyph) : Type 0 where
  pub numbers : drawn_numbers ds ≡ distinct (known_of (glyphs_of s.metrics) gs)
  pub drawn : All (λ (d : DrawnGlyph). IsDrawn how (line_fitter s (known s gs) d.number) d) ds

abbrev reports : Fit → Fitter → List ℕ → ℕ → Told
reports how s gs g = glyph_told how (line_fitter s (known s gs) g) g

own_reports : (how : Fit) (s : Fitter) (gs : List ℕ) (ds : List DrawnGlyph) → AreDrawnOf how s gs ds
    → All (λ (d : DrawnGlyph). d.told ≡ reports how s gs d.number) ds
own_reports how s gs ds are = λ k d below. (are.drawn k d below).told

told_either : (below : Bool) (how : Fit) (s : Fitter) (gs : List ℕ) (ds : List DrawnGlyph) (g : ℕ) → AreDrawnOf how s gs ds
    → is_among g gs ≡ true → nat_lt g (glyphs_of s.metrics) ≡ below → told_among ds g ≡ number_told how s gs g
told_either true how s gs ds g are among is =
    let p : ℕ → Bool = λ n. nat_lt n (glyphs_of s.metrics) in
    let here : is_among g (drawn_numbers ds) ≡ true =
    ap (is_among g) are.numbers ∙ among_distinct g (known_of (glyphs_of s.metrics) gs) ∙ among_filter p g gs is ∙ among in
    rw is (told_all (reports how s gs) ds g (own_reports how s gs ds are) here)
told_either false how s gs ds g are among is = rw is (past_unknown ds (glyphs_of s.metrics) gs g are.numbers is)

pub told_is : (how : Fit) (s : Fitter) (gs : List ℕ) (ds : List DrawnGlyph) (g : ℕ) → AreDrawnOf how s gs ds
    → is_among g gs ≡ true → told_among ds g ≡ number_told how s gs g
told_is how s gs ds g are among = told_either (nat_lt g (glyphs_of s.metrics)) how s gs ds g are among refl

bytes_is : (how : Fit) (s : Fitter) (gs : List ℕ) (ds : List DrawnGlyph) → AreDrawnOf how s gs ds → (g : ℕ)
    → is_among g (distinct gs) ≡ true → bytes_among ds g ≡ number_bytes how s gs g
bytes_is how s gs ds are g among = ap told_bytes (told_is how s gs ds g are (sym (among_distinct g gs) ∙ among))

entry_is : (how : Fit) (s : Fitter) (gs : List ℕ) (ds : List DrawnGlyph) → AreDrawnOf how s gs ds → (g : ℕ)
    → is_among g gs ≡ true → entry_by ds (distinct gs) g ≡ entry_of how s gs g
entry_is how s gs ds are g among =
    rw (told_is how s gs ds g are among, before_agree (bytes_among ds) (number_bytes how s gs) g (distinct gs) (bytes_is how s gs ds are))
    refl

map_agree : (F G : ℕ → GlyphEntry) (gs : List ℕ) → ((g : ℕ) → is_among g gs ≡ true → F g ≡ G g) → map F gs ≡ map G gs
map_agree F G [] agree = refl
map_agree F G (g ∷ gs) agree =
    rw (first_of {P = λ n. F n ≡ G n} g gs agree, map_agree F G gs (later {P = λ n. F n ≡ G n} g gs agree)) refl

-- the entries are those of the definition
pub entries_are : (how : Fit) (s : Fitter) (gs : List ℕ) (ds : List DrawnGlyph) → AreDrawnOf how s gs ds
    → map (entry_by ds (distinct gs)) gs ≡ entries how s gs
entries_are how s gs ds are = map_agree (entry_by ds (distinct gs)) (entry_of how s gs) gs (entry_is how s gs ds are)

-- the bytes of all rows too
pub bytes_are : (how : Fit) (s : Fitter) (gs places : List ℕ) (ds : List DrawnGlyph) → AreDrawnOf how s gs ds
    → ArePlaces places (drawn_numbers ds) → length places ≡ glyphs_of s.metrics
    → sum_by (λ (d : DrawnGlyph). told_bytes d.told) ds ≡ bytes_wanted how s gs
bytes_are how s gs places ds are seated room =
    sym (wanted_is places ds gs seated (rw room are.numbers))
    ∙ sum_agree (bytes_among ds) (number_bytes how s gs) (distinct gs) (bytes_is how s gs ds are)

-- the rows of the glyphs are those of their numbers
numbers_pass : (P : ℕ → Type 0) (ds : List DrawnGlyph) → All P (drawn_numbers ds) → All (λ (d : DrawnGlyph). P d.number) ds
numbers_pass P [] all = λ k d below. absurd (omega (arith, below))
numbers_pass P (d ∷ ds) all =
    All-cons (λ (z : DrawnGlyph). P z.number) d ds (All-head P d.number (drawn_numbers ds) all)
    (numbers_pass P ds (All-tail P d.number (drawn_numbers ds) all))

pub below_count : (how : Fit) (s : Fitter) (gs : List ℕ) (ds : List DrawnGlyph) → AreDrawnOf how s gs ds
    → All (λ (d : DrawnGlyph). nat_lt d.number (glyphs_of s.metrics) ≡ true) ds
below_count how s gs ds are =
    let p : ℕ → Bool = λ n. nat_lt n (glyphs_of s.metrics) in
    let all : All (λ n. p n ≡ true) (drawn_numbers ds) = rw (are.numbers ∙ distinct_filter p gs) (filter_passes p (distinct gs)) in
    numbers_pass (λ n. p n ≡ true) ds all

row_is : (how : Fit) (s : Fitter) (gs : List ℕ) (d : DrawnGlyph) → IsDrawn how (line_fitter s (known s gs) d.number) d
    → nat_lt d.number (glyphs_of s.metrics) ≡ true → drawn_rows d ≡ number_rows how s gs d.number
row_is how s gs d drawn below = drawn.rows ∙ rw (below, drawn.told) refl

rows_of_numbers : (R : ℕ → List ℕ) (ds : List DrawnGlyph) → All (λ (d : DrawnGlyph). drawn_rows d ≡ R d.number) ds
    → flat_map drawn_rows ds ≡ flat_map R (drawn_numbers ds)
rows_of_numbers R [] all = refl
rows_of_numbers R (d ∷ ds) all =
    rw (All-head (λ (z : DrawnGlyph). drawn_rows z ≡ R z.number) d ds all, rows_of_numbers R ds (All-tail (λ (z : DrawnGlyph). drawn_rows z ≡ R z.number) d ds all))
    refl

past_rows : (how : Fit) (s : Fitter) (gs : List ℕ) (g : ℕ) → nat_lt g (glyphs_of s.metrics) ≡ false → number_rows how s gs g ≡ []
past_rows how s gs g past = rw past refl

pub rows_are : (how : Fit) (s : Fitter) (gs : List ℕ) (ds : List DrawnGlyph) → AreDrawnOf how s gs ds
    → flat_map drawn_rows ds ≡ all_rows how s gs
rows_are how s gs ds are =
    let p : ℕ → Bool = λ n. nat_lt n (glyphs_of s.metrics) in
    let R = number_rows how s gs in
    rows_of_numbers R ds (λ k d below. row_is how s gs _ (are.drawn k d below) (below_count how s gs ds are k d below))
    ∙ ap (flat_map R) (are.numbers ∙ distinct_filter p gs) ∙ rows_filter p R (past_rows how s gs) (distinct gs)
