-- The tests of a list one after the other, the facts that refuse a list, and the defects that its reports tell.
use Rattle.std.proofs.Common.{◌≡◌, ◌∙◌, refl, sym, ap, ℕ, zero, suc, ◌<◌, nat_lt, Bool, true, false, ◌||◌, ◌==◌, List, [], ◌∷◌, map, length, get_or, Option, Result, Ok, Err, All, ◌⊎◌, inl, inr, if◌then◌else◌, ℤ, subst, arith}
use Rattle.std.specs.Prelude.{IsOkAnd}
use Rattle.std.specs.List.{slice_index}
use Rattle.std.proofs.lemmas.Bool.Decides.{nat_tests}
use Rattle.std.proofs.lemmas.List.{get_or-map, length-map}
use Rattle.tt_core.specs.Chains.{came-through, was-err}
use Rattle.tt_core.specs.declared.fault.JobFault.{JobFault}
use Rattle.tt_core.specs.declared.fault.JobFault.TheVariants as fault
use Rattle.tt_core.specs.Directory.{HasNo}
use Rattle.tt_core.specs.Faults.{Fault}
use Rattle.tt_core.specs.Limits.{size_limit, text_limit}
use Rattle.tt_core.specs.Outcomes.{◌>>=◌}
use Rattle.tt_face.specs.Faces.{Face}
use Rattle.tt_fit.specs.declared.programs.Fit.{Fit}
use Rattle.tt_fit.specs.Fitting.{Fitter, fitted_outline, unfitted_fault}
use Rattle.tt_fit.proofs.Standing.{faults-stand, outlines-whole}
use Rattle.tt_fit.specs.outline.Outline.{Outline}
use Rattle.tt_metrics.specs.Metrics.{Metrics, glyphs_of}
use Rattle.tt_picture.specs.Distinct.{distinct, is_among}
use Rattle.tt_picture.specs.Ink.{glyph_ink}
use Rattle.tt_picture.specs.Steps.{glyph_advance, outlines_by}
use Rattle.tt_strike.specs.Defects.{IsGlyphDefect, IsMadeDefect, IsSettingDefect}
use Rattle.tt_strike.specs.Job.{size_tested}
use Rattle.tt_strike.specs.Makers.{job_at}
use Rattle.tt_strike.specs.Picture.{outlines_in, setting}
use Rattle.tt_strike.specs.Refusals.{Refused, as_font, as_job, job}
use Rattle.tt_strike.specs.Work.{chord_limit, chords_in, crossings_allowed, edges_limited, line_fitter, work_left, work_tested}
use Rattle.tt_strike.proofs.Placed.{of-font}
use Rattle.tt_strike.proofs.Stopped.{asked_much, too_much}
use Rattle.tt_glyphs.specs.Bitmaps.{is_large, place_of}
use Rattle.tt_glyphs.specs.declared.place.InkPlace.{InkPlace}
use Rattle.tt_glyphs.specs.declared.told.GlyphEntry.{GlyphEntry}
use Rattle.tt_glyphs.specs.declared.told.Told.TheVariants as told
use Rattle.tt_glyphs.specs.Defects.{AreSound, IsListDefect, IsListRefusal, IsSoundReport, TellGlyphDefects, TellsDefectsOf}
use Rattle.tt_glyphs.specs.Entries.{advance_by, entries, entry_of, glyph_told, known, made_within}
use Rattle.tt_glyphs.specs.Listed.{known_of}
use Rattle.tt_glyphs.specs.Requests.{GlyphJob, bitmaps_by, bitmaps_in, bitmaps_outcome, bitmaps_tested, count_tested, crossings_of_list, edges_of_list_tested, fitter_for_request, points_of_list_tested, request_begun, request_tested, sound_in, sound_outcome}
use Rattle.tt_glyphs.proofs.DrawnGlyphs.{told_is, told_refused}
use Rattle.tt_glyphs.proofs.Numbers.{among_distinct, among_filter}

-- the tests one after the other

apart : {A B C E : Type 0} (t : Result A E) (r : Result B E) (f : B → Result C E) → (t >>= λ u. r >>= f) ≡ ((t >>= λ u. r) >>= f)
apart (Ok u) r f = refl
apart (Err e) r f = refl

pub outcome_begun : (face : Face) (a : GlyphJob)
    → bitmaps_outcome face a ≡ (request_begun face a >>= λ s. bitmaps_tested a.fit a.glyphs s)
unfolding bitmaps_outcome bitmaps_in request_begun
outcome_begun face a = apart (as_job (request_tested a)) (fitter_for_request face a) (λ s. bitmaps_tested a.fit a.glyphs s)

pub sound_begun : (face : Face) (a : GlyphJob)
    → sound_outcome face a
    ≡ (request_begun face a >>= λ s. as_font (outlines_in s (known s a.glyphs)) >>= λ os. bitmaps_tested a.fit a.glyphs s)
unfolding sound_outcome sound_in request_begun
sound_begun face a =
    apart (as_job (request_tested a)) (fitter_for_request face a)
    (λ s. as_font (outlines_in s (known s a.glyphs)) >>= λ os. bitmaps_tested a.fit a.glyphs s)

-- the facts that refuse a list

of_test : {X : Type 0} (r : Result X JobFault) (j : JobFault) → as_job r ≡ Err (job j) → r ≡ Err j
of_test (Ok x) j was = absurd cc
of_test (Err i) j was = cc

no_job : {X : Type 0} (r : Result X Fault) (j : JobFault) → as_font r ≡ Err (job j) → ⊥
no_job (Ok x) j was = absurd cc
no_job (Err f) j was = absurd cc

is_made : {X : Type 0} (x : X) (j : JobFault) → ◌≡◌ {A = Result X Refused} (Ok x) (Err (job j)) → ⊥
is_made x j was = absurd cc

refused_if : (past : Bool) (this j : JobFault) → ◌≡◌ {A = Result (Unit {0}) JobFault} (if past then Err this else Ok tt) (Err j)
    → (j ≡ this) × (past ≡ true)
refused_if true this j was = (cc, refl)
refused_if false this j was = absurd cc

either_way : (a b : Bool) → (a || b) ≡ true → (a ≡ true) ⊎ (b ≡ true)
either_way true b is = inl refl
either_way false b is = inr is

size_refused : (face : Face) (a : GlyphJob) (j : JobFault) → size_tested a.ppem ≡ Err j → IsListRefusal face a j
unfolding size_tested
size_refused face a j was =
    let parts = refused_if (nat_lt a.ppem 1 || nat_lt size_limit a.ppem) fault.SizeRange j was in
    rw parts.0 (elim (either_way (nat_lt a.ppem 1) (nat_lt size_limit a.ppem) parts.1) [
      | inl low ↦ inl (grind (arith, nat_tests, low))
      | inr high ↦ inr (grind (arith, nat_tests, high))
    ])

count_refused : (face : Face) (a : GlyphJob) (j : JobFault) → count_tested a.glyphs ≡ Err j → IsListRefusal face a j
unfolding count_tested
count_refused face a j was =
    let parts = refused_if (nat_lt text_limit (length a.glyphs)) fault.TextLong j was in
    let many = parts.1 in
    let past : text_limit < length a.glyphs = grind (arith, nat_tests, many) in
    rw parts.0 past

request_refused : (face : Face) (a : GlyphJob) (j : JobFault) → request_tested a ≡ Err j → IsListRefusal face a j
request_refused face a j was = elim (was-err (size_tested a.ppem) _ j was) [
  | inl size ↦ size_refused face a j size
  | inr later ↦ count_refused face a j later.rest
]

points_refused : (face : Face) (a : GlyphJob) (s : Fitter) (j : JobFault) → setting face a.ppem a.fit ≡ Ok s
    → points_of_list_tested a.fit s (known s a.glyphs) ≡ Err j → IsListRefusal face a j
points_refused face a s j made was =
    let parts = asked_much a.fit s (known s a.glyphs) j was in
    rw parts.0 (parts.1, rw made (inl parts.2))

fitter_refused : (face : Face) (a : GlyphJob) (j : JobFault) → fitter_for_request face a ≡ Err (job j) → IsListRefusal face a j
unfolding fitter_for_request
fitter_refused face a j was = elim (was-err (as_font (setting face a.ppem a.fit)) _ (job j) was) [
  | inl first ↦ absurd (no_job (setting face a.ppem a.fit) j first)
  | inr later ↦
      let s = later.value in
      let made = of-font (setting face a.ppem a.fit) s later.first in
      elim (was-err (as_job (points_of_list_tested a.fit s (known s a.glyphs))) _ (job j) later.rest) [
        | inl points ↦ points_refused face a s j made (of_test (points_of_list_tested a.fit s (known s a.glyphs)) j points)
        | inr none ↦ absurd (is_made s j none.rest)
      ]
]

pub begun_refused : (face : Face) (a : GlyphJob) (j : JobFault) → request_begun face a ≡ Err (job j) → IsListRefusal face a j
unfolding request_begun
begun_refused face a j was = elim (was-err (as_job (request_tested a)) _ (job j) was) [
  | inl first ↦ request_refused face a j (of_test (request_tested a) j first)
  | inr later ↦ fitter_refused face a j later.rest
]

setting_of : (face : Face) (a : GlyphJob) (s : Fitter) → fitter_for_request face a ≡ Ok s → setting face a.ppem a.fit ≡ Ok s
unfolding fitter_for_request
setting_of face a s was =
    let by = came-through (as_font (setting face a.ppem a.fit)) _ s was in
    let other = by.value in
    let points = came-through (as_job (points_of_list_tested a.fit other (known other a.glyphs))) _ s by.rest in
    let made = of-font (setting face a.ppem a.fit) other by.first in
    let same : other ≡ s = let last = points.rest in cc in
    rw same at made

pub begun_setting : (face : Face) (a : GlyphJob) (s : Fitter) → request_begun face a ≡ Ok s → setting face a.ppem a.fit ≡ Ok s
unfolding request_begun
begun_setting face a s was =
    let by = came-through (as_job (request_tested a)) _ s was in setting_of face a s by.rest

edges_by : (face : Face) (a : GlyphJob) (s : Fitter) (j : JobFault) → setting face a.ppem a.fit ≡ Ok s
    → edges_of_list_tested a.fit s (known s a.glyphs) ≡ Err j → IsListRefusal face a j
unfolding edges_limited
edges_by face a s j made was =
    let gs = known s a.glyphs in
    let most = crossings_allowed (work_left s gs) in
    elim (was-err (work_tested a.fit chord_limit (chords_in s gs)) _ j was) [
      | inl first ↦
          let parts = too_much a.fit chord_limit (chords_in s gs) j first in
          rw parts.0 (parts.1, rw made (inr (inl parts.2)))
      | inr later ↦
          let parts = too_much a.fit most (crossings_of_list s gs) j later.rest in
          rw parts.0 (parts.1, rw made (inr (inr parts.2)))
    ]

pub edges_refused : (face : Face) (a : GlyphJob) (s : Fitter) (j : JobFault) → request_begun face a ≡ Ok s
    → bitmaps_tested a.fit a.glyphs s ≡ Err (job j) → IsListRefusal face a j
edges_refused face a s j begun was = elim (was-err (as_job (edges_of_list_tested a.fit s (known s a.glyphs))) _ (job j) was) [
  | inl first ↦
      edges_by face a s j (begun_setting face a s begun) (of_test (edges_of_list_tested a.fit s (known s a.glyphs)) j first)
  | inr none ↦ absurd (is_made (bitmaps_by a.fit a.glyphs s) j none.rest)
]

-- what the reports tell of defects

tells_made : (s : Fitter) (g advance : ℕ) (left : ℤ) (unfitted : Option Fault) (p : InkPlace) (o : Outline) (large : Bool)
    → fitted_outline s g ≡ Ok o → is_large p ≡ large → TellsDefectsOf s g (made_within advance left unfitted p)
tells_made s g advance left unfitted p o true made is = rw is (outlines-whole s g o made)
tells_made s g advance left unfitted p o false made is = rw is (outlines-whole s g o made)

tells_by : (how : Fit) (s : Fitter) (g : ℕ) (f : Result Outline Fault) → fitted_outline s g ≡ f → TellsDefectsOf s g (glyph_told how s g)
tells_by how s g (Ok o) is =
    let p = place_of (glyph_ink s g) in
    rw (told_is how s g o p is refl) (tells_made s g (advance_by how s g) (glyph_advance s g) (unfitted_fault s g) p o (is_large p) is refl)
tells_by how s g (Err f) is = rw (told_refused how s g f is) (faults-stand s g f is)

tells_if : (below : Bool) (how : Fit) (s : Fitter) (g : ℕ) → TellsDefectsOf s g (if below then glyph_told how s g else told.Unknown)
tells_if true how s g = tells_by how s g (fitted_outline s g) refl
tells_if false how s g = tt

-- a fact of each number of a list holds of its entries
of_entries : (P : GlyphEntry → Type 0) (f : ℕ → GlyphEntry) (gs : List ℕ) → ((i : ℕ) → i < length gs → P (f (get_or gs i 0)))
    → All P (map f gs)
of_entries P f gs all = λ k d below.
    let within : k < length gs = rw length-map at below in
    rw (get_or-map f gs k 0 d within) (all k within)

pub entries_tell : (how : Fit) (s : Fitter) (gs : List ℕ) → TellGlyphDefects s gs (entries how s gs)
entries_tell how s gs =
    of_entries (λ (e : GlyphEntry). TellsDefectsOf (line_fitter s (known s gs) e.glyph) e.glyph e.told) (entry_of how s gs) gs
    (λ i below. tells_if (nat_lt (get_or gs i 0) (glyphs_of s.metrics)) how (line_fitter s (known s gs) (get_or gs i 0)) (get_or gs i 0))

-- a list without refused glyphs

later_too : (a b : Bool) → b ≡ true → (a || b) ≡ true
later_too true b is = refl
later_too false b is = is

among_by : (here : Bool) (maker : ℕ → Fitter) (n g : ℕ) (ns : List ℕ) → (n == g) ≡ here → (here || is_among g ns) ≡ true
    → (o : Outline) × (fitted_outline (maker n) n ≡ Ok o) → (is_among g ns ≡ true → (o : Outline) × (fitted_outline (maker g) g ≡ Ok o))
    → (o : Outline) × (fitted_outline (maker g) g ≡ Ok o)
among_by true maker n g ns same is one more =
    let first : n ≡ g = grind (arith, nat_tests, same) in rw first at one
among_by false maker n g ns other is one more = more is

each_made : (maker : ℕ → Fitter) (ns : List ℕ) (os : List Outline) (g : ℕ) → outlines_by maker ns ≡ Ok os → is_among g ns ≡ true
    → (o : Outline) × (fitted_outline (maker g) g ≡ Ok o)
each_made maker [] os g made among = absurd cc
each_made maker (n ∷ ns) os g made among =
    let one = came-through (fitted_outline (maker n) n) _ os made in
    let rest = came-through (outlines_by maker ns) _ os one.rest in
    among_by (n == g) maker n g ns refl among (one.value, one.first) (each_made maker ns rest.value g rest.first)

listed : (gs : List ℕ) (i : ℕ) → i < length gs → is_among (get_or gs i 0) gs ≡ true
listed [] i below = absurd (omega (arith, below))
listed (g ∷ gs) zero below = let same : (g == g) ≡ true = grind (arith, nat_tests) in rw same refl
listed (g ∷ gs) (suc i) below = later_too (g == get_or gs i 0) (is_among (get_or gs i 0) gs) (listed gs i (omega (arith, below)))

made_known : (s : Fitter) (gs : List ℕ) (os : List Outline) (g : ℕ) → outlines_in s (known s gs) ≡ Ok os → is_among g gs ≡ true
    → nat_lt g (glyphs_of s.metrics) ≡ true → (o : Outline) × (fitted_outline (line_fitter s (known s gs) g) g ≡ Ok o)
made_known s gs os g made among below =
    let p : ℕ → Bool = λ n. nat_lt n (glyphs_of s.metrics) in
    each_made (line_fitter s (known s gs)) (distinct (known s gs)) os g made
    (among_distinct g (known s gs) ∙ among_filter p g gs below ∙ among)

sound_made : (count g advance : ℕ) (left : ℤ) (unfitted : Option Fault) (p : InkPlace) (large : Bool) → is_large p ≡ large
    → IsSoundReport count g (made_within advance left unfitted p)
sound_made count g advance left unfitted p true is = rw is tt
sound_made count g advance left unfitted p false is = rw is tt

sound_by : (below : Bool) (how : Fit) (s : Fitter) (g count : ℕ) → nat_lt g count ≡ below
    → (below ≡ true → (o : Outline) × (fitted_outline s g ≡ Ok o))
    → IsSoundReport count g (if below then glyph_told how s g else told.Unknown)
sound_by true how s g count is made =
    let o = made refl in
    let p = place_of (glyph_ink s g) in
    rw (told_is how s g o.0 p o.1 refl) (sound_made count g (advance_by how s g) (glyph_advance s g) (unfitted_fault s g) p (is_large p) refl)
sound_by false how s g count is made = grind (arith, nat_tests, is)

pub entries_sound : (how : Fit) (s : Fitter) (gs : List ℕ) (os : List Outline) → outlines_in s (known s gs) ≡ Ok os
    → AreSound (glyphs_of s.metrics) (entries how s gs)
entries_sound how s gs os made =
    of_entries (λ (e : GlyphEntry). IsSoundReport (glyphs_of s.metrics) e.glyph e.told) (entry_of how s gs) gs
    (λ i below. sound_by (nat_lt (get_or gs i 0) (glyphs_of s.metrics)) how (line_fitter s (known s gs) (get_or gs i 0)) (get_or gs i 0)
    (glyphs_of s.metrics) refl (λ known. made_known s gs os (get_or gs i 0) made (listed gs i below) known))

-- the defects of a list's glyphs

record FirstFailed (maker : ℕ → Fitter) (ns : List ℕ) (f : Fault) : Type 0 where
  number : ℕ
  among : is_among number ns ≡ true
  failed : fitted_outline (maker number) number ≡ Err f

no_fault : {X : Type 0} (x : X) (f : Fault) → ◌≡◌ {A = Result X Fault} (Ok x) (Err f) → ⊥
no_fault x f was = absurd cc

first_failed : (maker : ℕ → Fitter) (ns : List ℕ) (f : Fault) → outlines_by maker ns ≡ Err f → FirstFailed maker ns f
first_failed maker [] f was = absurd cc
first_failed maker (n ∷ ns) f was = elim (was-err (fitted_outline (maker n) n) _ f was) [
  | inl first ↦
      let same : (n == n) ≡ true = grind (arith, nat_tests) in
      record { number = n; among = rw same refl; failed = first }
  | inr later ↦ elim (was-err (outlines_by maker ns) _ f later.rest) [
    | inl rest ↦
        let one = first_failed maker ns f rest in
        record { number = one.number; among = later_too (n == one.number) (is_among one.number ns) one.among; failed = one.failed }
    | inr none ↦ absurd (no_fault (later.value ∷ none.value) f none.rest)
  ]
]

record IsAt (gs : List ℕ) (n : ℕ) : Type 0 where
  place : ℕ
  below : place < length gs
  number : slice_index gs place ≡ n

at_by : (here : Bool) (g n : ℕ) (gs : List ℕ) → (g == n) ≡ here → (here || is_among n gs) ≡ true
    → (is_among n gs ≡ true → IsAt gs n) → IsAt (g ∷ gs) n
at_by true g n gs same is more =
    let first : g ≡ n = grind (arith, nat_tests, same) in record { place = 0; below = omega arith; number = first }
at_by false g n gs other is more =
    let rest = more is in
    let inside = rest.below in
    record { place = suc rest.place; below = omega (arith, inside); number = rest.number }

at_of : (gs : List ℕ) (n : ℕ) → is_among n gs ≡ true → IsAt gs n
at_of [] n is = absurd cc
at_of (g ∷ gs) n is = at_by (g == n) g n gs refl is (at_of gs n)

glyph_defect : (maker : ℕ → Fitter) (gs : List ℕ) (f : Fault) → outlines_by maker (distinct gs) ≡ Err f → IsGlyphDefect maker gs f
glyph_defect maker gs f was =
    let first = first_failed maker (distinct gs) f was in
    let at = at_of gs first.number (sym (among_distinct first.number gs) ∙ first.among) in
    (at.place, at.below, rw at.number (faults-stand (maker first.number) first.number f first.failed))

pub list_defect : (face : Face) (a : GlyphJob) (s : Fitter) (f : Fault) → setting face a.ppem a.fit ≡ Ok s → s.metrics ≡ face.metrics
    → outlines_in s (known s a.glyphs) ≡ Err f → IsListDefect face a f
list_defect face a s f made same was =
    let P : List ℕ → Type 0 = λ gs. IsMadeDefect face (job_at a.ppem a.fit) gs f in
    let here : P (known s a.glyphs) = inr (rw made (glyph_defect (line_fitter s (known s a.glyphs)) (known s a.glyphs) f was)) in
    subst P (ap (λ (m : Metrics). known_of (glyphs_of m) a.glyphs) same) here

no_glyph_defect : (maker : ℕ → Fitter) (gs : List ℕ) (os : List Outline) → outlines_by maker (distinct gs) ≡ Ok os
    → (f : Fault) → IsGlyphDefect maker gs f → ⊥
no_glyph_defect maker gs os made f (i, below, bad) =
    let n = slice_index gs i in
    let o = each_made maker (distinct gs) os n made (among_distinct n gs ∙ listed gs i below) in
    outlines-whole (maker n) n o.0 o.1 f bad

pub no_list_defect : (face : Face) (a : GlyphJob) (s : Fitter) (os : List Outline) → setting face a.ppem a.fit ≡ Ok s
    → s.metrics ≡ face.metrics → HasNo (IsSettingDefect face (job_at a.ppem a.fit)) → outlines_in s (known s a.glyphs) ≡ Ok os
    → HasNo (IsListDefect face a)
no_list_defect face a s os made same good all =
    let P : List ℕ → Type 0 = λ gs. HasNo (IsMadeDefect face (job_at a.ppem a.fit) gs) in
    let gs = known s a.glyphs in
    let here : P gs = λ fault defect. elim defect [
      | inl of_setting ↦ good fault of_setting
      | inr glyph ↦
          let Q : Result Fitter Fault → Type 0 = λ r. IsOkAnd r (λ s. IsGlyphDefect (line_fitter s gs) gs fault) in
          no_glyph_defect (line_fitter s gs) gs os all fault (subst Q made glyph)
    ] in
    subst P (ap (λ (m : Metrics). known_of (glyphs_of m) a.glyphs) same) here
