-- Each unit of a text has an offset: the pens and the characters of the text are as many as its offsets.
use Rattle.std.proofs.Common.{◌≡◌, ◌∙◌, ℕ, ◌+◌, ◌-◌, ◌||◌, ◌==◌, not, true, false, Bool, ℤ, List, [], ◌∷◌, length, Option, Some, None, Ok, Err, ap, sym, if◌then◌else◌, refl, arith}
use Rattle.std.specs.Prelude.{suc, ◌&&◌}
use Rattle.std.specs.Char.{len_utf8}
use Rattle.std.specs.Str.{chars, is_utf8}
use Rattle.std.proofs.lemmas.Bool.Decides.{nat_tests}
use Rattle.std.proofs.lemmas.List.{length-map}
use Rattle.tt_cmap.specs.declared.units.TextUnit.{TextUnit}
use Rattle.tt_cmap.specs.Maps.{CharacterMap, glyph_of_unit, has_pairs, map_by, strict, units_by, wide}
use Rattle.tt_cmap.specs.Lookup.{cmap_of}
use Rattle.tt_cmap.specs.Units.{is_selector, unit_before, units}
use Rattle.tt_cmap.specs.WideLookup.{wide_cmap_of}
use Rattle.tt_core.specs.Chains.{came-through}
use Rattle.tt_core.specs.declared.collection.Reading.{Reading}
use Rattle.tt_core.specs.declared.collection.Reading.TheVariants as reading
use Rattle.tt_core.specs.Collections.{directory_by}
use Rattle.tt_core.specs.Directory.{Directory, needed_table}
use Rattle.tt_face.specs.declared.rules.Opening.{Opening}
use Rattle.tt_face.specs.Faces.{Face, cmap_tag}
use Rattle.tt_face.specs.Files.{face_at, face_by}
use Rattle.tt_face.specs.Instance.{Asked, face_at_instance}
use Rattle.tt_fit.specs.declared.programs.Fit.{Fit}
use Rattle.tt_fit.specs.declared.programs.Fit.TheVariants as fit
use Rattle.tt_line.specs.Layout.{text_glyphs}
use Rattle.tt_advances.specs.Found.{advances_tested}
use Rattle.tt_advances.specs.Lines.{advance_line, advance_step}
use Rattle.tt_line.specs.Steps.{stepped}
use Rattle.tt_line.proofs.Stepped.{length-stepped}
use Rattle.tt_strike.specs.declared.layouts.Pen.{Pen}
use Rattle.tt_metrics.specs.Metrics.{Metrics, glyphs_of, metrics_of}
use Rattle.tt_render_texts.specs.Readings.{fit_reading, reading_asked}
use Rattle.tt_strike.specs.Job.{Job, job_for, tested}
use Rattle.tt_strike.specs.Layouts.{found_steps, made_steps, pens_at, pens_outcome, size_by, steps_outcome}
use Rattle.tt_strike.specs.Picture.{advance_with, made_line, outlines_tested, setting_in}
use Rattle.tt_strike.specs.Refusals.{as_font, as_job}
use Rattle.tt_strike.specs.Work.{lays_after_glyphs}
use Rattle.tt_picture.specs.Steps.{step_by}
use Rattle.tt_c_calls.specs.declared.asked.CJob.{CJob}
use Rattle.tt_c_calls.specs.Asked.{asked, fit_asked, job_fit, job_instance, job_opening, job_reading, reads_widely, text_asked}
use Rattle.tt_c_calls.specs.Offsets.{offsets_asked, offsets_from}
use Rattle.tt_c_calls.specs.Fonts.{job_opened}
use Rattle.tt_c_calls.specs.Refusals.{not_utf8, unknown_fit}
use Rattle.tt_c_calls.proofs.AskedTables.{fit_of_job, job_face_opened}
use Rattle.tt_c_calls.proofs.OpenedAt.{opened_at}

-- a text has as many offsets as units

one_of_each : (b : Bool) (u : TextUnit) (at : ℕ) (us : List TextUnit) (ats : List ℕ) → length ats ≡ length us
    → length (if not b then at ∷ ats else ats) ≡ length (if b then us else u ∷ us)
one_of_each true u at us ats same = same
one_of_each false u at us ats same = ap (λ (n : ℕ). suc n) same

pub offsets_counted : (pairs : Bool) (cs : List ℕ) (at : ℕ) → length (offsets_from pairs cs at) ≡ length (units pairs cs)
offsets_counted pairs [] at = refl
offsets_counted pairs (c ∷ cs) at =
    one_of_each (pairs && is_selector c) (unit_before pairs c cs) at (units pairs cs) (offsets_from pairs cs (at + len_utf8 c))
    (offsets_counted pairs cs (at + len_utf8 c))

-- a face reads texts as its reading does

abbrev is_wide : Reading → Bool
is_wide reading.Strict = false
is_wide (reading.Wide n) = true

map_reads : (r : Reading) (table : List ℕ) (glyphs : ℕ) (m : CharacterMap) → map_by r table glyphs ≡ Ok m → has_pairs m ≡ is_wide r
map_reads reading.Strict table glyphs m is =
    let was = came-through (cmap_of table glyphs) _ m is in let same : m ≡ strict was.value = cc in rw same refl
map_reads (reading.Wide n) table glyphs m is =
    let was = came-through (wide_cmap_of table glyphs) _ m is in let same : m ≡ wide was.value = cc in rw same refl

face_reads_at : (d : Directory) (r : Reading) (face : Face) → face_at d r ≡ Ok face → has_pairs face.cmap ≡ is_wide r
unfolding face_at
face_reads_at d r face is =
    let by_metrics = came-through (metrics_of d) _ face is in
    let by_table = came-through (needed_table d cmap_tag) _ face by_metrics.rest in
    let by_map = came-through (map_by r by_table.value (glyphs_of by_metrics.value)) _ face by_table.rest in
    let made : Face = record { directory = d; metrics = by_metrics.value; cmap = by_map.value; instance = None } in
    let same : made ≡ face = cc in
    rw (← same) (map_reads r by_table.value (glyphs_of by_metrics.value) by_map.value by_map.first)

face_reads : (file : List ℕ) (r : Reading) (face : Face) → face_by file r ≡ Ok face → has_pairs face.cmap ≡ is_wide r
unfolding face_by
face_reads file r face is =
    let was = came-through (directory_by file r) (λ d. face_at d r) face is in face_reads_at was.value r face was.rest

opened_reads : (file : List ℕ) (o : Opening) (i : Option Asked) (face : Face) → face_at_instance file o i ≡ Ok face
    → has_pairs face.cmap ≡ is_wide o.reading
opened_reads file o i face is =
    let as_it_was = opened_at file o i face is in
    rw as_it_was.cmap (face_reads file o.reading as_it_was.face as_it_was.read)

-- the parts of a job that is asked for

pub record AskedParts (j : CJob) (bytes : List ℕ) (a : Job) : Type 0 where
  pub fit : job_fit j ≡ Ok a.fit
  pub text : a.text ≡ bytes

text_kept : (b : Bool) (text t : List ℕ) → (if b then Ok text else Err not_utf8) ≡ Ok t → t ≡ text
text_kept true text t is = cc
text_kept false text t is = absurd cc

pub text_same : (text t : List ℕ) → text_asked text ≡ Ok t → t ≡ text
unfolding text_asked
text_same text t is = text_kept (is_utf8 text) text t is

pub asked_parts : (j : CJob) (text : List ℕ) (a : Job) → asked j text ≡ Ok a → AskedParts j text a
unfolding asked
asked_parts j text a is =
    let by_fit = came-through (job_fit j) _ a is in
    let by_text = came-through (text_asked text) _ a by_fit.rest in
    let same : a ≡ job_for j.size by_fit.value by_text.value j.margin = cc in
    rw same (record { fit = by_fit.first; text = text_same text by_text.value by_text.first })

wide_by : (a b c d : Bool) (how : Fit)
    → (if a then Ok fit.Full else if b then Ok fit.None else if c then Ok fit.Fallback
    else if d then Ok fit.Best else Err unknown_fit) ≡ Ok how
    → (a ≡ true → d ≡ false) → (b ≡ true → d ≡ false) → (c ≡ true → d ≡ false) → is_wide (fit_reading how) ≡ d
wide_by true b c d how is first second third = let same : how ≡ fit.Full = cc in rw (same, first refl) refl
wide_by false true c d how is first second third = let same : how ≡ fit.None = cc in rw (same, second refl) refl
wide_by false false true d how is first second third = let same : how ≡ fit.Fallback = cc in rw (same, third refl) refl
wide_by false false false true how is first second third = let same : how ≡ fit.Best = cc in rw same refl
wide_by false false false false how is first second third = absurd cc

fit_reads : (n : ℕ) (how : Fit) → fit_asked n ≡ Ok how → is_wide (fit_reading how) ≡ (n == 3)
unfolding fit_asked
fit_reads n how is =
    wide_by (n == 0) (n == 1) (n == 2) (n == 3) how is (λ h. grind (arith, nat_tests, h)) (λ h. grind (arith, nat_tests, h))
    (λ h. grind (arith, nat_tests, h))

reads_by : (none : Bool) (n : ℕ) (r : Reading) → is_wide (reading_asked (if none then None else Some n) r) ≡ (not none || is_wide r)
reads_by true n r = refl
reads_by false n r = refl

pub job_reads : (j : CJob) (how : Fit) → job_fit j ≡ Ok how → is_wide (job_reading j how) ≡ reads_widely j
job_reads j how is =
    reads_by (j.face == 0) (j.face - 1) (fit_reading how)
    ∙ ap (λ (b : Bool). not (j.face == 0) || b) (fit_reads j.fit how (fit_of_job j how is))

-- the units of a job's text by its face are as many as its offsets
pub units_counted : (j : CJob) (text font : List ℕ) (a : Job) (face : Face) → asked j text ≡ Ok a
    → job_opened j a.fit font ≡ Ok face
    → length (units_by face.cmap (chars a.text)) ≡ length (offsets_asked j text)
units_counted j text font a face is read =
    let parts = asked_parts j text a is in
    let reads : has_pairs face.cmap ≡ reads_widely j =
    opened_reads font (job_opening j a.fit) (job_instance j) face (job_face_opened j a.fit font face read) ∙ job_reads j a.fit parts.fit in
    rw (parts.text, reads) (sym (offsets_counted (reads_widely j) (chars text) 0))

-- the steps of a text are as many as its units

stepped_counted : (m : Metrics) (step : ℕ → ℤ → ℕ) (cmap : CharacterMap) (text : List ℕ)
    → length (stepped m step (text_glyphs cmap text)) ≡ length (units_by cmap (chars text))
stepped_counted m step cmap text =
    length-stepped m step (text_glyphs cmap text) ∙ length-map (units_by cmap (chars text)) (glyph_of_unit cmap)

steps_by : (after : Bool) (face : Face) (a : Job) (steps : List (ℕ × ℕ))
    → (if after then made_steps face a else found_steps face a) ≡ Ok steps
    → length steps ≡ length (units_by face.cmap (chars a.text))
steps_by true face a steps is =
    let gs = text_glyphs face.cmap a.text in
    let by_setting = came-through (as_font (setting_in face a)) _ steps is in
    let s = by_setting.value in
    let by_outlines = came-through (outlines_tested s a.fit gs) _ steps by_setting.rest in
    let same : made_line face.metrics a.ppem s gs ≡ steps = cc in
    rw (← same) (stepped_counted face.metrics (step_by face.metrics a.ppem (advance_with s gs)) face.cmap a.text)
steps_by false face a steps is =
    let gs = text_glyphs face.cmap a.text in
    let found = came-through (as_font (advances_tested face gs)) _ steps is in
    let same : advance_line face a.ppem gs ≡ steps = let rest = found.rest in cc in
    rw (← same) (stepped_counted face.metrics (advance_step face a.ppem) face.cmap a.text)

steps_counted : (face : Face) (a : Job) (steps : List (ℕ × ℕ)) → steps_outcome face a ≡ Ok steps
    → length steps ≡ length (units_by face.cmap (chars a.text))
unfolding steps_outcome
steps_counted face a steps is = steps_by (lays_after_glyphs a.fit) face a steps is

-- so are the pens

pens_long : (us : List TextUnit) (gs : List (ℕ × ℕ)) (pen : ℕ) → length gs ≡ length us → length (pens_at us gs pen) ≡ length us
pens_long [] gs pen same = refl
pens_long (u ∷ us) [] pen same = absurd (omega (arith, same))
pens_long (u ∷ us) (g ∷ gs) pen same = ap (λ (n : ℕ). suc n) (pens_long us gs (pen + g.1) (omega (arith, same)))

pub pens_counted : (face : Face) (a : Job) (pens : List Pen) → pens_outcome face a ≡ Ok pens
    → length pens ≡ length (units_by face.cmap (chars a.text))
unfolding pens_outcome
pens_counted face a pens is =
    let us = units_by face.cmap (chars a.text) in
    let by_test = came-through (as_job (tested a)) _ pens is in
    let by_steps = came-through (steps_outcome face a) _ pens by_test.rest in
    let by_size = came-through (size_by face a by_steps.value) _ pens by_steps.rest in
    let same : pens_at us by_steps.value a.margin ≡ pens = cc in
    rw (← same) (pens_long us by_steps.value a.margin (steps_counted face a by_steps.value by_steps.first))
