-- The picture of a box shows rows that fit, and cuts no ink.
use Rattle.std.proofs.Common.{◌≡◌, refl, ℕ, suc, zero, ◌+◌, true, List, Option, None, Some, Result, Ok, inl, inr}
use Rattle.std.proofs.lemmas.Bool.{cases_Bool}
use Rattle.std.specs.Prelude.{◌⊎◌}
use Rattle.tt_box.specs.BoxLaws.{BoxesCutNone, ShowsRows}
use Rattle.tt_box.specs.Boxes.{BoxPlace, Boxed, Stepped, Tried, begun_cost, boxed_from, boxed_or, is_inside, is_too_high, laid_if_fits, left_after, shown_in_box, size_tried, some_left, step_at, tried_rows}
use Rattle.tt_core.specs.Chains.{came-through}
use Rattle.tt_core.specs.Outcomes.{◌>>=◌}
use Rattle.tt_face.specs.Faces.{Face}
use Rattle.tt_fit.specs.Fitting.{Fitter}
use Rattle.tt_label.specs.Begun.{begun_outcome}
use Rattle.tt_label.specs.Gathered.{gathered, units_glyphs, units_in}
use Rattle.tt_label.specs.Label.{joint, label_ink, some_line_shows}
use Rattle.tt_label_rows.specs.Heights.{row_heights}
use Rattle.tt_line.specs.Layout.{Placement}
use Rattle.tt_picture.specs.declared.ink_box.InkBox.{InkBox}
use Rattle.tt_picture.specs.Pictures.{Image, image}
use Rattle.tt_picture.specs.Shapes.{crossings_in}
use Rattle.tt_strike.specs.Costs.{cost_of}
use Rattle.tt_strike.specs.Job.{Job}
use Rattle.tt_strike.specs.Measures.{line_ink}
use Rattle.tt_strike.specs.Picture.{frame_of, line_shapes}
use Rattle.tt_strike.specs.Refusals.{Refused}
use Rattle.tt_strike.specs.Work.{line_fitter, work_left}

-- rows are shown where their ink lies in the box
shown_inside : (b : BoxPlace) (margin : ℕ) (maker : ℕ → Fitter) (ink : Option InkBox) (lines : List Placement) (i : Image)
    → shown_in_box b margin maker ink lines ≡ Some i
    → (is_inside b.width b.height ink ≡ true) × (i ≡ image (frame_of (joint lines) margin) (some_line_shows maker margin lines))
shown_inside b margin maker ink lines i is = elim (cases_Bool (is_inside b.width b.height ink)) [
  | inl inside ↦ (let there = rw inside at is in (inside, cc))
  | inr outside ↦ (let there = rw outside at is in absurd cc)
]

rows_shown : (face : Face) (a : Job) (b : BoxPlace) (s : Fitter) (laid : Option (List Placement)) (t : Tried) (i : Image)
    → begun_outcome face a ≡ Ok s → laid_if_fits (row_heights face.metrics a.ppem) b (units_in face a s) ≡ laid
    → tried_rows face a b s laid ≡ Ok t → t.shown ≡ Some i → (lines : List Placement) × ShowsRows face a b i s lines
rows_shown face a b s None t i begun fits is shown =
    let same : record { shown = None; cost = begun_cost face a s } ≡ t = cc in
    let there = rw (← same) at shown in absurd cc
rows_shown face a b s (Some lines) t i begun fits is shown =
    let gs = units_glyphs face a in
    let ink = label_ink (line_ink s (gathered gs)) a.margin lines in
    let picture = shown_in_box b a.margin (line_fitter s gs) ink lines in
    let through = came-through (line_shapes s a (gathered gs)) (λ shapes. Ok (record { shown = picture; cost = cost_of (work_left s gs) (crossings_in shapes) })) t is in
    let last = through.rest in
    let same : record { shown = picture; cost = cost_of (work_left s gs) (crossings_in through.value) } ≡ t = cc in
    let there = rw (← same) at shown in
    let both = shown_inside b a.margin (line_fitter s gs) ink lines i there in
    (lines, record { begun = begun; fits = fits; inside = both.0; shown = both.1 })

size_shown : (face : Face) (a : Job) (b : BoxPlace) (t : Tried) (i : Image) → size_tried face a b ≡ Ok t → t.shown ≡ Some i
    → (s : Fitter) × ((lines : List Placement) × ShowsRows face a b i s lines)
unfolding size_tried
size_shown face a b t i is shown =
    let through = came-through (begun_outcome face a) (λ s. tried_rows face a b s (laid_if_fits (row_heights face.metrics a.ppem) b (units_in face a s))) t is in (
      through.value,
      rows_shown face a b through.value (laid_if_fits (row_heights face.metrics a.ppem) b (units_in face a through.value)) t i through.first refl through.rest shown,
    )

step_shown : (face : Face) (a : Job) (b : BoxPlace) (left : Option ℕ) (t : Stepped) (i : Image) → step_at face a b left ≡ Ok t → t.shown ≡ Some i
    → (s : Fitter) × ((lines : List Placement) × ShowsRows face a b i s lines)
unfolding step_at
step_shown face a b left t i is shown = elim (cases_Bool (is_too_high face b a.ppem)) [
  | inl high ↦ (
      let was = rw high at is in
      let same : record { shown = None; left = left } ≡ t = cc in
      let there = rw (← same) at shown in absurd cc
      )
  | inr low ↦ (
      let was = rw low at is in
      let work = came-through (some_left left) (λ w. size_tried face a b >>= λ s. Ok (record { shown = s.shown; left = left_after w s.cost })) t was in
      let tried = came-through (size_tried face a b) (λ s. Ok (record { shown = s.shown; left = left_after work.value s.cost })) t work.rest in
      let last = tried.rest in
      let same : record { shown = tried.value.shown; left = left_after work.value tried.value.cost } ≡ t = cc in
      let there = rw (← same) at shown in size_shown face a b tried.value i tried.first there
      )
]

-- the first size that fits, or a later one
first_or_later : (p : ℕ) (shown : Option Image) (others : Result (Option Boxed) Refused) (d : Boxed) → boxed_or p shown others ≡ Ok (Some d)
    → ((d.ppem ≡ p) × (shown ≡ Some d.shown)) ⊎ (others ≡ Ok (Some d))
first_or_later p (Some i) others d is = let same : record { ppem = p; shown = i } ≡ d = cc in inl (rw (← same) (refl, refl))
first_or_later p None others d is = inr is

pub none_cut : BoxesCutNone
none_cut face a b least zero left d is = absurd cc
none_cut face a b least (suc n) left d is =
    let first = came-through (step_at face (a (least + n)) b left) (λ t. boxed_or (least + n) t.shown (boxed_from face a b least n t.left)) (Some d) is in
    elim (first_or_later (least + n) first.value.shown (boxed_from face a b least n first.value.left) d first.rest) [
      | inl found ↦ rw found.0 (step_shown face (a (least + n)) b left first.value d.shown first.first found.1)
      | inr later ↦ none_cut face a b least n first.value.left d later
    ]
