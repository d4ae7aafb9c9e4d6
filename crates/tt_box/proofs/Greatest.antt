-- A size with a picture is the greatest that fits.
use Rattle.std.proofs.Common.{◌≡◌, refl, ℕ, suc, zero, ◌+◌, Option, None, Some, Result, Ok, inl, inr, arith}
use Rattle.std.proofs.lemmas.Bool.{cases_Bool, cases_eq}
use Rattle.std.specs.Prelude.{◌⊎◌}
use Rattle.tt_box.specs.BoxLaws.{DoesNotFit, NoSizeIsLeft, SizesAreGreatest}
use Rattle.tt_box.specs.Boxes.{BoxPlace, Boxed, Stepped, boxed_from, boxed_or, is_too_high, left_after, size_tried, some_left, step_at}
use Rattle.tt_core.specs.Chains.{came-through}
use Rattle.tt_core.specs.Outcomes.{◌>>=◌}
use Rattle.tt_face.specs.Faces.{Face}
use Rattle.tt_picture.specs.Pictures.{Image}
use Rattle.tt_strike.specs.Job.{Job}
use Rattle.tt_strike.specs.Refusals.{Refused}

-- a size without a picture does not fit
not_fitted : (face : Face) (a : Job) (b : BoxPlace) (left : Option ℕ) (t : Stepped) → step_at face a b left ≡ Ok t → t.shown ≡ None → DoesNotFit face a b
unfolding step_at
not_fitted face a b left t is none = elim (cases_Bool (is_too_high face b a.ppem)) [
  | inl high ↦ inl high
  | inr low ↦ (
      let was = rw low at is in
      let work = came-through (some_left left) (λ w. size_tried face a b >>= λ s. Ok (record { shown = s.shown; left = left_after w s.cost })) t was in
      let tried = came-through (size_tried face a b) (λ s. Ok (record { shown = s.shown; left = left_after work.value s.cost })) t work.rest in
      let last = tried.rest in
      let whole : record { shown = tried.value.shown; left = left_after work.value tried.value.cost } ≡ t = cc in
      inr (tried.value, tried.first, rw (← whole) at none)
      )
]

greatest_found : (face : Face) (a : ℕ → Job) (b : BoxPlace) (least p : ℕ) (shown : Option Image) (others : Result (Option Boxed) Refused) (d : Boxed)
    → boxed_or p shown others ≡ Ok (Some d) → (d.ppem ≡ p) ⊎ ((shown ≡ None) × (others ≡ Ok (Some d)))
greatest_found face a b least p (Some i) others d is =
    let same : record { ppem = p; shown = i } ≡ d = cc in inl (rw (← same) refl)
greatest_found face a b least p None others d is = inr (refl, is)

pub greatest : SizesAreGreatest
greatest face a b least zero left d is ppem above below = absurd cc
greatest face a b least (suc n) left d is ppem above below =
    let first = came-through (step_at face (a (least + n)) b left) (λ t. boxed_or (least + n) t.shown (boxed_from face a b least n t.left)) (Some d) is in
    elim (greatest_found face a b least (least + n) first.value.shown (boxed_from face a b least n first.value.left) d first.rest) [
      | inl found ↦ absurd (omega (arith, found, above, below))
      | inr later ↦ elim (cases_eq ppem (least + n)) [
        | inl here ↦ rw here (not_fitted face (a (least + n)) b left first.value first.first later.0)
        | inr other ↦ greatest face a b least n first.value.left d later.1 ppem above (omega (arith, other, below))
      ]
    ]

none_found : (p : ℕ) (shown : Option Image) (others : Result (Option Boxed) Refused) → boxed_or p shown others ≡ Ok None → (shown ≡ None) × (others ≡ Ok None)
none_found p (Some i) others is = absurd cc
none_found p None others is = (refl, is)

pub none_fits : NoSizeIsLeft
none_fits face a b least zero left is ppem from below = absurd (omega (arith, from, below))
none_fits face a b least (suc n) left is ppem from below =
    let first = came-through (step_at face (a (least + n)) b left) (λ t. boxed_or (least + n) t.shown (boxed_from face a b least n t.left)) None is in
    let none = none_found (least + n) first.value.shown (boxed_from face a b least n first.value.left) first.rest in
    elim (cases_eq ppem (least + n)) [
      | inl here ↦ rw here (not_fitted face (a (least + n)) b left first.value first.first none.0)
      | inr other ↦ none_fits face a b least n first.value.left none.1 ppem from (omega (arith, other, below))
    ]
