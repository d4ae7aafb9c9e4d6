-- The sizes of a label in a box, one after the other.
use Rattle.std.proofs.Common.{◌≡◌, ◌∙◌, refl, sym, subst, ℕ, suc, ◌+◌, ◌-◌, ◌*◌, ◌^◌, ◌<◌, ◌≤◌, true, false, List, Option, None, Some, Ok, Err, inl, inr, arith}
use Rattle.std.proofs.lemmas.Bool.{cases_lt, le-ltb, lt-ltb}
use Rattle.std.specs.Prelude.{IfSome}
use Rattle.tt_box.specs.Boxes.{BoxPlace, Stepped, Tried, box_outcome, boxed_from, is_too_high, least_size, left_after, size_tried, step_at}
use Rattle.tt_core.specs.declared.draw_fault.DrawFault.{DrawFault}
use Rattle.tt_core.specs.declared.fault.JobFault.{JobFault}
use Rattle.tt_core.specs.declared.fault.JobFault.TheVariants as fault
use Rattle.tt_face.specs.Faces.{Face}
use Rattle.tt_fit.specs.declared.programs.Fit.{Fit}
use Rattle.tt_picture.specs.Pictures.{Image}
use Rattle.tt_strike.specs.Job.{Job, job_for, margin_tested, text_tested}
use Rattle.tt_strike.specs.Refusals.{Refused, job, refusal}
use Rattle.tt_strike.proofs.Stopped.{stops}

-- one size
pub step_high : (face : Face) (a : Job) (b : BoxPlace) (left : Option ℕ) → is_too_high face b a.ppem ≡ true
    → step_at face a b left ≡ Ok (record { shown = None; left = left })
unfolding step_at
step_high face a b left high = rw high refl

pub step_large : (face : Face) (a : Job) (b : BoxPlace) → is_too_high face b a.ppem ≡ false → step_at face a b None ≡ Err (job fault.WorkLarge)
unfolding step_at
step_large face a b low = rw low refl

pub step_stops : (face : Face) (a : Job) (b : BoxPlace) (work : ℕ) (e : DrawFault) → is_too_high face b a.ppem ≡ false
    → IfSome (refusal e) (λ r. size_tried face a b ≡ Err r) → IfSome (refusal e) (λ r. step_at face a b (Some work) ≡ Err r)
unfolding step_at
step_stops face a b work e low = stops e (size_tried face a b) (step_at face a b (Some work)) (λ r fails. rw (low, fails) refl)

pub step_tried : (face : Face) (a : Job) (b : BoxPlace) (work : ℕ) (t : Tried) → is_too_high face b a.ppem ≡ false → size_tried face a b ≡ Ok t
    → step_at face a b (Some work) ≡ Ok (record { shown = t.shown; left = left_after work t.cost })
unfolding step_at
step_tried face a b work t low tried = rw (low, tried) refl

-- the sizes from the next on
pub next_found : (face : Face) (a : ℕ → Job) (b : BoxPlace) (least n m p : ℕ) (left : Option ℕ) (t : Stepped) (i : Image) → n ≡ suc m → p ≡ least + m
    → step_at face (a p) b left ≡ Ok t → t.shown ≡ Some i → boxed_from face a b least n left ≡ Ok (Some (record { ppem = p; shown = i }))
next_found face a b least n m p left t i next at is some =
    let here = rw at at is in rw (next, here, some, at) refl

pub next_left : (face : Face) (a : ℕ → Job) (b : BoxPlace) (least n m p : ℕ) (left : Option ℕ) (t : Stepped) → n ≡ suc m → p ≡ least + m
    → step_at face (a p) b left ≡ Ok t → t.shown ≡ None → boxed_from face a b least n left ≡ boxed_from face a b least m t.left
next_left face a b least n m p left t next at is none =
    let here = rw at at is in rw (next, here, none) refl

pub next_stops : (face : Face) (a : ℕ → Job) (b : BoxPlace) (least n m p : ℕ) (left : Option ℕ) (r : Refused) → n ≡ suc m → p ≡ least + m
    → step_at face (a p) b left ≡ Err r → boxed_from face a b least n left ≡ Err r
next_stops face a b least n m p left r next at is =
    let here = rw at at is in rw (next, here) refl

-- no size is left
pub none_left : (face : Face) (a : ℕ → Job) (b : BoxPlace) (least n : ℕ) (left : Option ℕ) → n ≡ 0 → boxed_from face a b least n left ≡ Ok None
none_left face a b least n left none = rw none refl

-- a text and a margin that are tested
pub box_margin : (face : Face) (how : Fit) (greatest : ℕ) (text : List ℕ) (b : BoxPlace) (j : JobFault) → margin_tested b.margin ≡ Err j
    → box_outcome face how greatest text b ≡ Err (job j)
unfolding box_outcome
box_margin face how greatest text b j fails = rw fails refl

pub box_text : (face : Face) (how : Fit) (greatest : ℕ) (text : List ℕ) (b : BoxPlace) (j : JobFault) → margin_tested b.margin ≡ Ok tt
    → text_tested text ≡ Err j → box_outcome face how greatest text b ≡ Err (job j)
unfolding box_outcome
box_text face how greatest text b j near fails = rw (near, fails) refl

box_tested : (face : Face) (how : Fit) (greatest : ℕ) (text : List ℕ) (b : BoxPlace) → margin_tested b.margin ≡ Ok tt → text_tested text ≡ Ok tt
    → box_outcome face how greatest text b
    ≡ boxed_from face (λ ppem. job_for ppem how text b.margin) b (least_size greatest) (suc (greatest - least_size greatest)) (Some 10000000)
unfolding box_outcome
box_tested face how greatest text b near short = rw (near, short) refl

pub least_is_low : (greatest : ℕ) → least_size greatest ≤ greatest
least_is_low greatest = elim (cases_lt greatest 5) [
  | inl below ↦ rw (lt-ltb greatest 5 below) (omega arith)
  | inr over ↦ rw (le-ltb greatest 5 over) over
]

-- sizes that are left, from a size on down, with the work that is left
pub record AreOn (face : Face) (a : ℕ → Job) (b : BoxPlace) (least greatest ppem : ℕ) (left : Option ℕ) : Type 0 where
  pub same : boxed_from face a b least (ppem - least) left ≡ boxed_from face a b least (suc (greatest - least)) (Some 10000000)
  pub low : least ≤ ppem
  pub high : ppem ≤ greatest + 1
  pub work : IfSome left (λ n. n + 4000000 * ppem ≤ 2 ^ 40)

pub first_on : (face : Face) (a : ℕ → Job) (b : BoxPlace) (least greatest : ℕ) → least ≤ greatest → greatest ≤ 300
    → AreOn face a b least greatest (greatest + 1) (Some 10000000)
first_on face a b least greatest low high =
    let all : (greatest + 1) - least ≡ suc (greatest - least) = omega (arith, low) in
    record {
      same = rw all refl;
      low = omega (arith, low);
      high = omega arith;
      work = omega (arith, high);
    }

-- the work that is left is bounded
weaker_some : (P Q : ℕ → Type 0) (o : Option ℕ) → ((n : ℕ) → P n → Q n) → IfSome o P → IfSome o Q
weaker_some P Q None more all = tt
weaker_some P Q (Some n) more all = more n all

pub work_bounded : (ppem : ℕ) (left : Option ℕ) → IfSome left (λ n. n + 4000000 * ppem ≤ 2 ^ 40) → IfSome left (λ n. n ≤ 2 ^ 40)
work_bounded ppem left = weaker_some (λ n. n + 4000000 * ppem ≤ 2 ^ 40) (λ n. n ≤ 2 ^ 40) left (λ n below. omega (arith, below))

pub work_within : (ppem : ℕ) (left : Option ℕ) → IfSome left (λ n. n + 4000000 * ppem ≤ 2 ^ 40) → IfSome left (λ n. n ≤ 2 ^ 40 - 4000000 * ppem)
work_within ppem left = weaker_some (λ n. n + 4000000 * ppem ≤ 2 ^ 40) (λ n. n ≤ 2 ^ 40 - 4000000 * ppem) left (λ n below. omega (arith, below))

pub work_after : (ppem next : ℕ) (left : Option ℕ) → next + 1 ≡ ppem → 4000000 * ppem ≤ 2 ^ 40 → IfSome left (λ n. n ≤ (2 ^ 40 - 4000000 * ppem) + 4000000)
    → IfSome left (λ n. n + 4000000 * next ≤ 2 ^ 40)
work_after ppem next left one few =
    weaker_some (λ n. n ≤ (2 ^ 40 - 4000000 * ppem) + 4000000) (λ n. n + 4000000 * next ≤ 2 ^ 40) left (λ n below. omega (arith, below, one, few))

pub next_on : (face : Face) (a : ℕ → Job) (b : BoxPlace) (least greatest ppem : ℕ) (left : Option ℕ) (t : Stepped) → greatest ≤ 300
    → AreOn face a b least greatest ppem left → least < ppem → step_at face (a (ppem - 1)) b left ≡ Ok t → t.shown ≡ None
    → ((most : ℕ) → IfSome left (λ n. n ≤ most) → IfSome t.left (λ n. n ≤ most + 4000000))
    → AreOn face a b least greatest (ppem - 1) t.left
next_on face a b least greatest ppem left t few are above is none bound =
    let high = are.high in
    let next = ppem - 1 in
    let one : next + 1 ≡ ppem = omega (arith, above) in
    let more : ppem - least ≡ suc (next - least) = omega (arith, above) in
    let at : next ≡ least + (next - least) = omega (arith, above) in
    record {
      same = sym (next_left face a b least (ppem - least) (next - least) next left t more at is none) ∙ are.same;
      low = omega (arith, above);
      high = omega (arith, high);
      work = work_after ppem next t.left one (omega (arith, high, few)) (bound (2 ^ 40 - 4000000 * ppem) (work_within ppem left are.work));
    }

-- the answer for the box is that of the sizes that are left
box_on : (face : Face) (how : Fit) (greatest : ℕ) (text : List ℕ) (b : BoxPlace) (least ppem : ℕ) (left : Option ℕ) → margin_tested b.margin ≡ Ok tt
    → text_tested text ≡ Ok tt → least ≡ least_size greatest → AreOn face (λ n. job_for n how text b.margin) b least greatest ppem left
    → box_outcome face how greatest text b ≡ boxed_from face (λ n. job_for n how text b.margin) b least (ppem - least) left
box_on face how greatest text b least ppem left near short is are =
    let P : ℕ → Type 0 = λ l. box_outcome face how greatest text b
    ≡ boxed_from face (λ n. job_for n how text b.margin) b l (suc (greatest - l)) (Some 10000000) in
    subst P (sym is) (box_tested face how greatest text b near short) ∙ sym are.same

pub box_stops : (face : Face) (how : Fit) (greatest : ℕ) (text : List ℕ) (b : BoxPlace) (least ppem : ℕ) (left : Option ℕ) (e : DrawFault) → margin_tested b.margin ≡ Ok tt
    → text_tested text ≡ Ok tt → least ≡ least_size greatest → AreOn face (λ n. job_for n how text b.margin) b least greatest ppem left → least < ppem
    → IfSome (refusal e) (λ r. step_at face (job_for (ppem - 1) how text b.margin) b left ≡ Err r)
    → IfSome (refusal e) (λ r. box_outcome face how greatest text b ≡ Err r)
box_stops face how greatest text b least ppem left e near short is are above =
    let next = ppem - 1 in
    let more : ppem - least ≡ suc (next - least) = omega (arith, above) in
    let at : next ≡ least + (next - least) = omega (arith, above) in
    stops e (step_at face (job_for next how text b.margin) b left) (box_outcome face how greatest text b) (λ r fails.
    box_on face how greatest text b least ppem left near short is are
    ∙ next_stops face (λ n. job_for n how text b.margin) b least (ppem - least) (next - least) next left r more at fails)

pub box_found : (face : Face) (how : Fit) (greatest : ℕ) (text : List ℕ) (b : BoxPlace) (least ppem : ℕ) (left : Option ℕ) (t : Stepped) (i : Image)
    → margin_tested b.margin ≡ Ok tt → text_tested text ≡ Ok tt → least ≡ least_size greatest
    → AreOn face (λ n. job_for n how text b.margin) b least greatest ppem left → least < ppem
    → step_at face (job_for (ppem - 1) how text b.margin) b left ≡ Ok t → t.shown ≡ Some i
    → box_outcome face how greatest text b ≡ Ok (Some (record { ppem = ppem - 1; shown = i }))
box_found face how greatest text b least ppem left t i near short is are above tried shown =
    let next = ppem - 1 in
    let more : ppem - least ≡ suc (next - least) = omega (arith, above) in
    let at : next ≡ least + (next - least) = omega (arith, above) in
    box_on face how greatest text b least ppem left near short is are
    ∙ next_found face (λ n. job_for n how text b.margin) b least (ppem - least) (next - least) next left t i more at tried shown

pub box_empty : (face : Face) (how : Fit) (greatest : ℕ) (text : List ℕ) (b : BoxPlace) (least ppem : ℕ) (left : Option ℕ) → margin_tested b.margin ≡ Ok tt
    → text_tested text ≡ Ok tt → least ≡ least_size greatest → AreOn face (λ n. job_for n how text b.margin) b least greatest ppem left → ppem ≤ least
    → box_outcome face how greatest text b ≡ Ok None
box_empty face how greatest text b least ppem left near short is are over =
    box_on face how greatest text b least ppem left near short is are
    ∙ none_left face (λ n. job_for n how text b.margin) b least (ppem - least) left (omega (arith, over))
