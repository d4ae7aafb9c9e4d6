-- A glyph that did not lack work is made the same wherever as much work remains, and leaves the rest.
use Rattle.std.proofs.Common.{◌≡◌, ◌∙◌, sym, ap, ℕ, ◌+◌, ◌-◌, Option, Some, None, IfSome, Result, Ok, Err, refl, arith}
use Rattle.tt_core.specs.Faults.{Fault}
use Rattle.tt_core.specs.declared.fault.Why.TheVariants as why
use Rattle.tt_fit_hinting.proofs.machine.RunCosts.{is_cost, limited, paid}
use Rattle.tt_fit_hinting.specs.machine.Work.{Worked, enough, spent}
use Rattle.tt_fit.proofs.Falling.{left-where-enough, unbounded-is-enough}
use Rattle.tt_fit.proofs.GlyphCosts.{of-glyph}
use Rattle.tt_fit.proofs.WorkApart.{own-work, more-bound}
use Rattle.tt_fit.specs.Fallback.{Fallback, never, where_refused, everywhere, unfitted_by}
use Rattle.tt_fit.specs.Fitting.{Fitter, with_hinting, outline_at, glyph_work, unfitted_fault, fitted_outline, after_glyph, with_work}
use Rattle.tt_fit.specs.GlyphCost.{work_more, all_used, IsMadeFor, HadWork, GlyphsAreMadeFor}
use Rattle.tt_fit_outline.specs.Outline.{Outline}

-- the glyph's work with another rest
with-rest : (s : Fitter) (g cost rest other : ℕ) → glyph_work s g (Some (rest + cost)) ≡ enough (Some rest)
    → glyph_work s g (Some (other + cost)) ≡ enough (Some other)
with-rest s g cost rest other pays =
    let has = of-glyph s g in
    let sum = paid (glyph_work s g) has (rest + cost) rest pays in
    let same : other + cost - has.cost ≡ other = omega arith in
    (is_cost (glyph_work s g) has).0 (other + cost) (omega arith) ∙ ap (λ k. enough (Some k)) same

with-other : (s : Fitter) (g cost : ℕ) (rest other : Option ℕ) → all_used other ≡ all_used rest
    → glyph_work s g (work_more cost rest) ≡ enough rest → glyph_work s g (work_more cost other) ≡ enough other
with-other s g cost None None alike pays = pays
with-other s g cost None (Some k) alike pays = absurd cc
with-other s g cost (Some r) None alike pays = absurd cc
with-other s g cost (Some r) (Some k) alike pays = with-rest s g cost r k pays

-- enough work makes the same glyph
by-outline : (made : Result Outline Fault) (one two : Option ℕ)
    → unfitted_by where_refused (enough two) made ≡ unfitted_by where_refused (enough one) made
by-outline (Ok o) one two = refl
by-outline (Err f) one two = refl

unfitted-same : (s : Fitter) (g : ℕ) (a b one two : Option ℕ) → s.fallback ≡ where_refused
    → glyph_work s g a ≡ enough one → glyph_work s g b ≡ enough two
    → unfitted_fault (with_work s b) g ≡ unfitted_fault (with_work s a) g
unfolding unfitted_fault
unfitted-same s g a b one two is first second =
    rw (is, first, second) (by-outline (outline_at (with_hinting s s.hinting) s.levels g) one two)

-- the outline goes by the fault, and by nothing else of the work
outline-same : (s : Fitter) (g : ℕ) (a b : Option ℕ)
    → unfitted_fault (with_work s b) g ≡ unfitted_fault (with_work s a) g
    → fitted_outline (with_work s b) g ≡ fitted_outline (with_work s a) g
unfolding fitted_outline
outline-same s g a b same = rw same refl

left-over : (s : Fitter) (g : ℕ) (a rest : Option ℕ) → s.fallback ≡ where_refused → glyph_work s g a ≡ enough rest
    → after_glyph (with_work s a) g ≡ with_work s rest
unfolding after_glyph
left-over s g a rest is pays = rw (is, pays) refl

-- what remains tells the cost
enough-by : (worked : Worked) (made : Result Outline Fault) → ((f : Fault) → worked ≡ spent f → f.why ≡ why.StepLimit)
    → HadWork where_refused (unfitted_by where_refused worked made) → (left : Option ℕ) × (worked ≡ enough left)
enough-by (enough left) made over had = (left, refl)
enough-by (spent f) made over had = absurd (had (over f refl))

spent-limited : (s : Fitter) (g : ℕ) (left : Option ℕ) (f : Fault) → glyph_work s g left ≡ spent f
    → f.why ≡ why.StepLimit
spent-limited s g None f e = let free = unbounded-is-enough s g in absurd cc
spent-limited s g (Some left) f e = limited (glyph_work s g) (of-glyph s g) left f e

was-enough : (s : Fitter) (g : ℕ) → s.fallback ≡ where_refused → HadWork s.fallback (unfitted_fault s g)
    → (after : Option ℕ) × (glyph_work s g s.work ≡ enough after)
unfolding unfitted_fault
was-enough s g is had =
    enough-by (glyph_work s g s.work) (outline_at (with_hinting s s.hinting) s.levels g)
    (λ f over. spent-limited s g s.work f over) (rw is at had)

made-refused : (s : Fitter) (g cost : ℕ) (rest : Option ℕ) (o : Outline) → s.fallback ≡ where_refused
    → fitted_outline s g ≡ Ok o → HadWork s.fallback (unfitted_fault s g) → s.work ≡ work_more cost rest
    → (after_glyph s g).work ≡ rest → IsMadeFor s g cost o (unfitted_fault s g)
made-refused s g cost rest o is made had at left other alike =
    let (after, pays) = was-enough s g is had in
    let same : after ≡ rest = sym (left-where-enough s g after is pays) ∙ left in
    let first : glyph_work s g (work_more cost rest) ≡ enough rest =
    ap (λ left. glyph_work s g left) (sym at) ∙ pays ∙ ap enough same in
    let bound : all_used other ≡ all_used rest = alike ∙ ap all_used at ∙ more-bound cost rest in
    let second = with-other s g cost rest other bound first in
    let here = own-work s (work_more cost rest) at in
    let unfitted = unfitted-same s g (work_more cost rest) (work_more cost other) rest other is first second in
    record {
      outline = outline-same s g (work_more cost rest) (work_more cost other) unfitted ∙ rw here made;
      unfitted = unfitted ∙ ap (λ t. unfitted_fault t g) here;
      after = left-over s g (work_more cost other) other is second;
    }

-- where no glyph is unfitted, or every one, the work that remains makes nothing different, and stays
unfitted-other : (fallback : Fallback) (s : Fitter) (g : ℕ) (left : Option ℕ) → s.fallback ≡ fallback
    → (fallback ≡ where_refused → ⊥) → unfitted_fault (with_work s left) g ≡ unfitted_fault s g
unfolding unfitted_fault
unfitted-other never s g left is not = rw is refl
unfitted-other where_refused s g left is not = absurd (not refl)
unfitted-other (everywhere f) s g left is not = rw is refl

left-other : (fallback : Fallback) (s : Fitter) (g : ℕ) (left : Option ℕ) → s.fallback ≡ fallback
    → (fallback ≡ where_refused → ⊥) → after_glyph (with_work s left) g ≡ with_work s left
unfolding after_glyph
left-other never s g left is not = rw is refl
left-other where_refused s g left is not = absurd (not refl)
left-other (everywhere f) s g left is not = rw is refl

-- a rest with a cost that makes no difference
no-cost : (cost : ℕ) (rest other : Option ℕ) → rest ≡ work_more cost rest → all_used other ≡ all_used rest
    → work_more cost other ≡ other
no-cost cost None None is alike = refl
no-cost cost None (Some k) is alike = absurd cc
no-cost cost (Some r) None is alike = absurd cc
no-cost cost (Some r) (Some k) is alike =
    let sum : r ≡ r + cost = cc in
    let none : cost ≡ 0 = omega arith in
    let whole : k + cost ≡ k = omega arith in
    ap Some whole

made-other : (fallback : Fallback) (s : Fitter) (g cost : ℕ) (rest : Option ℕ) (o : Outline) → s.fallback ≡ fallback
    → (fallback ≡ where_refused → ⊥) → fitted_outline s g ≡ Ok o → s.work ≡ work_more cost rest
    → (after_glyph s g).work ≡ rest → IsMadeFor s g cost o (unfitted_fault s g)
made-other fallback s g cost rest o is not made at left other alike =
    let own = own-work s s.work refl in
    let stays : rest ≡ s.work = sym left ∙ ap (λ (t : Fitter). (after_glyph t g).work) (sym own)
    ∙ ap (λ (t : Fitter). t.work) (left-other fallback s g s.work is not) in
    let bound : all_used other ≡ all_used rest = alike ∙ ap all_used (sym stays) in
    let whole = no-cost cost rest other (stays ∙ at) bound in
    let unfitted = unfitted-other fallback s g (work_more cost other) is not in
    record {
      outline = outline-same s g s.work (work_more cost other)
          (unfitted ∙ ap (λ t. unfitted_fault t g) (sym own)) ∙ ap (λ t. fitted_outline t g) own ∙ made;
      unfitted = unfitted;
      after = left-other fallback s g (work_more cost other) is not ∙ ap (with_work s) whole;
    }

made-by : (fallback : Fallback) (s : Fitter) (g cost : ℕ) (rest : Option ℕ) (o : Outline) → s.fallback ≡ fallback
    → fitted_outline s g ≡ Ok o → HadWork s.fallback (unfitted_fault s g) → s.work ≡ work_more cost rest
    → (after_glyph s g).work ≡ rest → IsMadeFor s g cost o (unfitted_fault s g)
made-by never s g cost rest o is made had at left =
    made-other never s g cost rest o is (λ e. absurd cc) made at left
made-by where_refused s g cost rest o is made had at left = made-refused s g cost rest o is made had at left
made-by (everywhere f) s g cost rest o is made had at left =
    made-other (everywhere f) s g cost rest o is (λ e. absurd cc) made at left

pub glyphs-are-made-for : GlyphsAreMadeFor
glyphs-are-made-for s g cost rest o made had at left = made-by s.fallback s g cost rest o refl made had at left

-- where a cost is told
pub at-cost : (s : Fitter) (g : ℕ) (o : Outline) (reason : Option Fault) (cost : Option ℕ) → fitted_outline s g ≡ Ok o
    → reason ≡ unfitted_fault s g → IfSome cost (λ c. HadWork s.fallback reason)
    → IfSome cost (λ c. s.work ≡ work_more c (after_glyph s g).work) → IfSome cost (λ c. IsMadeFor s g c o reason)
at-cost s g o reason None made is had paid = tt
at-cost s g o reason (Some c) made is had paid =
    rw is (glyphs-are-made-for s g c (after_glyph s g).work o made (rw is at had) paid refl)
