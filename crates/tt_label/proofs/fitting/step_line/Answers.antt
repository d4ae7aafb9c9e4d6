use Rattle.std.proofs.Common.{◌≡◌, ◌∙◌, ap, ℕ, List, length, map}
use Rattle.std.proofs.lemmas.List.{length-map, with_items_is}
use Rattle.tt_line.specs.Steps.{stepped}
use Rattle.tt_line.proofs.Stepped.{length-stepped}
use Rattle.tt_picture.specs.Steps.{step_by}
use Rattle.tt_label.proofs.fitting.step_line.Goals as goal

pub returns : goal.returns
returns c = λ advance are.
    let m = c.args.metrics.now in
    let step = step_by m c.args.ppem advance in
    let put = c.put_steps.ensures advance are in
    let count : length c.put_steps.new.line ≡ c.args.line.len = ap length put
    ∙ length-stepped m step (map (λ (g : ℕ × ℕ). g.0) c.deref_mut.result.now)
    ∙ length-map c.deref_mut.result.now (λ (g : ℕ × ℕ). g.0) ∙ c.deref_mut.ensures.len in
    with_items_is c.args.line c.put_steps.new.line count ∙ put
    ∙ ap (λ (gs : List (ℕ × ℕ)). stepped m step (map (λ (g : ℕ × ℕ). g.0) gs)) c.deref_mut.ensures.value
