use Rattle.std.proofs.Common.{◌≡◌, refl, sym, sum, SFits, w32, of_z, to_z, rules}
use Rattle.std.proofs.lemmas.Int.{to_z-of_z}
use Rattle.tt_metrics.specs.Metrics.{glyphs_of}
use Rattle.tt_line.specs.Layout.{placed_in, placement, text_glyphs}
use Rattle.tt_line.specs.Outcome.{placement_of}
use Rattle.tt_line.specs.Steps.{linear_line, linear_steps, step_in_pixels}
use Rattle.tt_line.proofs.Stepped.{firsts, known_alike}
use Rattle.tt_line.proofs.layout.lay.Goals as goal

pub returns-in_err-extent-clause-fault : goal.returns-in_err-extent-clause-fault
returns-in_err-extent-clause-fault c =
    let glyphs = text_glyphs c.args.known.now.cmap c.args.text.now in
    let advances : c.sum_of_text-sum.result ≡ sum (linear_steps c.args.known.now.metrics c.args.known.now.ppem glyphs) =
    c.sum_of_text-sum.ensures.exact in
    search rules

pub returns-clause-exact : goal.returns-clause-exact
unfolding placement
returns-clause-exact c =
    let m = c.args.known.now.metrics in
    let ppem = c.args.known.now.ppem in
    let gs = text_glyphs c.args.known.now.cmap c.args.text.now in
    let items : c.in_ok-steps.steps.items ≡ linear_line m ppem gs = rw c.sum_of_text-sum.ensures.same at c.in_ok-steps.ensures.exact in
    let fits : SFits w32 c.rise-rise.result = search rules in
    let same : to_z w32 (of_z w32 c.rise-rise.result) ≡ c.rise-rise.result = simp to_z-of_z refl in
    let line : placement_of c.line_of.result ≡ placed_in gs (linear_steps m ppem gs) c.rise-rise.result c.in_ok-extent.extent =
    rw (items, same, firsts m (step_in_pixels m ppem) gs) at c.line_of.ensures.exact in
    rw line (search rules)

pub returns-clause-known : goal.returns-clause-known
returns-clause-known c =
    known_alike (glyphs_of c.args.known.now.metrics) c.in_ok-steps.steps.items c.line_of.result.glyphs.items (sym c.line_of.ensures.glyphs)
    (rw c.sum_of_text-sum.ensures.same at c.in_ok-steps.ensures.known)
