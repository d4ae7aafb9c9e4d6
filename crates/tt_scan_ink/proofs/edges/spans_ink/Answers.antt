use Rattle.std.proofs.Common.{◌≡◌, ◌∙◌, ◌<◌, ◌∷◌, [], ◌+◌, ap, get_or, length, take, pos, SFits, w64}
use Rattle.std.proofs.lemmas.Int.{to_z-of_z}
use Rattle.std.proofs.lemmas.List.{take_all, take_more}
use Rattle.tt_scan_edges.specs.declared.mark.Span.{Span}
use Rattle.tt_scan_ink.specs.Least.{covered}
use Rattle.tt_scan_ink.proofs.Regions.{no_spans, spans_more}
use Rattle.tt_scan_ink.proofs.Together.{joined_is}
use Rattle.tt_scan_ink.proofs.edges.spans_ink.Goals as goal

pub loop-span-init : goal.loop-span-init
loop-span-init c =
    let line : SFits w64 c.args.line = c.ranges.line in
    simp to_z-of_z (λ k j. no_spans c.args.columns c.args.line k j)

pub loop-span-preserved : goal.loop-span-preserved
loop-span-preserved c =
    let line : SFits w64 c.args.line = c.ranges.line in
    let ss = c.args.spans.now in
    let i = c.loop-span.span-index in
    let none : Span = record { first = pos 0; last = pos 0 } in
    let s = get_or ss i none in
    let below : i < length ss = c.loop-span-test.true in
    let so_far = simp to_z-of_z at c.loop-span.invariant in
    simp to_z-of_z (rw c.joined-ink.ensures (joined_is (covered c.args.columns c.args.line (take i ss))
    (covered c.args.columns c.args.line (s ∷ [])) (covered c.args.columns c.args.line (take (i + 1) ss)) _ _
    (λ k j. ap (λ ss. covered c.args.columns c.args.line ss k j) (take_more ss i none below)
    ∙ spans_more c.args.columns c.args.line (take i ss) s k j)
    so_far (simp to_z-of_z at c.span_ink.ensures)))

pub returns : goal.returns
returns c =
    let line : SFits w64 c.args.line = c.ranges.line in
    let all : take c.loop-span.span-index c.args.spans.now ≡ c.args.spans.now =
    take_all c.loop-span.span-index c.args.spans.now c.loop-span-test.false in
    rw all at (simp to_z-of_z at c.loop-span.invariant)
