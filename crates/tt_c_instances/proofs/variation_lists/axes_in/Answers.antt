use Rattle.std.proofs.Common.{◌≡◌, ◌∙◌, ℕ, List, ap₂, arith, sym}
use Rattle.std.proofs.lemmas.List.FromFn.{map-range_with_len_more}
use Rattle.tt_axes.specs.declared.axis.VariationAxis.{VariationAxis}
use Rattle.tt_axes.specs.Axes.{axis_of}
use Rattle.tt_face.specs.Names.{name_of}
use Rattle.tt_c_instances.specs.VariationLists.{axis_at, axis_told}
use Rattle.tt_c_instances.proofs.variation_lists.axes_in.Goals as goal

pub loop-i-preserved : goal.loop-i-preserved
loop-i-preserved c =
    let d = c.args.face.now.directory in
    let fvar = c.in-Some.fvar in
    let i = c.loop-i.i in
    let name : c.deref.result.now ≡ name_of (axis_of fvar i).name d =
    rw c.axis-axis.ensures.exact at (c.deref.ensures.value ∙ c.in_ok-name.ensures) in
    let told : c.axis_told.result ≡ axis_at d fvar i =
    c.axis_told.ensures ∙ ap₂ (λ (a : VariationAxis) (n : List ℕ). axis_told a n) c.axis-axis.ensures.exact name in
    rw (c.in_ok-push.ensures.items, told, c.loop-i.invariant)
    (sym (map-range_with_len_more (axis_at d fvar) 0 i i (omega arith)))
