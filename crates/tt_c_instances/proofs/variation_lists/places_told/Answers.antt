use Rattle.std.proofs.Common.{◌∙◌, ◌∷◌, ◌++◌, ◌+◌, [], SFits, ap, arith, drop, length, map, pos, refl, replicate, rules, sym, w32, ◌≡◌}
use Rattle.std.proofs.lemmas.Int.{to_z-of_z}
use Rattle.std.proofs.lemmas.List.{length-map}
use Rattle.std.proofs.lemmas.List.FromFn.{length-range_with_len, map-range_with_len_more}
use Rattle.std.specs.List.{range_with_len}
use Rattle.tt_axes.specs.Instances.{place_in}
use Rattle.tt_core.specs.Limits.{axis_limit}
use Rattle.tt_c_calls.proofs.Entries.{one_more}
use Rattle.tt_c_instances.proofs.variation_lists.places_told.Goals as goal

pub loop-i-preserved : goal.loop-i-preserved
loop-i-preserved c =
    let fits : SFits w32 c.place.result = search rules in
    let f = place_in c.args.fvar.now c.args.k in
    let i = c.loop-i.i in
    let zeros = replicate axis_limit (pos 0) in
    let many : i ≡ length (map f (range_with_len 0 i)) = rw (length-map, length-range_with_len) refl in
    let written = one_more (map f (range_with_len 0 i)) zeros i c.place.result many (omega arith) in
    let more = ap (λ v. map f (range_with_len 0 i) ++ v ∷ []) c.place.ensures ∙ sym (map-range_with_len_more f 0 i i (omega arith)) in
    rw c.loop-i.invariant (simp to_z-of_z (written ∙ ap (λ m. m ++ drop (i + 1) zeros) more))
