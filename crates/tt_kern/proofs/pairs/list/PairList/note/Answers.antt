use Rattle.std.proofs.Common.{◌≡◌, ◌∙◌, ◌+◌, ◌∷◌, ◌++◌, [], ◌≤◌, map, take, length, slice_set, sym, arith}
use Rattle.std.proofs.lemmas.List.{length-map, length-take-le, take_more_set, take_all, length_push}
use Rattle.tt_kern.specs.Listed.{code_of, subtable_of}
use Rattle.tt_kern.proofs.Codes.{decoded, one-more}
use Rattle.tt_kern.proofs.Lists.{full}
use Rattle.tt_kern.proofs.pairs.list.PairList.note.Goals as goal

pub returns-then-self-lt64 : goal.returns-then-self-lt64
returns-then-self-lt64 c =
    let k = c.self.inside.count in
    let codes = c.self.inside.codes in
    let x = c.args.subtable in
    let v : map subtable_of (take k codes) ≡ c.args.self.now = c.self.view_is in
    let all = length-map (take k codes) subtable_of ∙ length-take-le k codes (omega (arith, c.self.invariant.0, c.self.invariant.1)) in
    let count = rw v at all in
    let few : length (c.args.self.now ++ x ∷ []) ≤ 64 = rw (length_push c.args.self.now x, count) (omega (arith, c.if-self-lt64.true)) in
    let new : take (k + 1) (slice_set codes k (code_of x)) ≡ take k codes ++ code_of x ∷ [] =
    take_more_set codes k (code_of x) (omega (arith, c.if-self-lt64.true, c.self.invariant.1)) in
    rw (new, one-more subtable_of (take k codes) (code_of x), v, decoded x c.requires)
    (sym (take_all 64 (c.args.self.now ++ x ∷ []) few))

pub returns-else-self-lt64 : goal.returns-else-self-lt64
returns-else-self-lt64 c =
    let k = c.self.inside.count in
    let codes = c.self.inside.codes in
    let v : map subtable_of (take k codes) ≡ c.args.self.now = c.self.view_is in
    let all = length-map (take k codes) subtable_of ∙ length-take-le k codes (omega (arith, c.self.invariant.0, c.self.invariant.1)) in
    let count = rw v at all in
    sym (full 64 c.args.self.now (c.args.subtable ∷ []) (omega (arith, count, c.self.invariant.0, c.if-self-lt64.false)))
