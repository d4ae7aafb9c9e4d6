use Rattle.std.proofs.Common.{◌≡◌, ap, length, refl, sym, ◌∙◌}
use Rattle.std.proofs.lemmas.List.{take_at}
use Rattle.tt_pbm.specs.P4.{p4_header_of}
use Rattle.tt_pbm.proofs.header.p4_header.Goals as goal

pub returns-clause-exact : goal.returns-clause-exact
returns-clause-exact c = rw (c.copy_from_slice.ensures.after) (take_at c.as_bytes-text.result.now _ _ refl
    ∙ rw
    (c.as_bytes-text.ensures.exact, c.push-5.ensures.exact, c.push-4.ensures.exact, c.push-3.ensures.exact, c.push_u16-2.ensures.exact, c.push-2.ensures.exact, c.push_u16.ensures.exact, c.push.ensures.exact, c.new-text.ensures.exact) refl)

pub returns-clause-len : goal.returns-clause-len
returns-clause-len c =
    let is : c.as_bytes-text.result.now ≡ p4_header_of c.args.w c.args.h = rw
    (c.as_bytes-text.ensures.exact, c.push-5.ensures.exact, c.push-4.ensures.exact, c.push-3.ensures.exact, c.push_u16-2.ensures.exact, c.push-2.ensures.exact, c.push_u16.ensures.exact, c.push.ensures.exact, c.new-text.ensures.exact) refl in
    ap length (sym is)
