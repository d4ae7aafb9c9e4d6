use Rattle.std.proofs.Common.{◌≡◌, refl, rules, string_bytes}
use Rattle.tt_program_decisions.proofs.telling.ended.Goals as goal

pub returns : goal.returns
returns c line is =
    let same : string_bytes c.in_ok-text.text ≡ line = search (rules, is) in
    rw (c.in_ok-push_str.ensures.bytes, same) refl
