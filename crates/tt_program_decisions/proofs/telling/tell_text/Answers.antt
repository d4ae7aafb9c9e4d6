use Rattle.std.proofs.Common.{◌≡◌, inl, refl, rules, string_bytes}
use Rattle.tt_program_decisions.proofs.telling.tell_text.Goals as goal

pub returns-in-Ok-clause-told : goal.returns-in-Ok-clause-told
returns-in-Ok-clause-told g c told is =
    let same : string_bytes c.in-Ok.text ≡ told = search (rules, is) in
    inl (refl, rw (c.requires.error, c.deref.ensures, same) at c.print_text.ensures)
