use Rattle.std.proofs.Common.{◌≡◌, Some, option_map, rules}
use Rattle.tt_program_decisions.specs.Requests.{asked_of}
use Rattle.tt_program_decisions.proofs.request.measuring_of.Goals as goal

pub returns-in_ok-asked : goal.returns-in_ok-asked
returns-in_ok-asked g c =
    let there : c.drawing_of-asked.result ≡ Some c.in_ok-asked.field-0 = search rules in (
      option_map asked_of c.drawing_of-asked.result,
      c.is_set-bare.result,
      c.drawing_of-asked.ensures,
      c.is_set-bare.ensures,
      rw (c.if-bare.true, there) c.without_ink.ensures,
    )
