use Rattle.std.proofs.Common.{codes}
use Rattle.tt_program_decisions.specs.Unfound.{quoted}
use Rattle.tt_program_decisions.proofs.Quotes.{of_five}
use Rattle.tt_program_decisions.proofs.unfound.line_of_family.Goals as goal

pub returns : goal.returns
returns c =
    let name = c.args.name.now in
    rw (
      c.in_ok-push_str-3.ensures.bytes,
      c.in_ok-push_quoted.ensures,
      c.in_ok-push_str-2.ensures.bytes,
      c.in_ok-push_str.ensures.bytes,
      c.in_ok-line.ensures.ok,
    )
    (of_five (codes "tt_render: ") name (codes ": no such file; fc-match -f '%{file}' ") (quoted name) (codes " finds a family's file\n"))
