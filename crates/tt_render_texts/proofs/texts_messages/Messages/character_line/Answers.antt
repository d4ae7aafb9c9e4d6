use Rattle.std.proofs.Common.{true}
use Rattle.std.specs.Fmt.{digits}
use Rattle.tt_render_streams.proofs.Text.{padded_to_four}
use Rattle.tt_render_texts.proofs.texts_messages.Messages.character_line.Goals as goal

pub returns : goal.returns
returns c =
    let written = rw (c.in_ok-head.ensures, c.laid_out.ensures, c.in_radix.ensures) at c.format.ensures.ok in
    rw (← padded_to_four (digits 16 true c.args.c)) written
