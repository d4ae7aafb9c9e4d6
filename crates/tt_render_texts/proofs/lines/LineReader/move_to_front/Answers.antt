use Rattle.std.proofs.Common.{◌∙◌, ◌-◌, take, ap, arith}
use Rattle.tt_render_texts.proofs.HeldLines.{moved_to_front}
use Rattle.tt_render_texts.proofs.lines.LineReader.move_to_front.Goals as goal

pub returns-clause-held : goal.returns-clause-held
returns-clause-held c =
    let r = c.args.self.now in
    ap (take (r.until - r.from)) c.copy_within.ensures.items
    ∙ moved_to_front r.from r.until r.buf.items r.order (omega (arith, r.within))
