use Rattle.std.proofs.Common.{◌∙◌, ◌-◌, length, refl, rules, arith}
use Rattle.tt_pbm.proofs.Decimals.{put_before}
use Rattle.tt_pbm.proofs.ascii.Ascii.push_bytes.Goals as goal

pub returns : goal.returns
returns c =
    let text = c.self.inside in
    let put = put_before (text.at - length c.args.bytes.now) text.at text.bytes c.args.bytes.now (omega arith) (search rules) in
    record { exact = rw c.copy_from_slice.ensures.after (put ∙ rw c.self.view_is refl) }
