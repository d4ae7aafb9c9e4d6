use Rattle.std.proofs.Common.{◌≡◌, ◌∙◌, ◌<◌, ◌≤◌, sym, arith}
use Rattle.tt_strike_kept.specs.Kept.{bytes_in, fitting}
use Rattle.tt_strike_kept.proofs.Fitting.{fitting_all, fitting_without_oldest, kept_is}
use Rattle.tt_strike_kept.proofs.kept.KeptGlyphs.make_room.Goals as goal

pub loop-self-preserved : goal.loop-self-preserved
loop-self-preserved c =
    let was = c.loop-self.self.entries in
    let more : c.args.room < bytes_in was = omega (arith, c.loop-self-test.true, c.bytes.ensures.exact) in
    rw c.give_up_oldest.ensures (
      c.loop-self.invariant.0,
      fitting_without_oldest c.args.room was more ∙ c.loop-self.invariant.1,
    )

pub returns : goal.returns
returns c =
    let now = c.loop-self.self.entries in
    let within : bytes_in now ≤ c.args.room = omega (arith, c.loop-self-test.false, c.bytes.ensures.exact) in
    let fit = fitting c.args.room c.args.self.now.entries in
    let same : now ≡ fit = sym (fitting_all c.args.room now within) ∙ c.loop-self.invariant.1 in
    kept_is c.loop-self.self fit c.args.self.now.most same c.loop-self.invariant.0
