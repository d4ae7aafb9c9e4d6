use Rattle.std.proofs.Common.{◌≡◌, length, rules, arith}
use Rattle.std.proofs.lemmas.List.{take_all}
use Rattle.tt_pbm.proofs.Appended.{appends_more}
use Rattle.tt_pbm.proofs.writing.write_all_of.Goals as goal

pub loop-sent-preserved : goal.loop-sent-preserved
loop-sent-preserved g c =
    let written = g.W.Sink.written in
    record {
      within = search rules;
      part = appends_more (written c.args.out.now) (written c.loop-sent.out)
          (written c.write.new.self) c.args.bytes.now c.loop-sent.sent c.in-Ok.n
          (search rules) c.loop-sent.invariant.part c.in-Ok.ensures.bytes;
      sound = search rules;
    }

pub returns-in-Err : goal.returns-in-Err
returns-in-Err g c = record {
  all = tt;
  part = grind (arith, c.in-Err.ensures.bytes, c.loop-sent.invariant.part);
  within = c.loop-sent-test.true;
  failure = search rules;
}

pub returns : goal.returns
returns g c =
    let so_far = c.loop-sent.invariant in
    let all : c.loop-sent.sent ≡ length c.args.bytes.now = omega (arith, so_far.within, c.loop-sent-test.false) in
    record {
      all = rw (take_all c.loop-sent.sent c.args.bytes.now (omega (arith, all))) at so_far.part;
      part = tt;
      within = tt;
      failure = so_far.sound;
    }
