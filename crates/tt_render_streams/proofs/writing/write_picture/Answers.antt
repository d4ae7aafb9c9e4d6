use Rattle.std.proofs.Common.{◌≡◌, ◌∙◌, ◌*◌, ◌/◌, ◌++◌, ap, drop, length, length-append, length-take-le, sym, take, arith}
use Rattle.std.proofs.Math.Nat.{min-le_left}
use Rattle.std.proofs.lemmas.Result.{err_from_is_err_and}
use Rattle.tt_core.specs.Bits.{stride}
use Rattle.tt_pbm.specs.P4.{p4_header_of}
use Rattle.tt_picture.specs.Pictures.{band_rows}
use Rattle.tt_render_streams.specs.File.{picture_bytes}
use Rattle.tt_render_streams.proofs.Pieces.{first_rows, part_of_first, sent_within, split_rows}
use Rattle.tt_render_streams.proofs.Sent.{appends_both, appends_more}
use Rattle.tt_render_streams.proofs.writing.write_picture.Goals as goal

pub returns-in_err-write_all_of-clause-writes : goal.returns-in_err-write_all_of-clause-writes
returns-in_err-write_all_of-clause-writes g c =
    let p = c.args.drawn.now.picture in
    let first = p4_header_of p.frame.width p.frame.height in
    let m = stride p.frame.width * band_rows p.frame in
    let piece : take c.make_first-len.result c.make_first-len.new.piece ≡ first ++ take m p.rows =
    c.make_first-len.ensures.bytes ∙ ap (λ xs. first ++ xs) (first_rows (stride p.frame.width) (band_rows p.frame) p.rows) in
    let e = err_from_is_err_and c.from_residual.result c.from_residual.ensures.1 in
    let cut = rw piece at c.in_err-write_all_of.ensures in
    let sent = c.in_err-write_all_of.field-0.0.sent in
    let within = sent_within sent m first p.rows cut.within in
    rw (e.1, e.2) (record {
      all = tt;
      part = rw (part_of_first sent m first p.rows within.0) at cut.part;
      within = within.1;
      failure = cut.failure;
    })

pub write_rows-requires-clause-begun : goal.write_rows-requires-clause-begun
write_rows-requires-clause-begun g c =
    let p = c.args.drawn.now.picture in
    let ready = c.requires.ready in
    rw c.make_first-len.ensures.same (record {
      width = ready.frame.width_high;
      height = ready.height;
      some = ready.frame.width_low;
      rows = ready.rows;
      made = min-le_left p.frame.height (65536 / stride p.frame.width);
    })

pub returns-in-Ok-clause-writes : goal.returns-in-Ok-clause-writes
returns-in-Ok-clause-writes g c =
    let written = g.W.Sink.written in
    let p = c.args.drawn.now.picture in
    let first = p4_header_of p.frame.width p.frame.height in
    let m = stride p.frame.width * band_rows p.frame in
    let piece : take c.make_first-len.result c.make_first-len.new.piece ≡ first ++ take m p.rows =
    c.make_first-len.ensures.bytes ∙ ap (λ xs. first ++ xs) (first_rows (stride p.frame.width) (band_rows p.frame) p.rows) in
    let sent = rw piece at c.in_ok-write_all_of.ensures in
    let rest = rw c.make_first-len.ensures.same at c.in-Ok.ensures.writes in
    record {
      all = appends_more (written c.args.out.now) (written c.write_all_of.new.out) (written c.write_rows.new.out)
          (first ++ take m p.rows) (drop m p.rows) (picture_bytes p) sent.all rest.all (split_rows m first p.rows);
      part = tt;
      within = tt;
      failure = rest.failure;
    }

pub returns-in-Err-clause-writes : goal.returns-in-Err-clause-writes
returns-in-Err-clause-writes g c =
    let written = g.W.Sink.written in
    let p = c.args.drawn.now.picture in
    let first = p4_header_of p.frame.width p.frame.height in
    let m = stride p.frame.width * band_rows p.frame in
    let front = first ++ take m p.rows in
    let piece : take c.make_first-len.result c.make_first-len.new.piece ≡ front =
    c.make_first-len.ensures.bytes ∙ ap (λ xs. first ++ xs) (first_rows (stride p.frame.width) (band_rows p.frame) p.rows) in
    let total : c.make_first-len.result ≡ length front =
    sym (length-take-le c.make_first-len.result c.make_first-len.new.piece c.make_first-len.ensures.within) ∙ ap length piece in
    let sent = rw piece at c.in_ok-write_all_of.ensures in
    let cut = rw c.make_first-len.ensures.same at c.in-Err.ensures.writes in
    let all = split_rows m first p.rows in
    let more = appends_both (written c.args.out.now) (written c.write_all_of.new.out) (written c.write_rows.new.out) front
    (drop m p.rows) c.in-Err.cut.sent sent.all cut.part in
    rw total (record {
      all = tt;
      part = rw all at more;
      within = omega (arith, cut.within, length-append front (drop m p.rows), ap length all);
      failure = cut.failure;
    })
