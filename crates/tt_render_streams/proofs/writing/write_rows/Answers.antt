use Rattle.std.proofs.Common.{◌≡◌, ◌∙◌, ℕ, List, ◌++◌, ◌+◌, ◌-◌, ◌*◌, ◌<◌, ◌≤◌, drop, length, take, refl, ap, sym, arith, drop-drop, length-drop}
use Rattle.std.proofs.lemmas.List.{take_all}
use Rattle.std.proofs.lemmas.Nat.{mul-le}
use Rattle.tt_core.specs.Bits.{stride}
use Rattle.tt_picture.specs.Pictures.{band_rows, rows_at}
use Rattle.tt_render_streams.proofs.Pieces.{piece_stays, rows_end, rows_long}
use Rattle.tt_render_streams.proofs.Sent.{appends_none, appends_more, next_part, part_of_next, few_bytes}
use Rattle.tt_render_streams.proofs.writing.write_rows.Goals as goal

pub loop-picture-init : goal.loop-picture-init
loop-picture-init g c = record {
  picture = refl;
  within = c.requires.begun.made;
  piece = refl;
  sent = omega arith;
  out = appends_none (g.W.Sink.written c.args.out.now)
      (drop (stride c.args.picture.now.frame.width * c.args.picture.now.made) c.args.picture.now.rows) 0 refl;
  serves = c.requires.out;
}

-- the bytes that are left, from the first that was not written
here_is : (n sent first made : ℕ) (rows : List ℕ) → sent + n * first ≡ n * made
    → drop sent (drop (n * first) rows) ≡ drop (n * made) rows
here_is n sent first made rows is =
    let place : n * first + sent ≡ n * made = omega (arith, is) in
    drop-drop sent (n * first) rows ∙ ap (λ k. drop k rows) place

pub loop-picture-preserved : goal.loop-picture-preserved
loop-picture-preserved g c =
    let written = g.W.Sink.written in
    let so_far = c.loop-picture.invariant in
    let p = c.args.picture.now in
    let n = stride p.frame.width in
    let made = c.loop-picture.picture.made in
    let count = c.min-count.result in
    let rest = drop (n * p.made) p.rows in
    let left : c.rows_left-in-loop-picture.result ≡ p.frame.height - made = rw so_far.picture at c.rows_left-in-loop-picture.ensures in
    let few : made + count ≤ p.frame.height = omega (arith, left, c.min-count.ensures, so_far.within) in
    let all = rw so_far.picture at c.in-Ok.ensures.writes.all in
    let here = here_is n c.loop-picture.sent p.made made p.rows so_far.sent in
    let ends = rows_end n made count p.frame.height p.rows few c.requires.begun.rows in
    let within : c.loop-picture.sent ≤ length rest = omega (arith, length-drop (n * p.made) p.rows, ends, so_far.sent) in
    let joined : take c.loop-picture.sent rest ++ rows_at p made count ≡ take (c.loop-picture.sent + n * count) rest =
    ap (λ xs. take c.loop-picture.sent rest ++ take (n * count) xs) (sym here)
    ∙ next_part c.loop-picture.sent (n * count) rest within in
    let same : c.write_band.new.picture ≡ record p { made = made + count } = rw so_far.picture at c.in-Ok.ensures.same in
    let bytes : c.row_bytes.result ≡ n = rw so_far.picture at c.row_bytes.ensures in
    let band = rw bytes at c.write_band.ensures.band in
    let most : c.band_rows.result ≡ band_rows p.frame = rw so_far.picture at c.band_rows.ensures.exact in
    let in_band : count ≤ band_rows p.frame = omega (arith, c.min-count.ensures, most) in
    let own : n ≤ n = omega arith in
    let product = mul-le n count n (band_rows p.frame) own in_band in
    let rows : n * count ≤ length c.loop-picture.piece = omega (arith, so_far.piece, c.requires.piece, product) in
    rw (same, bytes) (record {
      picture = refl;
      within = few;
      piece = piece_stays (n * count) c.loop-picture.piece c.write_band.new.band rows band ∙ so_far.piece;
      sent = omega (arith, so_far.sent);
      out = appends_more (written c.args.out.now) (written c.loop-picture.out) (written c.write_band.new.out)
          (take c.loop-picture.sent rest) (rows_at p made count) (take (c.loop-picture.sent + n * count) rest) so_far.out all joined;
      serves = c.in-Ok.ensures.writes.failure;
    })

pub returns-clause-writes : goal.returns-clause-writes
returns-clause-writes g c =
    let so_far = c.loop-picture.invariant in
    let p = c.args.picture.now in
    let n = stride p.frame.width in
    let rest = drop (n * p.made) p.rows in
    let left : c.rows_left.result ≡ p.frame.height - c.loop-picture.picture.made = rw so_far.picture at c.rows_left.ensures in
    let done : c.loop-picture.picture.made ≡ p.frame.height = omega (arith, left, c.loop-picture-test.false, so_far.within) in
    let sent = rw done at so_far.sent in
    let long : length rest ≤ c.loop-picture.sent =
    omega (arith, length-drop (n * p.made) p.rows, c.requires.begun.rows, sent) in
    record {
      all = rw (take_all c.loop-picture.sent rest long) at so_far.out;
      part = tt;
      within = tt;
      failure = so_far.serves;
    }

pub returns-in-Err-clause-writes : goal.returns-in-Err-clause-writes
returns-in-Err-clause-writes g c =
    let written = g.W.Sink.written in
    let so_far = c.loop-picture.invariant in
    let p = c.args.picture.now in
    let n = stride p.frame.width in
    let made = c.loop-picture.picture.made in
    let count = c.min-count.result in
    let sent = c.in-Err.cut.sent in
    let rest = drop (n * p.made) p.rows in
    let left : c.rows_left-in-loop-picture.result ≡ p.frame.height - made = rw so_far.picture at c.rows_left-in-loop-picture.ensures in
    let few : made + count ≤ p.frame.height = omega (arith, left, c.min-count.ensures, so_far.within) in
    let cut = rw so_far.picture at c.in-Err.ensures.writes in
    let here = here_is n c.loop-picture.sent p.made made p.rows so_far.sent in
    let ends = rows_end n made count p.frame.height p.rows few c.requires.begun.rows in
    let within : c.loop-picture.sent ≤ length rest = omega (arith, length-drop (n * p.made) p.rows, ends, so_far.sent) in
    let long = rows_long n made count p.frame.height p.rows few c.requires.begun.rows in
    let inside : sent < length (rows_at p made count) = cut.within in
    let fewer : sent ≤ n * count = omega (arith, inside, long) in
    record {
      all = tt;
      part = appends_more (written c.args.out.now) (written c.loop-picture.out) (written c.write_band.new.out)
          (take c.loop-picture.sent rest) (take sent (rows_at p made count)) (take (c.loop-picture.sent + sent) rest) so_far.out cut.part
          (ap (λ xs. take c.loop-picture.sent rest ++ take sent (take (n * count) xs)) (sym here)
          ∙ part_of_next c.loop-picture.sent (n * count) sent rest within fewer);
      within = omega (arith, inside, long, ends, length-drop (n * p.made) p.rows, so_far.sent);
      failure = cut.failure;
    }

pub returns-in-Err-clause-bound : goal.returns-in-Err-clause-bound
returns-in-Err-clause-bound g c =
    let so_far = c.loop-picture.invariant in
    let p = c.args.picture.now in
    let n = stride p.frame.width in
    let made = c.loop-picture.picture.made in
    let count = c.min-count.result in
    let left : c.rows_left-in-loop-picture.result ≡ p.frame.height - made = rw so_far.picture at c.rows_left-in-loop-picture.ensures in
    let few : made + count ≤ p.frame.height = omega (arith, left, c.min-count.ensures, so_far.within) in
    let ends = rows_end n made count p.frame.height p.rows few c.requires.begun.rows in
    let long = rows_long n made count p.frame.height p.rows few c.requires.begun.rows in
    let cut = rw so_far.picture at c.in-Err.ensures.writes in
    let inside : c.in-Err.cut.sent < length (rows_at p made count) = cut.within in
    let all = few_bytes p.frame.width p.frame.height c.requires.begun.width c.requires.begun.height in
    omega (arith, so_far.sent, ends, c.requires.begun.rows, inside, long, all)
