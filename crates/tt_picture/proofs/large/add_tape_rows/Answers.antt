use Rattle.std.proofs.Common.{◌≡◌, ◌∙◌, ℕ, Bool, ◌+◌, ◌-◌, ◌*◌, ◌&&◌, nat_lt, length, take, drop, refl, arith, length-drop, length-take-le}
use Rattle.tt_core.specs.Bits.{stride}
use Rattle.tt_bitmap.proofs.Bands.{all_rows_painted, no_row_painted, one_row_painted, row_ends, row_put}
use Rattle.tt_picture.specs.Large.{is_black_from}
use Rattle.tt_picture.proofs.large.add_tape_rows.Goals as goal

pub loop-r-init : goal.loop-r-init
loop-r-init c = record {
  bytes = c.row_bytes-bytes.ensures;
  painted = no_row_painted (stride c.args.frame.width) c.args.frame.height _ c.args.rows.now;
  tape = c.requires.tape;
  edges = refl;
  room = refl;
}

pub add_tape-requires-clause-row : goal.add_tape-requires-clause-row
add_tape-requires-clause-row c =
    let so_far = c.loop-r.invariant in
    let n = stride c.args.frame.width in
    let i = c.loop-r.r in
    let band = c.loop-r.rows in
    let whole : length band ≡ n * c.args.frame.height = so_far.painted.len ∙ c.requires.rows in
    let ends = row_ends n i c.args.frame.height band whole c.loop-r-test.true in
    let part : n * i + n - n * i ≡ n = omega arith in
    let cut : length (take (n * i + n - n * i) (drop (n * i) band)) ≡ n * i + n - n * i =
    length-take-le (n * i + n - n * i) (drop (n * i) band) (omega (arith, length-drop (n * i) band, ends)) in
    record {
      height = c.requires.frame.height;
      within = c.loop-r-test.true;
      width = rw (so_far.bytes, cut, part) (omega arith);
    }

pub loop-r-preserved : goal.loop-r-preserved
loop-r-preserved c =
    let so_far = c.loop-r.invariant in
    let f = c.args.frame in
    let n = stride f.width in
    let i = c.loop-r.r in
    let band = c.loop-r.rows in
    let row = c.add_tape.new.row in
    let black : ℕ → ℕ → Bool = λ r c'. nat_lt c' f.width && is_black_from f c.args.tape.now.edges c.args.pens.now c' r in
    let whole : length band ≡ n * f.height = so_far.painted.len ∙ c.requires.rows in
    let ends = row_ends n i f.height band whole c.loop-r-test.true in
    let part : n * i + n - n * i ≡ n = omega arith in
    let cut : length (take (n * i + n - n * i) (drop (n * i) band)) ≡ n * i + n - n * i =
    length-take-le (n * i + n - n * i) (drop (n * i) band) (omega (arith, length-drop (n * i) band, ends)) in
    let len = rw so_far.bytes at c.add_tape.ensures.len in
    let long : length row ≡ n = len ∙ cut ∙ part in
    let painted = rw (so_far.bytes, so_far.edges) at c.add_tape.ensures.bits in
    rw so_far.bytes (record {
      bytes = refl;
      painted = one_row_painted n f.height i black c.args.rows.now band _ so_far.painted
          (row_put n i (n * i + n - n * i) band row (black i) ends part long (λ column inside. painted column));
      tape = c.add_tape.ensures.tape;
      edges = c.add_tape.ensures.edges ∙ so_far.edges;
      room = c.add_tape.ensures.room ∙ so_far.room;
    })

pub returns : goal.returns
returns c =
    let f = c.args.frame in
    let black : ℕ → ℕ → Bool = λ r c'. nat_lt c' f.width && is_black_from f c.args.tape.now.edges c.args.pens.now c' r in
    let end : c.loop-r.r ≡ f.height = omega (arith, c.loop-r-test.false, c.loop-r.auto.r-end) in
    all_rows_painted (stride f.width) f.height black c.args.rows.now c.loop-r.rows (rw end at c.loop-r.invariant.painted)
