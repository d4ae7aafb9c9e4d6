use Rattle.std.proofs.Common.{◌≡◌, ◌∙◌, ap, sym, ℕ, Bool, ◌+◌, ◌-◌, ◌*◌, ◌<◌, ◌≤◌, ◌&&◌, ◌||◌, nat_lt, length, take, drop, refl, arith, length-drop, length-take-le}
use Rattle.tt_core.specs.Bits.{bit, stride}
use Rattle.tt_bitmap.specs.Bands.{column}
use Rattle.tt_bitmap.proofs.Bands.{all_rows_painted, no_row_painted, one_row_painted, row_ends, row_put}
use Rattle.tt_picture.proofs.RowColumns.{in_row, within_row}
use Rattle.tt_picture.proofs.columns.copy_rows.Goals as goal

pub loop-r-init : goal.loop-r-init
loop-r-init c = record {
  bytes = c.row_bytes-bytes.ensures;
  wide = c.row_bytes-wide_bytes.ensures;
  painted = no_row_painted (stride c.args.frame.width) c.args.frame.height _ c.args.rows.now;
}

pub copy_row-requires-clause-row : goal.copy_row-requires-clause-row
copy_row-requires-clause-row c =
    let so_far = c.loop-r.invariant in
    let n = stride c.args.frame.width in
    let i = c.loop-r.r in
    let band = c.loop-r.rows in
    let whole : length band ≡ n * c.args.frame.height = so_far.painted.len ∙ c.requires.rows in
    let ends = row_ends n i c.args.frame.height band whole c.loop-r-test.true in
    let part : n * i + n - n * i ≡ n = omega arith in
    let cut : length (take (n * i + n - n * i) (drop (n * i) band)) ≡ n * i + n - n * i =
    length-take-le (n * i + n - n * i) (drop (n * i) band) (omega (arith, length-drop (n * i) band, ends)) in
    rw (so_far.bytes, cut, part) (omega arith)

pub copy_row-requires-clause-wide : goal.copy_row-requires-clause-wide
copy_row-requires-clause-wide c =
    let so_far = c.loop-r.invariant in
    let n = stride c.args.wide_frame.width in
    let i = c.loop-r.r in
    let band = c.args.wide.now in
    let ends = row_ends n i c.args.frame.height band c.requires.wide c.loop-r-test.true in
    let part : n * i + n - n * i ≡ n = omega arith in
    let cut : length (take (n * i + n - n * i) (drop (n * i) band)) ≡ n * i + n - n * i =
    length-take-le (n * i + n - n * i) (drop (n * i) band) (omega (arith, length-drop (n * i) band, ends)) in
    rw (so_far.wide, cut, part) (omega (arith, c.requires.within))

pub loop-r-preserved : goal.loop-r-preserved
loop-r-preserved c =
    let so_far = c.loop-r.invariant in
    let f = c.args.frame in
    let n = stride f.width in
    let m = stride c.args.wide_frame.width in
    let i = c.loop-r.r in
    let band = c.loop-r.rows in
    let wide = c.args.wide.now in
    let row = c.copy_row.new.row in
    let black : ℕ → ℕ → Bool = λ r c'. nat_lt c' f.width && column m wide r (c.args.from + c') in
    let whole : length band ≡ n * f.height = so_far.painted.len ∙ c.requires.rows in
    let ends = row_ends n i f.height band whole c.loop-r-test.true in
    let part : n * i + n - n * i ≡ n = omega arith in
    let wide_part : m * i + m - m * i ≡ m = omega arith in
    let inside : c.args.from + f.width ≤ 8 * m = omega (arith, c.requires.within) in
    let cut : length (take (n * i + n - n * i) (drop (n * i) band)) ≡ n * i + n - n * i =
    length-take-le (n * i + n - n * i) (drop (n * i) band) (omega (arith, length-drop (n * i) band, ends)) in
    let len = rw so_far.bytes at c.copy_row.ensures.len in
    let long : length row ≡ n = len ∙ cut ∙ part in
    let painted = rw (so_far.bytes, so_far.wide, wide_part) at c.copy_row.ensures.bits in
    rw (so_far.bytes, so_far.wide) (record {
      bytes = refl;
      wide = refl;
      painted = one_row_painted n f.height i black c.args.rows.now band _ so_far.painted
          (row_put n i (n * i + n - n * i) band row (black i) ends part long (λ k low. painted k
          ∙ ap (λ b. bit (take (n * i + n - n * i) (drop (n * i) band)) k || b) (within_row m i c.args.from f.width k wide inside)));
    })

pub returns : goal.returns
returns c =
    let f = c.args.frame in
    let n = stride c.args.wide_frame.width in
    let black : ℕ → ℕ → Bool = λ r c'. nat_lt c' f.width && column n c.args.wide.now r (c.args.from + c') in
    let end : c.loop-r.r ≡ f.height = omega (arith, c.loop-r-test.false, c.loop-r.auto.r-end) in
    all_rows_painted (stride f.width) f.height black c.args.rows.now c.loop-r.rows (rw end at c.loop-r.invariant.painted)
