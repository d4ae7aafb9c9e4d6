use Rattle.std.proofs.Common.{◌≡◌, ◌∙◌, sym, ℕ, Bool, ◌+◌, ◌-◌, ◌*◌, ◌&&◌, nat_lt, length, take, drop, refl, arith, length-drop, length-take-le}
use Rattle.tt_core.specs.Bits.{stride}
use Rattle.tt_scan_dropouts.specs.Pictures.{is_among}
use Rattle.tt_bitmap.proofs.Bands.{all_rows_painted, no_row_painted, one_row_painted, row_ends, row_put}
use Rattle.tt_picture.proofs.Bands.{no_dropout_painted}
use Rattle.tt_picture.proofs.large.add_dropouts.Goals as goal

pub returns-then-is_empty : goal.returns-then-is_empty
returns-then-is_empty c =
    no_dropout_painted (stride c.args.frame.width) c.args.frame.height c.args.frame.width c.args.dropouts.now c.args.rows.now
    (sym c.if-is_empty.true ∙ c.is_empty.ensures)

pub loop-r-init : goal.loop-r-init
loop-r-init c = record {
  bytes = c.row_bytes-bytes.ensures;
  painted = no_row_painted (stride c.args.frame.width) c.args.frame.height _ c.args.rows.now;
}

pub blacken_dropouts-requires-clause-width : goal.blacken_dropouts-requires-clause-width
blacken_dropouts-requires-clause-width c =
    let so_far = c.loop-r.invariant in
    let n = stride c.args.frame.width in
    let i = c.loop-r.r in
    let band = c.loop-r.rows in
    let whole : length band ≡ n * c.args.frame.height = so_far.painted.len ∙ c.requires.rows in
    let ends = row_ends n i c.args.frame.height band whole c.loop-r-test.true in
    let part : n * i + n - n * i ≡ n = omega arith in
    let cut : length (take (n * i + n - n * i) (drop (n * i) band)) ≡ n * i + n - n * i =
    length-take-le (n * i + n - n * i) (drop (n * i) band) (omega (arith, length-drop (n * i) band, ends)) in
    rw (so_far.bytes, cut, part) (omega arith)

pub loop-r-preserved : goal.loop-r-preserved
loop-r-preserved c =
    let so_far = c.loop-r.invariant in
    let f = c.args.frame in
    let n = stride f.width in
    let i = c.loop-r.r in
    let band = c.loop-r.rows in
    let row = c.blacken_dropouts.new.row in
    let black : ℕ → ℕ → Bool = λ r c'. nat_lt c' f.width && is_among c.args.dropouts.now c' r in
    let whole : length band ≡ n * f.height = so_far.painted.len ∙ c.requires.rows in
    let ends = row_ends n i f.height band whole c.loop-r-test.true in
    let part : n * i + n - n * i ≡ n = omega arith in
    let cut : length (take (n * i + n - n * i) (drop (n * i) band)) ≡ n * i + n - n * i =
    length-take-le (n * i + n - n * i) (drop (n * i) band) (omega (arith, length-drop (n * i) band, ends)) in
    let len = rw so_far.bytes at c.blacken_dropouts.ensures.len in
    let long : length row ≡ n = len ∙ cut ∙ part in
    let painted = rw so_far.bytes at c.blacken_dropouts.ensures.bits in
    rw so_far.bytes (record {
      bytes = refl;
      painted = one_row_painted n f.height i black c.args.rows.now band _ so_far.painted
          (row_put n i (n * i + n - n * i) band row (black i) ends part long (λ column inside. painted column));
    })

pub returns : goal.returns
returns c =
    let f = c.args.frame in
    let black : ℕ → ℕ → Bool = λ r c'. nat_lt c' f.width && is_among c.args.dropouts.now c' r in
    let end : c.loop-r.r ≡ f.height = omega (arith, c.loop-r-test.false, c.loop-r.auto.r-end) in
    all_rows_painted (stride f.width) f.height black c.args.rows.now c.loop-r.rows (rw end at c.loop-r.invariant.painted)
