use Rattle.std.proofs.Common.{◌≡◌, ◌∙◌, ℕ, Bool, ◌+◌, ◌-◌, ◌*◌, length, take, drop, slice_index, arith, length-drop, length-take-le}
use Rattle.tt_bitmap.specs.Words.{stamped, turned_by}
use Rattle.tt_bitmap.proofs.Bands.{all_rows_painted, no_row_painted, one_row_painted, row_ends, row_put}
use Rattle.tt_bitmap.proofs.Bytes.{few_shown}
use Rattle.tt_bitmap.proofs.strip.paint_few.Goals as goal

pub loop-i-init : goal.loop-i-init
loop-i-init c = no_row_painted c.args.at.bytes c.args.at.rows _ c.args.band.now

pub loop-i-preserved : goal.loop-i-preserved
loop-i-preserved c =
    let so_far = c.loop-i.invariant in
    let i = c.loop-i.i in
    let n = c.args.at.bytes in
    let rows = c.args.at.rows in
    let band = c.loop-i.band in
    let row = c.or_few.new.row in
    let black : ℕ → ℕ → Bool = λ i c'. stamped c.args.at.place (slice_index c.args.words.now (c.args.at.strips * i + c.args.at.strip)) c' in
    let whole : length band ≡ n * rows = so_far.len ∙ c.requires.band in
    let ends = row_ends n i rows band whole c.loop-i-test.true in
    let part : n * i + n - n * i ≡ n = omega arith in
    let cut : length (take (n * i + n - n * i) (drop (n * i) band)) ≡ n * i + n - n * i =
    length-take-le (n * i + n - n * i) (drop (n * i) band) (omega (arith, length-drop (n * i) band, ends)) in
    let long : length row ≡ n = c.or_few.ensures.len ∙ cut ∙ part in
    one_row_painted n rows i black c.args.band.now band _ so_far
    (row_put n i (n * i + n - n * i) band row (black i) ends part long (λ column inside.
    let eight : ℕ = turned_by c.args.at.place.mask c.args.at.place.turn (slice_index c.args.words.now (c.args.at.strips * i + c.args.at.strip)) in
    let shown = few_shown c.args.at.place.start eight column (length (take (n * i + n - n * i) (drop (n * i) band))) (omega (arith, c.args.at.fits, c.requires.few))
    (omega (arith, cut, part, c.requires.few)) (omega (arith, cut, part, inside)) in
    rw (c.turned-eight.ensures, shown) at (c.or_few.ensures.bits column)))

pub returns : goal.returns
returns c =
    let end : c.loop-i.i ≡ c.args.at.rows = omega (arith, c.loop-i-test.false, c.loop-i.auto.i-end) in
    all_rows_painted c.args.at.bytes c.args.at.rows _ c.args.band.now _ (rw end at c.loop-i.invariant)
