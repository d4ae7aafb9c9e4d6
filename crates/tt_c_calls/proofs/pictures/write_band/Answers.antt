use Rattle.std.proofs.Common.{◌≡◌, ◌+◌, ◌*◌, arith}
use Rattle.tt_core.specs.Bits.{stride}
use Rattle.tt_c_calls.specs.Pictures.{band_of, band_rows}
use Rattle.tt_c_calls.proofs.Rows.{band_long, band_written, none_written}
use Rattle.tt_c_calls.proofs.pictures.write_band.Goals as goal
use Rattle.tt_c_calls.proofs.pictures.write_band.Goals.{then-count-gt0, else-count-gt0}

pub returns-clause-done : goal.returns-clause-done
returns-clause-done c =
    let p = c.args.picture.now in
    let first = c.args.first in
    let n = stride p.frame.width in
    let bytes = c.row_bytes.ensures in
    let band = band_of p first c.args.count in
    let count : c.min-count.result ≡ band_rows p.frame.height first c.args.count =
    rw (c.saturating_sub.ensures, c.height.ensures.exact) at c.min-count.ensures in
    let long = band_long n first c.args.count p.frame.height p.rows c.requires.rows in
    let answer = rw (bytes, c.from-2.ensures, count, ← long) at c.sized-2.ensures in
    λ done. elim c.if-count-gt0.branch [
      | then-count-gt0 w ↦
          let begun : p.made + first ≡ first = omega (arith, c.requires.made) in
          let made = rw (w.skip_rows.ensures, begun, count) at w.next_rows.ensures.rows in
          record {
            rows = band_written (n * band_rows p.frame.height first c.args.count) band c.args.room.now
                c.if-count-gt0.room (rw (made, bytes, count) at w.room-is) long;
            picture = c.told_of.ensures;
            answer = answer;
          }
      | else-count-gt0 w ↦ record {
        rows = none_written n (band_rows p.frame.height first c.args.count) band c.args.room.now c.if-count-gt0.room
            w.room-is (rw count at w.if-count-gt0.false) long;
        picture = c.told_of.ensures;
        answer = answer;
      }
    ]

pub returns-then-wanted-room-clause-small : goal.returns-then-wanted-room-clause-small
returns-then-wanted-room-clause-small c =
    let p = c.args.picture.now in
    let first = c.args.first in
    let bytes = c.row_bytes.ensures in
    let count : c.min-count.result ≡ band_rows p.frame.height first c.args.count =
    rw (c.saturating_sub.ensures, c.height.ensures.exact) at c.min-count.ensures in
    let long = band_long (stride p.frame.width) first c.args.count p.frame.height p.rows c.requires.rows in
    λ _. (rw (bytes, count, ← long) at c.if-wanted-room.true, rw (bytes, c.from.ensures, count, ← long) at c.sized.ensures)
