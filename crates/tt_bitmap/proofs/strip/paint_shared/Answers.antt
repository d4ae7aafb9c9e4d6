use Rattle.std.proofs.Common.{◌≡◌, ◌+◌, ◌-◌, ◌*◌, ◌&&◌, nat_lt, ap, Bool, ℕ, length, take, drop, length-drop, sym, ◌∙◌, arith, refl}
use Rattle.std.proofs.lemmas.List.{take_all}
use Rattle.tt_bitmap.specs.Bitmaps.{shown_in}
use Rattle.tt_bitmap.proofs.Bands.{part_painted, repainted}
use Rattle.tt_bitmap.proofs.Strips.{one_word_rows, rows_dropped}
use Rattle.tt_bitmap.proofs.strip.paint_shared.Goals as goal

pub paint_whole-requires-clause-whole : goal.paint_whole-requires-clause-whole
paint_whole-requires-clause-whole c = sym c.is_whole.ensures ∙ c.if-is_whole.true

pub paint_whole-requires-clause-words : goal.paint_whole-requires-clause-words
paint_whole-requires-clause-words c =
    let row = c.args.row in
    let words = c.args.words.now in
    let own = c.args.shared.own in
    let one = one_word_rows row.at row.columns row.width row.bytes (own + c.args.shared.count) (sym c.is_whole.ensures ∙ c.if-is_whole.true) in
    let all : take (length words - own) (drop own words) ≡ drop own words = take_all (length words - own) (drop own words) (omega (arith, length-drop own words)) in
    rw all (omega (arith, one, c.requires.words, length-drop own words))

pub returns-then-is_whole : goal.returns-then-is_whole
returns-then-is_whole c = λ rows.
    let row = c.args.row in
    let n = row.columns in
    let words = c.args.words.now in
    let bytes = row.bytes in
    let own = c.args.shared.own in
    let first = c.args.shared.first in
    let count = c.args.shared.count in
    let is_own = sym (one_word_rows row.at n row.width bytes own (sym c.is_whole.ensures ∙ c.if-is_whole.true)) in
    let all : take (length words - own) (drop own words) ≡ drop own words = take_all (length words - own) (drop own words) (omega (arith, length-drop own words)) in
    let part = repainted bytes count _ (λ i k. nat_lt k row.width && shown_in words n row.at n (own + i) k) _ c.paint_whole.new.band c.paint_whole.ensures
    (λ i j below. ap (λ (x : Bool). nat_lt j row.width && x) (rw all (rows_dropped words n n own i j own row.at is_own))) in
    part_painted bytes rows first count (bytes * first) _ (λ i k. nat_lt k row.width && shown_in words n row.at n (own + i) k) c.args.band.now c.paint_whole.new.band
    refl (omega arith) (omega (arith, c.requires.band)) part

pub returns : goal.returns
returns c = λ rows.
    let n = c.args.row.columns in
    let words = c.args.words.now in
    let bytes = c.args.row.bytes in
    let own = c.args.shared.own in
    let first = c.args.shared.first in
    let count = c.args.shared.count in
    let k : ℕ = c.strips_of.result * own in
    let all : take (length words - k) (drop k words) ≡ drop k words = take_all (length words - k) (drop k words) (omega (arith, length-drop k words)) in
    let part = repainted bytes count _ (λ i k. nat_lt k c.args.row.width && shown_in words n c.args.row.at n (own + i) k) _ c.paint_words.new.band c.paint_words.ensures
    (λ i j below. ap (λ (x : Bool). nat_lt j c.args.row.width && x) (rw all (rows_dropped words n n own i j k c.args.row.at (ap (λ m. m * own) c.strips_of.ensures)))) in
    part_painted bytes rows first count (bytes * first) _ (λ i k. nat_lt k c.args.row.width && shown_in words n c.args.row.at n (own + i) k) c.args.band.now c.paint_words.new.band
    refl (omega arith) (omega (arith, c.requires.band)) part
