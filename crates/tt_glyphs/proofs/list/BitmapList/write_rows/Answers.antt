use Rattle.std.proofs.Common.{◌≡◌, ◌∙◌, ◌+◌, ◌-◌, ◌<◌, ◌≤◌, sym, ap, drop, get_or, length, take, arith, get_or-set_other, length-drop, length-take-le}
use Rattle.std.specs.List.{flat_map, sum_by}
use Rattle.std.proofs.lemmas.List.{get_or_default, length-set, take_all}
use Rattle.std.proofs.lemmas.Slice.{drop-put_mid}
use Rattle.tt_glyphs.specs.Drawn.{DrawnFits, drawn_rows}
use Rattle.tt_glyphs.specs.Requests.{Bitmaps}
use Rattle.tt_glyphs.proofs.RowsWritten.{bytes_of, bytes_within, drawn_length, next_bytes, next_rows}
use Rattle.tt_glyphs.proofs.list.BitmapList.write_rows.Goals as goal
use borrow.Rule.Slice.PartMut.{put_mid, same_len_mid}

pub slice_bounds-write-end : goal.slice_bounds-write-end
slice_bounds-write-end c =
    let so_far = c.loop-i.invariant in
    let ds = c.self.inside.drawn.items in
    let i = c.loop-i.i in
    let g = c.index.result.now in
    let below : i < length ds = omega (arith, c.loop-i-test.true, so_far.end) in
    let own : g ≡ get_or ds i g = c.index.ensures ∙ so_far.left i g (omega arith) below in
    let bytes : c.bytes.result ≡ bytes_of (get_or ds i g) = c.bytes.ensures.exact ∙ ap bytes_of own in
    let at : c.loop-i.at ≡ sum_by bytes_of (take i ds) = so_far.at in
    let all : c.self.inside.wanted ≡ sum_by bytes_of ds = c.self.invariant.2 in
    let wanted : c.self.inside.wanted ≡ c.args.self.wanted = ap (λ (b : Bitmaps). b.wanted) c.self.view_is in
    let within = bytes_within ds i g below in
    omega (arith, at, bytes, all, wanted, within, c.requires, so_far.len)

pub loop-i-preserved : goal.loop-i-preserved
loop-i-preserved c =
    let so_far = c.loop-i.invariant in
    let ds = c.self.inside.drawn.items in
    let i = c.loop-i.i in
    let g = c.index.result.now in
    let w = c.index_mut.result.now in
    let room = c.loop-i.room in
    let row = c.write.new.rows in
    let k = c.loop-i.at + c.bytes.result - c.loop-i.at in
    let below : i < length ds = omega (arith, c.loop-i-test.true, so_far.end) in
    let own : g ≡ get_or ds i g = c.index.ensures ∙ so_far.left i g (omega arith) below in
    let lent : w ≡ get_or ds i g = c.index_mut.ensures.value ∙ so_far.left i w (omega arith) below ∙ get_or_default ds i w g below in
    let fits : DrawnFits (get_or ds i g) = c.self.invariant.0 i g below in
    let bytes : c.bytes.result ≡ bytes_of (get_or ds i g) = c.bytes.ensures.exact ∙ ap bytes_of own in
    let is : row ≡ drawn_rows (get_or ds i g) = c.write.ensures.rows ∙ ap drawn_rows lent in
    let long : length row ≡ c.bytes.result = ap length is ∙ drawn_length (get_or ds i g) fits ∙ sym bytes in
    let at : c.loop-i.at ≡ sum_by bytes_of (take i ds) = so_far.at in
    let all : c.self.inside.wanted ≡ sum_by bytes_of ds = c.self.invariant.2 in
    let wanted : c.self.inside.wanted ≡ c.args.self.wanted = ap (λ (b : Bitmaps). b.wanted) c.self.view_is in
    let within = bytes_within ds i g below in
    let next = next_bytes ds i g below in
    let ends : c.loop-i.at + c.bytes.result ≤ c.args.self.wanted = omega (arith, at, bytes, all, wanted, within) in
    let start : c.loop-i.at ≤ length room = omega (arith, ends, c.requires, so_far.len) in
    let part : k ≡ c.bytes.result = omega arith in
    let cut : length (take k (drop c.loop-i.at room)) ≡ k =
    length-take-le k (drop c.loop-i.at room) (omega (arith, length-drop c.loop-i.at room, ends, part, c.requires, so_far.len)) in
    record {
      end = so_far.end;
      many = length-set c.loop-i.drawn.items i c.write.new.self ∙ so_far.many;
      left = λ n d low high. get_or-set_other c.loop-i.drawn.items i n c.write.new.self d (λ e. absurd (omega (arith, e, low)))
          ∙ so_far.left n d (omega (arith, low)) high;
      at = omega (arith, at, bytes, next);
      len = same_len_mid c.loop-i.at k room row (omega (arith, cut, part, long)) ∙ so_far.len;
      rows = ap (λ n. take (c.loop-i.at + n) (put_mid c.loop-i.at k room row)) (sym long)
          ∙ next_rows ds i c.loop-i.at k g room row below start so_far.rows is;
      rest = drop-put_mid c.loop-i.at k room row c.args.self.wanted (omega (arith, ends, part)) start (omega (arith, long, part))
          ∙ so_far.rest;
      room = c.write.ensures.room ∙ so_far.room;
    }

pub returns-clause-rows : goal.returns-clause-rows
returns-clause-rows c =
    let so_far = c.loop-i.invariant in
    let ds = c.self.inside.drawn.items in
    let i = c.loop-i.i in
    let over : length ds ≤ i = omega (arith, c.loop-i-test.false, so_far.end) in
    let whole : take i ds ≡ ds = take_all i ds over in
    let at : c.loop-i.at ≡ c.self.inside.wanted = so_far.at ∙ ap (sum_by bytes_of) whole ∙ sym c.self.invariant.2 in
    let rows : take c.loop-i.at c.loop-i.room ≡ flat_map drawn_rows ds = so_far.rows ∙ ap (flat_map drawn_rows) whole in
    rw (← c.self.view_is) (rw at at rows)

pub returns-clause-len : goal.returns-clause-len
returns-clause-len c = c.loop-i.invariant.len
