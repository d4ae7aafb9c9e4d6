use Rattle.std.proofs.Common.{SFits, w32, w64, rules}
use Rattle.std.proofs.lemmas.Int.{to_z-of_z}
use Rattle.tt_render_lines.proofs.LayoutCalls.{size_before}
use Rattle.tt_render_lines.proofs.layout_texts.make_size_lines.Goals as goal

pub returns : goal.returns
returns c =
    let l = c.args.layout.now in
    let of_baseline : SFits w64 l.baseline = search rules in
    let of_rise : SFits w32 l.size.rise = search rules in
    let of_depth : SFits w32 l.size.depth = search rules in
    let long_depth : SFits w64 c.from.result = search rules in
    let long_rise : SFits w64 c.from-2.result = search rules in
    let depth = simp to_z-of_z at c.from.ensures in
    let rise = simp to_z-of_z at c.from-2.ensures in
    let first = simp to_z-of_z at c.push_i64.ensures.exact in
    let second = simp to_z-of_z at c.push_i64-2.ensures.exact in
    let third = simp to_z-of_z at c.push_i64-3.ensures.exact in
    rw (
      c.push_bytes-3.ensures.exact,
      c.push_u32-4.ensures.exact,
      c.push-5.ensures.exact,
      c.push_u32-3.ensures.exact,
      c.push_bytes-2.ensures.exact,
      third,
      c.push_bytes.ensures.exact,
      second,
      c.push-4.ensures.exact,
      first,
      c.push-3.ensures.exact,
      c.push_u32-2.ensures.exact,
      c.push-2.ensures.exact,
      c.push_u32.ensures.exact,
      c.push.ensures.exact,
      c.clear.ensures.exact,
      rise,
      depth,
    ) (size_before l)
