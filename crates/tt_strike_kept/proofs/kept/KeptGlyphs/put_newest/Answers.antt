use Rattle.std.proofs.Common.{◌≡◌, ◌∙◌, ◌+◌, ◌≤◌, ◌<◌, ◌^◌, None, sym, inl, nat_eq, rules, arith}
use Rattle.std.specs.Map.{lookup}
use Rattle.tt_strike_kept.specs.Kept.{bytes_in, bytes_of}
use Rattle.tt_strike_kept.proofs.Fitting.{bytes_more, on_ok, put_first}
use Rattle.tt_strike_kept.proofs.kept.KeptGlyphs.put_newest.Goals as goal

pub invariant_of-self : goal.invariant_of-self
invariant_of-self c =
    let was = c.self.inside.glyphs in
    let held = c.self.invariant in
    let none : lookup (nat_eq c.args.number) was.entries ≡ None = rw (← c.self.view_is) at c.requires.none in
    let room : c.args.room + bytes_of c.args.glyph ≡ c.self.inside.most = rw (← c.self.view_is) at c.requires.room in
    let left : bytes_in was.entries ≤ c.args.room = rw (← c.self.view_is) at c.requires.left in
    let fits : c.self.inside.most < 2 ^ 64 = search rules in
    let within : bytes_in was.entries ≤ c.self.inside.most = omega (arith, left, room) in
    let first = put_first was c.args.number c.args.glyph c.self.inside.most none within fits held.2 in
    let put = on_ok c.put.result _ c.put.ensures.entries (sym c.is_ok.ensures.value ∙ c.if-is_ok.true) in
    let bytes = bytes_more (c.args.number, c.args.glyph) was.entries in
    rw (put, first) (omega (arith, bytes, held.0, room), omega (arith, held.0, room, left), held.2)

pub returns-then-is_ok-clause-entries : goal.returns-then-is_ok-clause-entries
returns-then-is_ok-clause-entries c =
    let was = c.self.inside.glyphs in
    let held = c.self.invariant in
    let none : lookup (nat_eq c.args.number) was.entries ≡ None = rw (← c.self.view_is) at c.requires.none in
    let fits : c.self.inside.most < 2 ^ 64 = search rules in
    let within : bytes_in was.entries ≤ c.self.inside.most = omega (arith, held.0, held.1) in
    let first = put_first was c.args.number c.args.glyph c.self.inside.most none within fits held.2 in
    let put = on_ok c.put.result _ c.put.ensures.entries (sym c.is_ok.ensures.value ∙ c.if-is_ok.true) in
    rw (put, ← c.self.view_is) (inl first)
