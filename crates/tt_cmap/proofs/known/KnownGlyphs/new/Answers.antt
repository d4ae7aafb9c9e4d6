use Rattle.std.proofs.Common.{◌≡◌, ◌<◌}
use Rattle.std.proofs.lemmas.List.Elements.{All-replicate}
use Rattle.tt_cmap.specs.declared.known.Known.{Known}
use Rattle.tt_cmap.specs.Maps.{glyph_by, glyph_count}
use Rattle.tt_cmap.proofs.known.KnownGlyphs.new.Goals as goal

pub invariant_of-result : goal.invariant_of-result
invariant_of-result c =
    let cmap = c.args.cmap.now in
    All-replicate (λ (e : Known). (e.glyph ≡ glyph_by cmap e.code) × (e.glyph < glyph_count cmap)) 128
    (record { code = 0; glyph = c.glyph.result }) (c.glyph.ensures.exact, c.glyph.ensures.bound)
