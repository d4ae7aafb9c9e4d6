use Rattle.std.proofs.Common.{length-set, subst, sym, SFits, w32}
use Rattle.std.proofs.lemmas.Int.{to_z-of_z}
use Rattle.std.proofs.lemmas.List.Elements.{All-set}
use Rattle.tt_points_zones.specs.Zones.{AreContours, IsPoint}
use Rattle.tt_points_zones.proofs.zones.Zones.set.Goals as goal

pub returns-in-Twilight : goal.returns-in-Twilight
returns-in-Twilight c =
    let n : SFits w32 c.args.n = c.ranges.n in
    record { exact = rw c.in-Twilight.is (simp to_z-of_z) }

pub invariant_of-self-clause-twilight_points : goal.invariant_of-self-clause-twilight_points
invariant_of-self-clause-twilight_points c =
    All-set IsPoint c.args.self.now.twilight.items _ c.args.p c.requires.point c.args.self.now.twilight_points

pub invariant_of-self-in-Glyph-clause-glyph_points : goal.invariant_of-self-in-Glyph-clause-glyph_points
invariant_of-self-in-Glyph-clause-glyph_points c =
    All-set IsPoint c.args.self.now.glyph.items _ c.args.p c.requires.point c.args.self.now.glyph_points

-- the contours fit a glyph with as many points
pub invariant_of-self-in-Glyph-clause-ranges : goal.invariant_of-self-in-Glyph-clause-ranges
invariant_of-self-in-Glyph-clause-ranges c =
    subst (AreContours 0 c.args.self.now.contours.items) (sym (length-set c.args.self.now.glyph.items _ c.args.p))
    c.args.self.now.ranges
