use Rattle.std.specs.Prelude.{◌≤◌, length}
use Rattle.tt_core.specs.Chains.{on-given, if-told}
use Rattle.tt_core.specs.Directory.{HasNo}
use Rattle.tt_core.specs.Limits.{point_limit}
use Rattle.tt_glyf.specs.Defects.{IsGlyphDefect}
use Rattle.tt_glyf.specs.GlyphData.{glyph_data_of}
use Rattle.tt_glyf.specs.Meaning.{IfSimple, IfComposite, HasProgram, AreEnds, AreRecords, IsAsWritten}
use Rattle.tt_glyf.specs.Raw.{raw_view}
use Rattle.tt_glyf.proofs.Defects.{glyph-broke, glyph-whole}
use Rattle.tt_glyf.proofs.Glyphs.{glyph-is, as-written}
use Rattle.tt_glyf.proofs.Reading.{if-read}
use Rattle.tt_glyf.proofs.glyf.Glyf.read.Goals as goal

pub returns-clause-exact : goal.returns-clause-exact
returns-clause-exact c = c.read_whole.ensures.exact

pub returns-clause-few : goal.returns-clause-few
returns-clause-few c =
    if-read c.read_whole.result (glyph_data_of c.args.self.now c.args.g)
    (λ d. IfSimple d (λ s. length s.points ≤ point_limit)) (returns-clause-exact c)
    (λ d was. (glyph-is c.args.self.now c.args.g d was).few)

pub returns-clause-ends : goal.returns-clause-ends
returns-clause-ends c =
    if-read c.read_whole.result (glyph_data_of c.args.self.now c.args.g)
    (λ d. IfSimple d (λ s. AreEnds (length s.points) s.ends)) (returns-clause-exact c)
    (λ d was. (glyph-is c.args.self.now c.args.g d was).ends)

pub returns-clause-records : goal.returns-clause-records
returns-clause-records c =
    if-read c.read_whole.result (glyph_data_of c.args.self.now c.args.g)
    (λ d. IfComposite d (λ x. AreRecords c.args.self.now.glyphs x.records)) (returns-clause-exact c)
    (λ d was. (glyph-is c.args.self.now c.args.g d was).records)

pub returns-clause-program : goal.returns-clause-program
returns-clause-program c =
    if-read c.read_whole.result (glyph_data_of c.args.self.now c.args.g) (λ d. HasProgram c.args.self.now.glyf d)
    (returns-clause-exact c) (λ d was. (glyph-is c.args.self.now c.args.g d was).program)

pub returns-clause-sound : goal.returns-clause-sound
returns-clause-sound c =
    on-given raw_view c.read_whole.result (glyph_data_of c.args.self.now c.args.g)
    (HasNo (IsGlyphDefect c.args.self.now c.args.g)) (returns-clause-exact c)
    (λ d was. glyph-whole c.args.self.now c.args.g d was)

pub returns-clause-fault : goal.returns-clause-fault
returns-clause-fault c =
    if-told raw_view c.read_whole.result (glyph_data_of c.args.self.now c.args.g)
    (IsGlyphDefect c.args.self.now c.args.g) (returns-clause-exact c) (λ f was. glyph-broke c.args.self.now c.args.g f was)

pub returns-clause-written : goal.returns-clause-written
returns-clause-written c =
    if-read c.read_whole.result (glyph_data_of c.args.self.now c.args.g)
    (λ d. IsAsWritten c.args.self.now c.args.g d) (returns-clause-exact c)
    (λ d was. as-written c.args.self.now c.args.g d was)
