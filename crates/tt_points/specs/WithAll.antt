-- No part of the standard: the whole instruction set changes no result of an instruction on one point or on lines,
-- except for the refusals of the profile.
use Rattle.std.proofs.Common.{ℤ, Bool, refl}
use Rattle.tt_state.specs.declared.graphics_state.GraphicsState.{GraphicsState}
use Rattle.tt_points_zones.specs.WithAll.{beside, StaysBeside, by_vectors}
use Rattle.tt_points_zones.specs.Motions.{direction, cur, moved}
use Rattle.tt_points_zones.specs.Points.{origin, point_in}
use Rattle.tt_points_zones.specs.WithAll.{with_all, Stays, StaysSame, same, chained, after, directed}
use Rattle.tt_points_zones.specs.Zones.{ZoneLists}
use Rattle.tt_points.specs.declared.distances.Keeping.{Keeping}
use Rattle.tt_points.specs.declared.lines.Ends.{Ends}
use Rattle.tt_points.specs.declared.measuring.Position.{Position}
use Rattle.tt_points.specs.ControlValues.{set_at, miap_distance, mirp_distance, chosen_from}
use Rattle.tt_points.specs.Distances.{single_width}
use Rattle.tt_points.specs.Moving.{kept, mdap_distance, kept_from, mdrp_distance}
use Rattle.tt_points.specs.Twilight.{placed_in}
use Rattle.tt_points.specs.declared.twilight.AlongVector.TheVariants as along
use Rattle.tt_points.specs.ControlValues as by_value
use Rattle.tt_points.specs.Lines as lines
use Rattle.tt_points.specs.Measuring as measuring
use Rattle.tt_points.specs.Moving as moving

mdap_stays : (round : Bool) (p : ℤ) (z : ZoneLists) (g : GraphicsState)
    → StaysBeside (moving.mdap round p z g) (moving.mdap round p z (with_all g))
unfolding moving.mdap mdap_distance
mdap_stays round p z g =
    after beside (point_in g.zp0 p z) _ _ (λ q.
    chained (λ m. m) beside (direction g) (direction (with_all g)) _ _ (directed g) (λ m.
    after beside (moved m (mdap_distance round g (cur m q)) q) _ _ (λ n. refl)))

mdrp_stays : (k : Keeping) (p : ℤ) (z : ZoneLists) (g : GraphicsState)
    → StaysBeside (moving.mdrp k p z g) (moving.mdrp k p z (with_all g))
unfolding moving.mdrp mdrp_distance single_width
mdrp_stays k p z g =
    after beside (point_in g.zp1 p z) _ _ (λ q.
    after beside (point_in g.zp0 g.rp0 z) _ _ (λ r.
    chained (λ m. m) beside (direction g) (direction (with_all g)) _ _ (directed g) (λ m.
    after beside (kept m _ q r) _ _ (λ n. refl))))

msirp_stays : (set_rp0 : Bool) (p d : ℤ) (z : ZoneLists) (g : GraphicsState)
    → StaysBeside (moving.msirp set_rp0 p d z g) (moving.msirp set_rp0 p d z (with_all g))
unfolding moving.msirp kept_from
msirp_stays set_rp0 p d z g =
    after beside (point_in g.zp1 p z) _ _ (λ q.
    after beside (point_in g.zp0 g.rp0 z) _ _ (λ r.
    chained (λ m. m) beside (direction g) (direction (with_all g)) _ _ (directed g) (λ m.
    after beside _ _ _ (λ y. after beside (kept_from m p d y g) _ _ (λ w. refl)))))

miap_stays : (round : Bool) (p c : ℤ) (z : ZoneLists) (g : GraphicsState)
    → StaysBeside (by_value.miap round p c z g) (by_value.miap round p c z (with_all g))
unfolding by_value.miap set_at miap_distance
miap_stays round p c z g =
    after beside (point_in g.zp0 p z) _ _ (λ q.
    chained (λ m. m) beside (direction g) (direction (with_all g)) _ _ (directed g) (λ m.
    after beside (placed_in g.zp0 along.Freedom m c origin q) _ _ (λ n. after beside (set_at round g m c n) _ _ (λ o. refl))))

mirp_stays : (k : Keeping) (p c : ℤ) (z : ZoneLists) (g : GraphicsState)
    → StaysBeside (by_value.mirp k p c z g) (by_value.mirp k p c z (with_all g))
unfolding by_value.mirp chosen_from mirp_distance single_width
mirp_stays k p c z g =
    after beside (point_in g.zp1 p z) _ _ (λ q.
    after beside (point_in g.zp0 g.rp0 z) _ _ (λ r.
    chained (λ m. m) beside (direction g) (direction (with_all g)) _ _ (directed g) (λ m.
    after beside _ _ _ (λ y. after beside (chosen_from k m p (single_width g c) y g) _ _ (λ w. refl)))))

gc_stays : (of : Position) (p : ℤ) (z : ZoneLists) (g : GraphicsState)
    → StaysSame (measuring.gc of p z g) (measuring.gc of p z (with_all g))
unfolding measuring.gc
gc_stays of p z g = same (measuring.gc of p z g)

md_stays : (between : Position) (p2 p1 : ℤ) (z : ZoneLists) (g : GraphicsState)
    → StaysSame (measuring.md between p2 p1 z g) (measuring.md between p2 p1 z (with_all g))
unfolding measuring.md
md_stays between p2 p1 z g = same (measuring.md between p2 p1 z g)

-- one point is moved
scfs_stays : (p v : ℤ) (z : ZoneLists) (g : GraphicsState)
    → StaysSame (measuring.scfs p v z g) (measuring.scfs p v z (with_all g))
unfolding measuring.scfs
scfs_stays p v z g = after (λ w. w) (point_in g.zp2 p z) _ _ (λ q. by_vectors g _)

utp_stays : (p : ℤ) (z : ZoneLists) (g : GraphicsState)
    → StaysSame (measuring.utp p z g) (measuring.utp p z (with_all g))
unfolding measuring.utp
utp_stays p z g = same (measuring.utp p z g)

spvtl_stays : (turned : Bool) (p1 p2 : ℤ) (z : ZoneLists) (g : GraphicsState)
    → Stays with_all (lines.spvtl turned p1 p2 z g) (lines.spvtl turned p1 p2 z (with_all g))
unfolding lines.spvtl
spvtl_stays turned p1 p2 z g = after with_all (lines.two_points p1 p2 z g) _ _ (λ t. refl)

sfvtl_stays : (turned : Bool) (p1 p2 : ℤ) (z : ZoneLists) (g : GraphicsState)
    → Stays with_all (lines.sfvtl turned p1 p2 z g) (lines.sfvtl turned p1 p2 z (with_all g))
unfolding lines.sfvtl
sfvtl_stays turned p1 p2 z g = after with_all (lines.two_points p1 p2 z g) _ _ (λ t. refl)

sdpvtl_stays : (turned : Bool) (p1 p2 : ℤ) (z : ZoneLists) (g : GraphicsState)
    → Stays with_all (lines.sdpvtl turned p1 p2 z g) (lines.sdpvtl turned p1 p2 z (with_all g))
unfolding lines.sdpvtl
sdpvtl_stays turned p1 p2 z g = after with_all (lines.two_points p1 p2 z g) _ _ (λ t. refl)

isect_stays : (p : ℤ) (a b : Ends) (z : ZoneLists) (g : GraphicsState)
    → StaysSame (lines.isect p a b z g) (lines.isect p a b z (with_all g))
unfolding lines.isect
isect_stays p a b z g = same (lines.isect p a b z g)

alignpts_stays : (p1 p2 : ℤ) (z : ZoneLists) (g : GraphicsState)
    → StaysSame (lines.alignpts p1 p2 z g) (lines.alignpts p1 p2 z (with_all g))
unfolding lines.alignpts
alignpts_stays p1 p2 z g =
    after (λ w. w) (point_in g.zp1 p1 z) _ _ (λ a.
    after (λ w. w) (point_in g.zp0 p2 z) _ _ (λ b. by_vectors g _))

pub record SinglesStay (z : ZoneLists) (g : GraphicsState) : Type 0 where
  pub mdap : (round : Bool) (p : ℤ) → StaysBeside (moving.mdap round p z g) (moving.mdap round p z (with_all g))
  pub mdrp : (k : Keeping) (p : ℤ) → StaysBeside (moving.mdrp k p z g) (moving.mdrp k p z (with_all g))
  pub msirp : (set_rp0 : Bool) (p d : ℤ)
      → StaysBeside (moving.msirp set_rp0 p d z g) (moving.msirp set_rp0 p d z (with_all g))
  pub miap : (round : Bool) (p c : ℤ)
      → StaysBeside (by_value.miap round p c z g) (by_value.miap round p c z (with_all g))
  pub mirp : (k : Keeping) (p c : ℤ) → StaysBeside (by_value.mirp k p c z g) (by_value.mirp k p c z (with_all g))
  pub gc : (of : Position) (p : ℤ) → StaysSame (measuring.gc of p z g) (measuring.gc of p z (with_all g))
  pub md : (between : Position) (p2 p1 : ℤ)
      → StaysSame (measuring.md between p2 p1 z g) (measuring.md between p2 p1 z (with_all g))
  pub scfs : (p v : ℤ) → StaysSame (measuring.scfs p v z g) (measuring.scfs p v z (with_all g))
  pub utp : (p : ℤ) → StaysSame (measuring.utp p z g) (measuring.utp p z (with_all g))
  pub spvtl : (turned : Bool) (p1 p2 : ℤ)
      → Stays with_all (lines.spvtl turned p1 p2 z g) (lines.spvtl turned p1 p2 z (with_all g))
  pub sfvtl : (turned : Bool) (p1 p2 : ℤ)
      → Stays with_all (lines.sfvtl turned p1 p2 z g) (lines.sfvtl turned p1 p2 z (with_all g))
  pub sdpvtl : (turned : Bool) (p1 p2 : ℤ)
      → Stays with_all (lines.sdpvtl turned p1 p2 z g) (lines.sdpvtl turned p1 p2 z (with_all g))
  pub isect : (p : ℤ) (a b : Ends) → StaysSame (lines.isect p a b z g) (lines.isect p a b z (with_all g))
  pub alignpts : (p1 p2 : ℤ) → StaysSame (lines.alignpts p1 p2 z g) (lines.alignpts p1 p2 z (with_all g))

pub singles_stay : (z : ZoneLists) (g : GraphicsState) → SinglesStay z g
singles_stay z g = record {
  mdap = λ round p. mdap_stays round p z g;
  mdrp = λ k p. mdrp_stays k p z g;
  msirp = λ set_rp0 p d. msirp_stays set_rp0 p d z g;
  miap = λ round p c. miap_stays round p c z g;
  mirp = λ k p c. mirp_stays k p c z g;
  gc = λ of p. gc_stays of p z g;
  md = λ between p2 p1. md_stays between p2 p1 z g;
  scfs = λ p v. scfs_stays p v z g;
  utp = λ p. utp_stays p z g;
  spvtl = λ turned p1 p2. spvtl_stays turned p1 p2 z g;
  sfvtl = λ turned p1 p2. sfvtl_stays turned p1 p2 z g;
  sdpvtl = λ turned p1 p2. sdpvtl_stays turned p1 p2 z g;
  isect = λ p a b. isect_stays p a b z g;
  alignpts = λ p1 p2. alignpts_stays p1 p2 z g;
}
