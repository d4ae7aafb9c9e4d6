use Rattle.std.proofs.Common.{◌≡◌, ◌∙◌, ◌*◌, ◌+◌, length, nat_lt, option_map, vec_items, sym}
use Rattle.tt_core.specs.Bits.{stride}
use Rattle.tt_picture.specs.Stamps.{picture_shows, rows_show, some_stamp_shows}
use Rattle.tt_picture.proofs.Bands.{band_is, rows_cut}
use Rattle.tt_picture.proofs.Blackened.{both_shown}
use Rattle.tt_picture.proofs.picture.Picture.next_rows.Goals as goal

pub returns-clause-rows : goal.returns-clause-rows
returns-clause-rows c =
    let f = c.self.inside.frame in
    let large = option_map vec_items c.self.inside.large in
    let stamps = c.self.inside.stamps.items in
    let from = c.self.inside.made in
    let count = c.args.count in
    let black = picture_shows f large stamps in
    let painted = rw c.deref.ensures.value at c.add_stamps.ensures in
    let room : length c.add_stamps.new.band ≡ stride f.width * count =
    painted.len ∙ c.write_rows.ensures.len ∙ (rw (← c.self.view_is) at c.requires.len) in
    let made = band_is f.width from count black c.add_stamps.new.band room
    (λ i within. (c.type_inv.band i).fits)
    (λ i k below inside. both_shown (nat_lt k f.width) (rows_show f large k (from + i)) (some_stamp_shows stamps k (from + i))
    _ _ (c.write_rows.ensures.columns i k below inside) (painted.columns i k below inside)) in
    rw (← c.self.view_is) (made ∙ sym (rows_cut f.width f.height from count black (rw (← c.self.view_is) at c.requires.within)))

pub add_stamps-requires : goal.add_stamps-requires
add_stamps-requires c = record {
  height = c.self.invariant.1;
  within = rw (← c.self.view_is) at c.requires.within;
  len = c.write_rows.ensures.len ∙ (rw (← c.self.view_is) at c.requires.len);
}
