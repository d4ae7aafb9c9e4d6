use Rattle.std.proofs.Common.{◌≡◌, ◌-◌, ◌<◌, length, slice_index, arith}
use Rattle.std.proofs.lemmas.List.{length-map}
use Rattle.tt_picture.specs.Glyphs.{Glyph, numbers_of}
use Rattle.tt_picture.proofs.Seats.{known_by, seated}
use Rattle.tt_picture.proofs.glyphs.Glyphs.place_of.Goals.{After-index}
use Rattle.tt_picture.proofs.glyphs.Glyphs.place_of.Goals as goal

pub index-requires : goal.index-requires
index-requires c =
    let known = known_by c.args.self.now.places.items (numbers_of c.args.self.now.made.items) c.args.number
    c.args.self.now.seated c.requires in
    omega (arith, known, c.from.ensures, c.args.self.now.places.ok.0)

-- the place that the table has
seat : (c : After-index) → (0 < c.index.result.now) × (c.index.result.now - 1 < length (numbers_of c.args.self.now.made.items))
    × (slice_index (numbers_of c.args.self.now.made.items) (c.index.result.now - 1) ≡ c.args.number)
seat c =
    let table = c.args.self.now.places.items in
    let numbers = numbers_of c.args.self.now.made.items in
    let known = known_by table numbers c.args.number c.args.self.now.seated c.requires in
    let read = rw c.from.ensures at c.index.ensures in
    seated table numbers c.args.number c.index.result.now known read c.args.self.now.seated c.requires

pub overflow_sub-result : goal.overflow_sub-result
overflow_sub-result c =
    let some = (seat (goal.at.overflow_sub-result c).After-index).0 in
    omega (arith, some, c.from-2.ensures)

pub returns-clause-within : goal.returns-clause-within
returns-clause-within c =
    let below = (seat (goal.at.returns-clause-within c).After-index).1 in
    let many = length-map c.args.self.now.made.items (λ (g : Glyph). g.number) in
    omega (arith, below, many, c.from-2.ensures)

pub returns-clause-number : goal.returns-clause-number
returns-clause-number c = rw c.from-2.ensures (seat (goal.at.returns-clause-number c).After-index).2
