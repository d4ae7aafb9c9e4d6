use Rattle.std.proofs.Common.{◌≡◌, ◌∙◌, ap, ◌+◌, ◌<◌, true, false, length, get_or, map, slice_index, [], ◌∷◌, arith, length-append}
use Rattle.std.proofs.lemmas.List.{get_or_default, length-set}
use Rattle.std.proofs.lemmas.List.Elements.{All-push}
use Rattle.tt_picture.specs.Distinct.{distinct, is_among}
use Rattle.tt_picture.proofs.FirstMet.{met_again, met_first}
use Rattle.tt_picture.proofs.Seats.{places_more}
use Rattle.tt_strike.proofs.Seated.{is_seated, none_of, not_seated}
use Rattle.tt_strike.proofs.distinct_glyphs.distinct.Goals as goal
use Rattle.tt_strike.proofs.distinct_glyphs.distinct.Goals.{then-index-eq0, else-index-eq0}

pub loop-placed-preserved : goal.loop-placed-preserved
loop-placed-preserved c =
    let so_far = c.loop-placed.invariant in
    let line = c.args.line.now in
    let i = c.loop-placed.placed-index in
    let table = c.loop-placed.places.items in
    let numbers = c.loop-placed.numbers.items in
    let all = distinct (map (λ g. g.0) line) in
    let below : i < length line = c.loop-placed-test.true in
    let g = (get_or line i (0, 0)).0 in
    let known : g < length table = rw so_far.room (c.requires.known i (0, 0) below) in
    let seat : c.index.result.now ≡ slice_index table g = rw c.from-in-loop-placed.ensures at c.index.ensures
    ∙ get_or_default table g c.index.result.now 0 known in
    elim c.if-index-eq0.branch [
      | then-index-eq0 w ↦
          let none : slice_index table g ≡ 0 = omega (arith, seat, w.if-index-eq0.true) in
          let absent : is_among g numbers ≡ false = not_seated table numbers g so_far.places none in
          let more = places_more table numbers g known (none_of numbers g absent) so_far.places in
          let count : w.len.result ≡ length numbers + 1 = w.len.ensures ∙ w.push_reserved.new.self.ok.0
          ∙ ap length w.push_reserved.ensures.items ∙ length-append numbers (g ∷ []) in
          rw (w.places-is, w.from-then-index-eq0.ensures, w.numbers-is, w.push_reserved.ensures.items, count) (record {
            room = length-set table g (length numbers + 1) ∙ so_far.room;
            known = All-push (λ n. n < c.args.glyphs) numbers g so_far.known (c.requires.known i (0, 0) below);
            few = omega (arith, so_far.few, length-append numbers (g ∷ []));
            spare = rw w.push_reserved.ensures.capacity so_far.spare;
            places = more;
            numbers = met_first numbers all line i below absent so_far.numbers;
          })
      | else-index-eq0 w ↦
          let some : 0 < slice_index table g = omega (arith, seat, w.if-index-eq0.false) in
          let there : is_among g numbers ≡ true = is_seated table numbers g so_far.places some in
          rw (w.places-is, w.numbers-is) (record {
            room = so_far.room;
            known = so_far.known;
            few = omega (arith, so_far.few);
            spare = so_far.spare;
            places = so_far.places;
            numbers = met_again numbers all line i below there so_far.numbers;
          })
    ]
