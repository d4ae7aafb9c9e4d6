use Rattle.std.proofs.Common.{◌≡◌, ◌∙◌, ◌<◌, ◌≤◌, get_or, length, refl, sym, SFits, w32, of_z, to_z, arith, rules}
use Rattle.std.proofs.lemmas.Int.{to_z-of_z}
use Rattle.std.proofs.lemmas.List.{take_all, take_more}
use Rattle.tt_strike.specs.Measures.{character_at, characters_at}
use Rattle.tt_strike.proofs.Characters.{character_of, length-characters, step_at}
use Rattle.tt_strike.proofs.sized.SizedFace.characters.Goals as goal

pub loop-i-preserved : goal.loop-i-preserved
unfolding step_at
loop-i-preserved c = λ step inked steps same.
    let m = c.args.self.now.face.metrics in
    let f = c.args.frame in
    let line = c.args.line.now in
    let i = c.loop-i.i in
    let within : i < length line = omega (arith, c.loop-i-test.true) in
    let all = characters_at m step f inked line in
    let d = c.character.result in
    let many = length-characters m step f inked line in
    let inside : i < length all = omega (arith, many, within) in
    let kerned = rw (c.metrics.ensures, c.face.ensures) at c.kerning_at-kerning.ensures.exact in
    let fits : SFits w32 c.kerning_at-kerning.result = search rules in
    let narrow : to_z w32 (of_z w32 c.kerning_at-kerning.result) ≡ c.kerning_at-kerning.result = simp to_z-of_z refl in
    let one : c.character.result ≡ character_at f inked (get_or line i (0, 0)) (step_at m step line i) =
    rw (narrow, kerned) at (c.character.ensures step inked steps same) in
    let there : get_or all i d ≡ c.character.result = character_of m step f inked line i d within ∙ sym one in
    rw (c.in_ok-push.ensures.items, c.loop-i.invariant step inked steps same, take_more all i d inside, there) refl

pub returns : goal.returns
returns c = λ step inked steps same.
    let m = c.args.self.now.face.metrics in
    let line = c.args.line.now in
    let all = characters_at m step c.args.frame inked line in
    let many = length-characters m step c.args.frame inked line in
    let over : length all ≤ c.loop-i.i = omega (arith, many, c.loop-i-test.false) in
    c.loop-i.invariant step inked steps same ∙ take_all c.loop-i.i all over
