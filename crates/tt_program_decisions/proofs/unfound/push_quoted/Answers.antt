use Rattle.std.proofs.Common.{◌≡◌, ◌∙◌, ◌++◌, ◌∷◌, [], flat_map, string_bytes, arith, rules}
use Rattle.std.proofs.lemmas.Str.Pattern.{split_parts}
use Rattle.tt_program_decisions.specs.Unfound.{quoted, quoted_byte}
use Rattle.tt_program_decisions.proofs.Quotes.{last_part, one_part, where_put}
use Rattle.tt_program_decisions.proofs.unfound.push_quoted.Goals as goal

pub loop-front-preserved : goal.loop-front-preserved
loop-front-preserved c =
    let rest = c.loop-front.rest.now in
    let front = c.in-Some.front.now in
    let behind = c.in-Some.behind.now in
    let parts = rw c.in-Some.is at (split_parts 39 rest c.split_once.result c.split_once.ensures.cases (omega arith)) in (
      search rules,
      rw (c.in_ok-push_str-3.ensures.bytes, c.in_ok-push_str-2.ensures.bytes)
          (one_part (string_bytes c.loop-front.text) front behind rest parts.0 parts.1) ∙ c.loop-front.invariant.1,
    )

pub returns : goal.returns
returns c =
    let rest = c.loop-front.rest.now in
    let old = string_bytes c.args.text.now in
    let text = string_bytes c.loop-front.text in
    let word = c.args.word.now in
    let free = rw c.in_default.is at (split_parts 39 rest c.split_once.result c.split_once.ensures.cases (omega arith)) in
    let so_far : text ++ flat_map quoted_byte rest ≡ (old ++ (39 ∷ [])) ++ flat_map quoted_byte word =
    rw c.in_ok-push_str.ensures.bytes at c.loop-front.invariant.1 in
    where_put c.push_str-3.result (string_bytes c.push_str-3.new.self) (string_bytes c.push_str-2.new.self) (39 ∷ [])
    (old ++ quoted word) c.push_str-3.ensures.bytes
    (rw c.in_ok-push_str-4.ensures.bytes (last_part old text rest word so_far free))
