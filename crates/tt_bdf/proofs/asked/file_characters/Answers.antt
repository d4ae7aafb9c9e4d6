use Rattle.std.proofs.Common.{◌≡◌, sym, ◌+◌, ◌<◌, ◌≤◌, [], length, take, vec_len, arith}
use Rattle.std.proofs.lemmas.Bool.Decides.{nat_tests}
use Rattle.std.proofs.lemmas.List.{nil_from_length}
use Rattle.tt_bdf.specs.Asked.{characters_of}
use Rattle.tt_core.specs.Limits.{text_limit}
use Rattle.tt_bdf.proofs.Reaching.{few_taken, listed_to_end, many_taken}
use Rattle.tt_bdf.proofs.Refused.{no_characters, some_characters, too_many}
use Rattle.tt_bdf.proofs.asked.file_characters.Goals as goal

pub returns-then-len-gt-TEXT_LIMIT-clause-exact : goal.returns-then-len-gt-TEXT_LIMIT-clause-exact
returns-then-len-gt-TEXT_LIMIT-clause-exact c =
    let m = c.args.cmap.now in
    let rs = c.args.ranges.now in
    let found = c.in_ok-found.found in
    let taken : found.items ≡ take (text_limit + 1) (characters_of m rs) =
    rw (c.deref.ensures.value, c.in_ok-reaches.ensures.count, c.end_of.ensures.exact, listed_to_end m rs c.requires) at c.in_ok-found.ensures in
    let many : text_limit < length found.items = omega (arith, found.ok.0, c.len.ensures, c.if-len-gt-TEXT_LIMIT.true) in
    too_many m rs (many_taken (characters_of m rs) found.items taken many)

pub returns-then-is_empty-clause-exact : goal.returns-then-is_empty-clause-exact
returns-then-is_empty-clause-exact c =
    let m = c.args.cmap.now in
    let rs = c.args.ranges.now in
    let found = c.in_ok-found.found in
    let taken : found.items ≡ take (text_limit + 1) (characters_of m rs) =
    rw (c.deref.ensures.value, c.in_ok-reaches.ensures.count, c.end_of.ensures.exact, listed_to_end m rs c.requires) at c.in_ok-found.ensures in
    let few : length found.items ≤ text_limit = omega (arith, found.ok.0, c.len.ensures, c.if-len-gt-TEXT_LIMIT.false) in
    let none : vec_len found ≡ 0 = grind (arith, nat_tests, c.is_empty.ensures, c.if-is_empty.true) in
    let empty : found.items ≡ [] = nil_from_length found.items (omega (arith, found.ok.0, none)) in
    no_characters m rs (rw empty at (sym (few_taken (characters_of m rs) found.items taken few)))

pub returns-clause-exact : goal.returns-clause-exact
returns-clause-exact c =
    let m = c.args.cmap.now in
    let rs = c.args.ranges.now in
    let found = c.in_ok-found.found in
    let taken : found.items ≡ take (text_limit + 1) (characters_of m rs) =
    rw (c.deref.ensures.value, c.in_ok-reaches.ensures.count, c.end_of.ensures.exact, listed_to_end m rs c.requires) at c.in_ok-found.ensures in
    let few : length found.items ≤ text_limit = omega (arith, found.ok.0, c.len.ensures, c.if-len-gt-TEXT_LIMIT.false) in
    let some : 0 < vec_len found = grind (arith, nat_tests, c.is_empty.ensures, c.if-is_empty.false) in
    some_characters m rs found.items (sym (few_taken (characters_of m rs) found.items taken few)) (omega (arith, found.ok.0, some)) few
