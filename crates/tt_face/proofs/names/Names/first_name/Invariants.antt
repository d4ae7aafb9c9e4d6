use Rattle.std.proofs.Common.{◌≡◌, ◌-◌}
use Rattle.tt_core.specs.Search.{first_from}
use Rattle.tt_face.specs.Names.{is_name, first_name}
use Rattle.tt_face.proofs.names.Names.first_name.Given as goal

-- the search over all records is the search over the remaining records
abbrev pub invariant-loop-i : goal.invariant-loop-i
invariant-loop-i l =
    let table = l.self in
    first_from (is_name l.id l.english table) l.i (l.i-end - l.i) ≡ first_name l.id l.english table
