use Rattle.std.proofs.Common.{◌≡◌, ◌-◌}
use Rattle.tt_core.specs.Directory.{Directory, has_tag, record_of}
use Rattle.tt_core.specs.Search.{first_from}
use Rattle.tt_core.proofs.directory.Dir.record.Given as goal

-- the search over all records is the search over the remaining records
abbrev pub invariant-loop-i : goal.invariant-loop-i
invariant-loop-i l =
    let d : Directory = record { file = l.self-inside.file.now; at = l.self-inside.at } in
    first_from (has_tag d l.tag) l.i (l.i-end - l.i) ≡ record_of d l.tag
