use Rattle.std.proofs.Common.{◌≡◌, ◌-◌}
use Rattle.tt_core.specs.Search.{first_below, first_from}
use Rattle.tt_face.specs.Instance.{has_name, named_count}
use Rattle.tt_face.proofs.instance.first_with_name.Given as goal

-- the search over all instances is the search over the remaining ones
abbrev pub invariant-loop-k : goal.invariant-loop-k
invariant-loop-k l =
    first_from (has_name l.dir l.fvar l.name) l.k (l.count - l.k) ≡ first_below (named_count l.fvar) (has_name l.dir l.fvar l.name)
