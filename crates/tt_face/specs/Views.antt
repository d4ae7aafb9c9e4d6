-- The definitions' views of the code's values.
use Rattle.std.specs.Prelude.{option_map}
use Rattle.tt_face.specs.declared.instance.AskedInstance as asked
use Rattle.tt_face.specs.declared.instance.NamedBy as named
use Rattle.tt_face.specs.declared.instance.NamedBy.TheVariants as by
use Rattle.tt_face.specs.Instance.{Asked, Named, by_name, by_number}

abbrev pub named_view : named.NamedBy → Named
named_view (by.Number k) = by_number k
named_view (by.Name name) = by_name name.now

abbrev pub asked_view : asked.AskedInstance → Asked
asked_view a = record { named = option_map named_view a.named; axes = a.axes.now }
