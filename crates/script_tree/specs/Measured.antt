-- What a list of values keeps beside its members.
use Rattle.std.specs.Prelude.{◌≡◌, min}
use Rattle.script_tree.specs.Datum.{members_size, members_nesting, data_of}
use Rattle.script_tree.specs.declared.value.Members.TheInside.{Inside}

-- It keeps the sizes of its members, added up, and the greatest of their nestings, each as far as its type goes.
pub record IsMeasured (a : Inside) : Type 0 where
  pub size : a.size ≡ min (members_size (data_of a.items.items)) 18446744073709551615
  pub nesting : a.nesting ≡ min (members_nesting (data_of a.items.items)) 18446744073709551615
