-- Equal acts and responses, as tests that compute.
use Rattle.std.specs.Prelude.{Bool, true, false, ◌&&◌, nat_eq}
use Rattle.std.specs.Ordering.{int_eq, is_eq}
use Rattle.std.specs.Str.{bytes_eq}
use Rattle.basis.specs.Lists.{each}
use Rattle.script_tree.specs.Datum.{Datum}
use Rattle.script_tree.specs.Order.{compare}
use Rattle.script_tree.specs.declared.comparison.Comparison.{Comparison}
use Rattle.script_tree.specs.declared.comparison.Comparison.TheVariants as by
use Rattle.script_tree.specs.declared.operation.Act.{Act}
use Rattle.script_tree.specs.declared.operation.Act.TheVariants.{Read, Write, Get, Put, Remove, Transact, Now, Roll}
use Rattle.script_tree.specs.declared.request.Response.{Response}
use Rattle.script_tree.specs.declared.transaction.Change.{Change}
use Rattle.script_tree.specs.declared.transaction.Statement.{Statement}
use Rattle.script_tree.specs.declared.transaction.Statement.TheVariants.{Insert, Select, Update, Delete, Expect}
use Rattle.script_tree.specs.declared.transaction.Test.{Test}

-- values
abbrev pub same_datum : Datum → Datum → Bool
same_datum a b = is_eq (compare a b)

-- comparisons
abbrev pub same_comparison : Comparison → Comparison → Bool
same_comparison by.Equal by.Equal = true
same_comparison by.Unequal by.Unequal = true
same_comparison by.Less by.Less = true
same_comparison by.AtMost by.AtMost = true
same_comparison by.Greater by.Greater = true
same_comparison by.AtLeast by.AtLeast = true
same_comparison by.Equal b = false
same_comparison by.Unequal b = false
same_comparison by.Less b = false
same_comparison by.AtMost b = false
same_comparison by.Greater b = false
same_comparison by.AtLeast b = false

-- tests of a statement
abbrev pub same_test : Test → Test → Bool
same_test a b = nat_eq a.column b.column && (same_comparison a.comparison b.comparison && same_datum a.value b.value)

-- assignments of a statement
abbrev pub same_change : Change → Change → Bool
same_change a b = nat_eq a.column b.column && same_datum a.value b.value

-- statements of a transaction
abbrev pub same_statement : Statement → Statement → Bool
same_statement (Insert t r) (Insert u s) = nat_eq t u && each same_datum r s
same_statement (Select t c a) (Select u d b) = nat_eq t u && (each nat_eq c d && each same_test a b)
same_statement (Update t c a) (Update u d b) = nat_eq t u && (each same_change c d && each same_test a b)
same_statement (Delete t a) (Delete u b) = nat_eq t u && each same_test a b
same_statement (Expect m t a) (Expect n u b) = int_eq m n && (nat_eq t u && each same_test a b)
same_statement (Insert t r) b = false
same_statement (Select t c a) b = false
same_statement (Update t c a) b = false
same_statement (Delete t a) b = false
same_statement (Expect m t a) b = false

-- acts
abbrev pub same_act : Act → Act → Bool
same_act Read Read = true
same_act (Write a) (Write b) = same_datum a b
same_act (Get k) (Get l) = bytes_eq k l
same_act (Put k a) (Put l b) = bytes_eq k l && same_datum a b
same_act (Remove k) (Remove l) = bytes_eq k l
same_act (Transact a) (Transact b) = each same_statement a b
same_act Now Now = true
same_act (Roll a) (Roll b) = int_eq a b
same_act Read b = false
same_act (Write a) b = false
same_act (Get k) b = false
same_act (Put k a) b = false
same_act (Remove k) b = false
same_act (Transact a) b = false
same_act Now b = false
same_act (Roll a) b = false

-- responses
abbrev pub same_response : Response → Response → Bool
same_response a b = nat_eq a.status b.status && bytes_eq a.body b.body
