-- The tests of lists in statements.
use Rattle.std.specs.Prelude.{ℕ, Bool, List, nat_lt}
use Rattle.std.specs.List.{list_all}
use Rattle.script_tree.specs.declared.transaction.Statement.{Statement}
use Rattle.script_fit.specs.OfProgram.{statement_is_of}

-- each is one of the columns
abbrev pub columns_are_of : ℕ → List ℕ → Bool
columns_are_of width columns = list_all (λ c. nat_lt c width) columns

-- each statement is of a table that is there, and of its columns
abbrev pub statements_are_of : List ℕ → List Statement → Bool
statements_are_of widths statements = list_all (statement_is_of widths) statements
