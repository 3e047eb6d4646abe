-- The functions that every program of a version has, by name.
use Rattle.std.specs.Prelude.{ℕ, Bool, true, false, if◌then◌else◌, List, [], ◌∷◌, ◌++◌, Option, Some, None, codes}
use Rattle.std.specs.Str.{bytes_eq}
use Rattle.script_tree.specs.declared.syntax.builtin.Builtin.{Builtin}
use Rattle.script_tree.specs.declared.syntax.tree.Version.{Version}
use Rattle.script_tree.specs.declared.syntax.tree.Version.TheVariants.{First}
use Rattle.script_tree.specs.declared.syntax.builtin.Builtin.TheVariants.{Len, Str, Escape, Num, Slice, Append, Kind, Param, Method, Path, Body, Read, Write, Get, Put, Remove, Clock, Random}

-- the functions of values of the first version, each with its name
abbrev pub of_values : List (List ℕ × Builtin)
of_values =
    (codes "len", Len) ∷ (codes "str", Str) ∷ (codes "escape", Escape) ∷ (codes "num", Num) ∷ (codes "slice", Slice)
    ∷ (codes "append", Append) ∷ (codes "kind", Kind) ∷ []

-- those of the request
abbrev pub of_request : List (List ℕ × Builtin)
of_request = (codes "param", Param) ∷ (codes "method", Method) ∷ (codes "path", Path) ∷ (codes "body", Body) ∷ []

-- those that are operations on objects
abbrev pub of_objects : List (List ℕ × Builtin)
of_objects =
    (codes "read", Read) ∷ (codes "write", Write) ∷ (codes "get", Get) ∷ (codes "put", Put)
    ∷ (codes "remove", Remove) ∷ (codes "clock", Clock) ∷ (codes "random", Random) ∷ []

-- the built-in functions of a version, each with its name
abbrev pub builtins : Version → List (List ℕ × Builtin)
builtins First = (of_values ++ of_request) ++ of_objects

-- the first function of a name
abbrev pub named_in : List (List ℕ × Builtin) → List ℕ → Option Builtin
named_in [] name = None
named_in (e ∷ es) name = if bytes_eq name e.0 then Some e.1 else named_in es name

-- the built-in function that a name has in a version
abbrev pub builtin_of : Version → List ℕ → Option Builtin
builtin_of version name = named_in (builtins version) name

-- whether its first argument is the bare name of a store
abbrev pub takes_store : Builtin → Bool
takes_store Len = false
takes_store Str = false
takes_store Escape = false
takes_store Num = false
takes_store Slice = false
takes_store Append = false
takes_store Kind = false
takes_store Param = false
takes_store Method = false
takes_store Path = false
takes_store Body = false
takes_store Read = false
takes_store Write = false
takes_store Get = true
takes_store Put = true
takes_store Remove = true
takes_store Clock = false
takes_store Random = false

-- how many arguments it takes
abbrev pub arity_of : Builtin → ℕ
arity_of Len = 1
arity_of Str = 1
arity_of Escape = 1
arity_of Num = 1
arity_of Slice = 3
arity_of Append = 2
arity_of Kind = 1
arity_of Param = 1
arity_of Method = 0
arity_of Path = 0
arity_of Body = 0
arity_of Read = 1
arity_of Write = 2
arity_of Get = 2
arity_of Put = 3
arity_of Remove = 2
arity_of Clock = 0
arity_of Random = 1
