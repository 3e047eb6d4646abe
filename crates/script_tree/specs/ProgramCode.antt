-- How a proof stores a program.
use Rattle.std.specs.Prelude.{List, refl}
use Rattle.std.specs.Coded.{Coded, code_by, coded_list, coded×}
use Rattle.script_tree.specs.Programs.{Program}
use Rattle.script_tree.specs.contracts.syntax.declaration.Declaration as declaration
use Rattle.script_tree.specs.contracts.syntax.tree.Version as version
use Rattle.script_tree.specs.declared.syntax.declaration.Declaration.{Declaration}
use Rattle.script_tree.specs.declared.syntax.tree.Version.{Version}

-- how a program is stored
abbrev pub coded_program : Coded Program
coded_program =
    code_by (Version × List Declaration) (coded× version.the_row.coded (coded_list declaration.the_row.coded))
    (λ p. (p.version, p.declarations)) (λ w. record { version = w.0; declarations = w.1 }) (λ _. refl)
