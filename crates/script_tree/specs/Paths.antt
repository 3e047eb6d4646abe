-- Equal paths, as a test that computes.
use Rattle.std.specs.Prelude.{ℕ, Bool, true, false, not, ◌&&◌, Option, Some, None, nat_eq}
use Rattle.basis.specs.Lists.{each}
use Rattle.script_tree.specs.Faults.{fault_number}
use Rattle.script_tree.specs.declared.path.End.{End}
use Rattle.script_tree.specs.declared.path.End.TheVariants.{Normal, Fault, AnswerFault}
use Rattle.script_tree.specs.declared.path.Path.{Path}

-- whether two paths are of one page, or both of none
abbrev pub same_page : Option ℕ → Option ℕ → Bool
same_page None None = true
same_page None (Some b) = false
same_page (Some a) None = false
same_page (Some a) (Some b) = nat_eq a b

-- whether two decisions are alike
abbrev pub same_decision : Bool → Bool → Bool
same_decision true b = b
same_decision false b = not b

-- whether two runs end alike
abbrev pub same_end : End → End → Bool
same_end Normal Normal = true
same_end (Fault a) (Fault b) = nat_eq (fault_number a) (fault_number b)
same_end AnswerFault AnswerFault = true
same_end Normal b = false
same_end (Fault a) b = false
same_end AnswerFault b = false

-- whether two paths are alike: in the page, each decision, the steps and the end
abbrev pub same_path : Path → Path → Bool
same_path a b = same_page a.page b.page && (each same_decision a.decisions b.decisions && (nat_eq a.steps b.steps && same_end a.end b.end))
