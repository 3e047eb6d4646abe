-- The marks of the code, as the definition sees them.
use Rattle.std.specs.Prelude.{ℕ, List, Option, map}
use Rattle.machine.specs.declared.account.BareMark.{BareMark}
use Rattle.machine.specs.declared.account.BareMark.TheVariants.{Decided, Issued}
use Rattle.audit_meaning.specs.Members.{Sign, decision, operation, bad, ended, MemberMark}
use Rattle.group_runner.specs.declared.mark.Sign.{Sign as Left}
use Rattle.group_runner.specs.declared.mark.Sign.TheVariants as left
use Rattle.group_runner.specs.declared.mark.MemberMark.{MemberMark as LeftMark}

-- the sign that a sign of the code stands for
abbrev pub sign_in : Left → Sign
sign_in (left.Decision b) = decision b
sign_in left.Operation = operation
sign_in left.Bad = bad
sign_in (left.Ended steps fault) = ended steps fault

-- the mark that a mark of the code stands for
abbrev pub mark_in : LeftMark → MemberMark
mark_in m = record { page = m.page; sign = sign_in m.sign }

-- the marks that those of the code stand for
abbrev pub marks_in : List LeftMark → List MemberMark
marks_in ms = map mark_in ms

-- what a mark of the machine's trail leaves
abbrev pub bare_sign : BareMark → Sign
bare_sign (Decided b) = decision b
bare_sign Issued = operation

-- signs on a page
abbrev pub marks_on : Option ℕ → List Sign → List MemberMark
marks_on page signs = map (λ s. record { page = page; sign = s }) signs
