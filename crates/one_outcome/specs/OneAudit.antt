-- The law that an audit is a function of the bytes of its four inputs.
use Rattle.std.specs.Prelude.{◌≡◌, List, map}
use Rattle.std.specs.FinMap.{get}
use Rattle.outside.specs.Files.{Files}
use Rattle.command_words.specs.AuditWords.{AuditWords}
use Rattle.commands.specs.Audits.{IsAudited}
use Rattle.commands.specs.Outputs.{Outcome, Put}

-- The same bytes stand under the names of the four inputs, or none do.
pub record HaveEqualInputs (w : AuditWords) (files : Files) (v : AuditWords) (others : Files) : Type 0
  where
    pub program : get files w.program ≡ get others v.program
    pub state : get files w.state ≡ get others v.state
    pub trace : get files w.trace ≡ get others v.trace
    pub report : get files w.report ≡ get others v.report

-- They have the same answer, and put the same bytes, under whatever names.
pub record TellTheSame (x y : Outcome) : Type 0 where
  pub answer : x.answer ≡ y.answer
  pub bytes : map (λ (put : Put). put.1) x.puts ≡ map (λ (put : Put). put.1) y.puts

-- Audits of equal inputs tell the same, whatever the names of their files, and with however many
-- workers.
abbrev pub IsOneAudit : Type 0
IsOneAudit =
    (w v : AuditWords) (files others : Files) (x y : Outcome) → HaveEqualInputs w files v others
    → IsAudited files w x → IsAudited others v y → TellTheSame x y
