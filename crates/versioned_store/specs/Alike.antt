-- Entries that are like one another have one answer.
use Rattle.std.specs.Prelude.{◌≡◌, ℕ, Some}
use Rattle.basis.specs.Lists.{nth}
use Rattle.script_tree.specs.declared.operation.Object.TheVariants.{Tables}
use Rattle.period.specs.declared.report.LogEntry.{LogEntry}
use Rattle.versioned_store.specs.Logged.{Logged, answer_there}
use Rattle.versioned_store.specs.Sources.{IsLike}

-- An entry of the tables' log has the answer of an earlier one that it is like.
abbrev pub AlikeAnswers : Type 0
AlikeAnswers = (o : Logged) (p q : ℕ) (f e : LogEntry) → o.log.object ≡ Tables → IsLike o.log.entries p q
    → nth o.log.entries p ≡ Some f → nth o.log.entries q ≡ Some e
    → answer_there o p f ≡ answer_there o q e
