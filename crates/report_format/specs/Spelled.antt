-- The entries of a log, spelled before its record is.
use Rattle.std.specs.Prelude.{ℕ, List, ◌∷◌, ◌++◌, length, refl}
use Rattle.std.specs.Int.{w32, to_be_bytes}
use Rattle.std.specs.Coded.{Coded, code_by, coded×, coded_ℕ, coded_list}
use Rattle.script_tree.specs.declared.operation.Object.{Object}
use Rattle.period.specs.declared.report.Log.{Log}
use Rattle.period.specs.declared.report.LogEntry.{LogEntry}
use Rattle.report_format.specs.Parts.{all_spelled}
use Rattle.report_format.specs.Operations.{object_field}
use Rattle.report_format.specs.Reports.{entry_field}

-- how many entries there are, and their spellings, one behind the other
pub record Spelled : Type 0 where
  pub count : ℕ
  pub bytes : List ℕ

-- these entries, spelled
abbrev pub spelled : List LogEntry → Spelled
spelled entries = record { count = length entries; bytes = all_spelled entry_field entries }

-- how a proof stores spelled entries
abbrev pub coded_spelled : Coded Spelled
coded_spelled =
    code_by (ℕ × List ℕ) (coded× coded_ℕ (coded_list coded_ℕ))
    (λ s. (s.count, s.bytes)) (λ p. record { count = p.0; bytes = p.1 }) (λ _. refl)

-- the log of an object with these entries
abbrev pub log_with : Object → List LogEntry → Log
log_with object entries = record { object = object; entries = entries }

-- what the record of a log has behind its length
abbrev pub log_payload : Object → Spelled → List ℕ
log_payload object entries =
    2 ∷ (object_field.spelling object ++ (to_be_bytes w32 entries.count ++ entries.bytes))
