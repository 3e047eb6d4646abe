use Rattle.std.proofs.Common.{◌∙◌, [], length, ap, arith, refl, subst, sym}
use Rattle.wire.specs.Files.{file_spelling}
use Rattle.report_format.specs.Reports.{report_format}
use Rattle.trace_and_report.specs.Written.{AreAdded, count_records}
use Rattle.trace_and_report.proofs.Groups.{as_many}
use Rattle.trace_and_report.proofs.Reports.{as_many_groups, logs_of, logs_spelled, whole}
use Rattle.trace_and_report.proofs.draft.Draft.finish.Goals as goal

pub returns : goal.returns
returns c = λ names of.
    let written = c.in_ok-report.ensures (logs_of names) of.logs (logs_spelled names of.spellings) in
    let is = whole names c.args.self (file_spelling report_format []) written.first written.rest.between c.in_ok-report.report.items of refl
    (subst (λ rs. AreAdded rs (file_spelling report_format []) written.first)
    (λ i. count_records (c.deref-2.ensures.value i) (c.deref.ensures.value i)) written.counted) written.rest.logged written.rest.grouped in
    record {
      trace = of.trace;
      report = is.file;
      spellings = of.spellings;
      spellable = is.spellable;
      requests = omega (arith, c.len-requests.ensures, c.args.self.arrived.ok.0, ap length of.arrived);
      groups = c.len-paths.ensures.len ∙ sym (as_many c.args.self.groups) ∙ as_many_groups names c.args.self of;
    }
