-- The file of a trace, with one event more.
use Rattle.std.proofs.Common.{◌≡◌, ◌∙◌, ℕ, ◌≤◌, List, [], ◌∷◌, ◌++◌, length, append-nil, Some, arith, ap, sym, subst}
use Rattle.std.specs.List.{cons_option}
use Rattle.script_tree.specs.declared.limits.TheConstants.{MOST_REQUESTS}
use Rattle.script_tree.specs.declared.operation.Choice.{Choice}
use Rattle.script_tree.specs.declared.operation.Op.{Op}
use Rattle.period.specs.declared.trace.TraceEvent.{TraceEvent}
use Rattle.wire.specs.Files.{IsExact, Spells, file_spelling, record_spelling, records_spelling}
use Rattle.wire.specs.declared.limits.TheConstants.{MOST_FILE_BYTES}
use Rattle.trace_format.specs.Events.{trace_format}
use Rattle.history.specs.Arrivals.{arrivals}
use Rattle.history.specs.Names.{Named, name, names}
use Rattle.history.specs.TraceOf.{event_in, trace_in, trace_of}
use Rattle.history.specs.declared.happening.Happening.{Happening}
use Rattle.history.specs.declared.happening.Happening.TheVariants.{Act}
use Rattle.trace_and_report.specs.Draft.{IsSpellableEvent}
use Rattle.trace_and_report.specs.Widths.{Each}
use Rattle.trace_and_report.proofs.Drafts.{each_more, trace_more}
use Rattle.trace_and_report.proofs.Groupings.{filter_map_more}
use Rattle.trace_and_report.proofs.TraceFollows.{events_read_again}
use Rattle.trace_and_report.proofs.TraceLimits.{requests_counted}
use Rattle.whole_history.specs.Drafts.{IsTraceDraft}
use Rattle.whole_history.specs.declared.traces.TraceDraft.{TraceDraft}

pub event_more : (names : List Named) (named : Named) (e : TraceEvent) (old new : TraceDraft) → event_in named ≡ Some e → IsTraceDraft names old
    → new.bytes.items ≡ old.bytes.items ++ record_spelling trace_format e → IsSpellableEvent e → IsTraceDraft (names ++ named ∷ []) new
event_more names named e old new is was more may = record {
  bytes =
      trace_more names named old.bytes.items new.bytes.items was.bytes
      (more ∙ ap (λ bs. old.bytes.items ++ bs) (sym (append-nil (record_spelling trace_format e)))
      ∙ ap (λ o. old.bytes.items ++ records_spelling trace_format (cons_option o [])) (sym is));
  spellable =
      subst (Each IsSpellableEvent) (sym (filter_map_more event_in names named ∙ ap (λ o. trace_in names ++ cons_option o []) is))
      (each_more IsSpellableEvent (trace_in names) e was.spellable may);
}

-- An operation is no event.
pub act_taken : (h : Happening) (seat rid number : ℕ) (op : Op) (choice : Choice) → h ≡ Act seat rid number op choice
    → (names : List Named) (draft : TraceDraft)
    → IsTraceDraft names draft → IsTraceDraft (names ++ name h ∷ []) draft
act_taken h seat rid number op choice is names draft was =
    let named : Named = name (Act seat rid number op choice) in
    let same : trace_in (names ++ named ∷ []) ≡ trace_in names = filter_map_more event_in names named ∙ append-nil (trace_in names) in
    subst (λ h. IsTraceDraft (names ++ name h ∷ []) draft) (sym is) (record {
      bytes = was.bytes ∙ sym (ap (file_spelling trace_format) same);
      spellable = subst (Each IsSpellableEvent) (sym same) was.spellable;
    })

-- What was made of the whole history is read as its trace.
pub spells : (history : List Happening) (draft : TraceDraft) → length (arrivals history) ≤ MOST_REQUESTS → length draft.bytes.items ≤ MOST_FILE_BYTES
    → IsTraceDraft (names history) draft → Spells trace_format draft.bytes.items (trace_of history)
unfolding trace_of
spells history draft few short is =
    events_read_again (trace_in (names history)) draft.bytes.items (omega (arith, few, requests_counted history))
    is.spellable (is.bytes, short)

-- Whatever is read there is its trace.
pub read_as : IsExact trace_format → (history : List Happening) (draft : TraceDraft) (trace : List TraceEvent) → length (arrivals history) ≤ MOST_REQUESTS
    → length draft.bytes.items ≤ MOST_FILE_BYTES → IsTraceDraft (names history) draft
    → Spells trace_format draft.bytes.items trace → trace ≡ trace_of history
read_as exact history draft trace few short is spelled =
    exact.one_reading draft.bytes.items trace (trace_of history) spelled (spells history draft few short is)
