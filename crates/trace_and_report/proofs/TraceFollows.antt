-- The events of a trace within the limits stand in their order, so they are read again.
use Rattle.std.proofs.Common.{◌≡◌, ℕ, ◌+◌, ◌<◌, ◌≤◌, ◌^◌, List, [], ◌∷◌, ◌++◌, length, ap, cond, arith}
use Rattle.std.proofs.lemmas.List.{length-append}
use Rattle.std.proofs.lemmas.List.Sums.{sum_by-cons, sum_by_push}
use Rattle.script_tree.specs.declared.limits.TheConstants.{MOST_REQUESTS}
use Rattle.period.specs.declared.trace.TraceEvent.{TraceEvent}
use Rattle.period.specs.declared.trace.TraceEvent.TheVariants.{Asked, Answered}
use Rattle.wire.specs.Files.{MayFollow, Spells, IsFileWithin, record_spelling, records_spelling}
use Rattle.wire.specs.Spellings.{bytes_spelling}
use Rattle.wire.specs.declared.limits.TheConstants.{MOST_FILE_BYTES}
use Rattle.trace_format.specs.Events.{trace_format, event_spelling, is_request, request_count, IsEvent}
use Rattle.history.specs.Names.{Named, came, did, went}
use Rattle.history.specs.TraceOf.{trace_in}
use Rattle.trace_and_report.specs.Draft.{HasSpelling, IsSpellableEvent}
use Rattle.trace_and_report.specs.Widths.{Each}

events_spellable : (names : List Named) → Each HasSpelling names → Each IsSpellableEvent (trace_in names)
events_spellable [] each = tt
events_spellable (came r request ∷ names) each = (each.0, events_spellable names each.1)
events_spellable (did r k op choice ∷ names) each = events_spellable names each.1
events_spellable (went r response path ∷ names) each = (each.0, events_spellable names each.1)

payload_len : (e : TraceEvent) → length (event_spelling e) ≤ length (record_spelling trace_format e)
payload_len e = omega (arith, length-append (bytes_spelling []) (event_spelling e))

-- 1 of a request, 0 of a response
abbrev one : TraceEvent → ℕ
one e = cond (is_request e) 1 0

count_more : (before : List TraceEvent) (e : TraceEvent) → request_count (before ++ e ∷ []) ≡ request_count before + one e
count_more before e = sum_by_push one before e

pub count_split : (e : TraceEvent) (rest : List TraceEvent) → request_count (e ∷ rest) ≡ one e + request_count rest
count_split e rest = sum_by-cons one e rest

event_may_stand : (asked : ℕ) (e : TraceEvent) → asked + one e ≤ MOST_REQUESTS → IsSpellableEvent e → IsEvent asked e
event_may_stand asked (Asked rid request) few (wide, short) = (wide, (short, omega (arith, few)))
event_may_stand asked (Answered rid response) few spellable = spellable

follow : (before events : List TraceEvent) → request_count before + request_count events ≤ MOST_REQUESTS → Each IsSpellableEvent events
    → length (records_spelling trace_format events) < 2 ^ 32 → MayFollow trace_format before events
follow before [] few each room = tt
follow before (e ∷ events) few (first, each) room =
    let parts = length-append (record_spelling trace_format e) (records_spelling trace_format events) in (
      (event_may_stand (request_count before) e (omega (arith, few, count_split e events)) first, omega (arith, parts, payload_len e, room)),
      follow (before ++ e ∷ []) events (omega (arith, few, count_more before e, count_split e events)) each (omega (arith, parts, room)),
    )

pub events_read_again : (trace : List TraceEvent) (bytes : List ℕ) → request_count trace ≤ MOST_REQUESTS → Each IsSpellableEvent trace
    → IsFileWithin trace_format MOST_FILE_BYTES trace bytes → Spells trace_format bytes trace
events_read_again trace bytes few each file =
    let len = length-append trace_format.magic (records_spelling trace_format trace) in
    let same : length bytes ≡ length (trace_format.magic ++ records_spelling trace_format trace) = ap length file.0 in
    record { spelled = file.0; allowed = follow [] trace (omega (arith, few)) each (omega (arith, len, same, file.1)) }

pub trace_read_again : (names : List Named) (bytes : List ℕ) → request_count (trace_in names) ≤ MOST_REQUESTS → Each HasSpelling names
    → IsFileWithin trace_format MOST_FILE_BYTES (trace_in names) bytes → Spells trace_format bytes (trace_in names)
trace_read_again names bytes few each file = events_read_again (trace_in names) bytes few (events_spellable names each) file
