-- How many requests a history has.
use Rattle.std.proofs.Common.{◌≡◌, List, [], ◌∷◌, length, refl, arith}
use Rattle.std.specs.Prelude.{filter_map}
use Rattle.history.specs.Arrivals.{arrivals}
use Rattle.history.specs.Names.{names}
use Rattle.history.specs.TraceOf.{trace_in}
use Rattle.history.specs.declared.happening.Happening.{Happening}
use Rattle.history.specs.declared.happening.Happening.TheVariants.{Arrive, Act, Depart}
use Rattle.period.specs.declared.trace.TraceEvent.TheVariants.{Asked, Answered}
use Rattle.trace_format.specs.Events.{request_count}
use Rattle.trace_and_report.specs.Draft.{arrival_in}
use Rattle.trace_and_report.proofs.TraceFollows.{count_split}

pub requests_counted : (history : List Happening) → request_count (trace_in (names history)) ≡ length (arrivals history)
requests_counted [] = refl
requests_counted (Arrive seat rid request ∷ rest) = omega (arith, count_split (Asked rid request.value) (trace_in (names rest)), requests_counted rest)
requests_counted (Act seat rid number op choice ∷ rest) = requests_counted rest
requests_counted (Depart seat rid response path ∷ rest) = omega (arith, count_split (Answered rid response) (trace_in (names rest)), requests_counted rest)

pub arrivals_counted : (history : List Happening) → length (filter_map arrival_in (names history)) ≡ length (arrivals history)
arrivals_counted [] = refl
arrivals_counted (Arrive seat rid request ∷ rest) = omega (arith, arrivals_counted rest)
arrivals_counted (Act seat rid number op choice ∷ rest) = arrivals_counted rest
arrivals_counted (Depart seat rid response path ∷ rest) = arrivals_counted rest
