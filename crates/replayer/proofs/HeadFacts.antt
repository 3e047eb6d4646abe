-- What the head of an event tells of who has departed.
use Rattle.std.proofs.Common.{◌≡◌, ◌∙◌, ◌<◌, ℕ, zero, suc, List, [], ◌∷◌, length, get_or, Option, Some, None, Bool, false, cond, not, ap, sym, refl, arith}
use Rattle.std.specs.List.{slice_get}
use Rattle.basis.specs.Lists.{nth}
use Rattle.basis.proofs.Options.{some_is, none_is_not}
use Rattle.script_tree.specs.Requests.{Request}
use Rattle.script_tree.specs.declared.request.Response.{Response}
use Rattle.period.specs.declared.trace.TraceEvent.{TraceEvent}
use Rattle.period.specs.declared.trace.TraceEvent.TheVariants.{Asked, Answered}
use Rattle.trace_format.specs.Heads.{head_of}
use Rattle.trace_format.specs.declared.trace_file.EventHead.TheVariants.{Asks, Answers}
use Rattle.replayer.specs.Differences.{left_open}
use Rattle.trace_index.specs.Places.{IsPartner}
use Rattle.trace_index.proofs.HeadFacts.{same_asks}
use Rattle.replayer.specs.Standings.{standing_at, is_departed, departed_in, waits}
use Rattle.replayer.specs.declared.reason.ReplayReason.TheVariants.{Open as LeftOpen}
use Rattle.replayer.specs.declared.standing.Standing.{Standing}

-- ---- responses that are waited for

pub answers_waits : (trace : List TraceEvent) (ss : List Standing) (place : ℕ) (e : TraceEvent) (r : ℕ) (o : Option ℕ)
    (b : Bool) → slice_get trace place ≡ Some e → Answers r ≡ head_of e
    → IsPartner trace place o → b ≡ is_departed (standing_at ss o) → not b ≡ waits (departed_in trace ss) e
answers_waits trace ss place (Asked q p) r o b at is partner told = absurd cc
answers_waits trace ss place (Answered q x) r o b at is partner told = ap not (told ∙ ap (λ p. is_departed (standing_at ss p)) (partner.request q x at))

pub asks_waits : (d : ℕ → Bool) (e : TraceEvent) (r : ℕ) → Asks r ≡ head_of e → false ≡ waits d e
asks_waits d (Asked q p) r is = refl
asks_waits d (Answered q x) r is = absurd cc

-- ---- requests that have not departed

pub asks_left : (d : ℕ → Bool) (e : TraceEvent) (r : ℕ) (b : Bool) → Asks r ≡ head_of e → b ≡ d r → cond b None (Some (LeftOpen r)) ≡ left_open d e
asks_left d (Asked q p) r b is told = let same : r ≡ q = same_asks r q is in rw (told, same) refl
asks_left d (Answered q x) r b is told = absurd cc

pub answers_left : (d : ℕ → Bool) (e : TraceEvent) (r : ℕ) → Answers r ≡ head_of e → None ≡ left_open d e
answers_left d (Asked q p) r is = absurd cc
answers_left d (Answered q x) r is = refl
