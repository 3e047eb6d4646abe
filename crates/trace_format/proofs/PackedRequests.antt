-- Requests that are packed: the bytes spell one.
use Rattle.std.proofs.Common.{◌≡◌, ◌∙◌, ℕ, true, List, ◌+◌, ◌++◌, ◌∷◌, length, ap, append_assoc, arith}
use Rattle.std.proofs.Math.Logic.{∥∥₁_elim}
use Rattle.std.specs.Coded.{Coded-set, coded_ℕ, coded_bool, coded_list}
use Rattle.script_tree.specs.Requests.{Request, is_request_within_limits, IsRequestWithinLimits}
use Rattle.script_tree.specs.contracts.request.Request as request_type
use Rattle.std.specs.Int.{w32, to_be_bytes}
use Rattle.period.specs.declared.trace.TraceEvent.TheVariants.{Asked}
use Rattle.wire.specs.Files.{record_spelling}
use Rattle.wire.specs.Spellings.{IsFieldAt, NoneIsAt}
use Rattle.wire.proofs.FileSteps.{start_there}
use Rattle.wire.proofs.Spelled.{same_field}
use Rattle.trace_format.specs.Events.{trace_format, event_spelling, request_field, request_spelling}
use Rattle.trace_format.specs.Packed.{IsPacked, Packed, packed_once}
use Rattle.trace_format.proofs.RequestFields.{request_one}

-- what stands at the start of bytes that spell it
there : (bytes : List ℕ) (q : Request) → IsPacked bytes q → IsFieldAt request_field bytes 0 q (length bytes)
there bytes q p = start_there request_field bytes q p.limits p.spelled

only_one : (bytes : List ℕ) (q other : Request) → IsPacked bytes q → IsPacked bytes other → other ≡ q
only_one bytes q other p o = (same_field request_field request_one bytes 0 other q (length bytes) (length bytes) (there bytes other o) (there bytes q p)).0

pub packs : (bytes : List ℕ) (q : Request) → bytes ≡ request_spelling q → IsRequestWithinLimits q → Packed bytes
packs bytes q is limits =
    let this : IsPacked bytes q = record { spelled = is; limits = limits } in
    (q, ∣ record { this = this; only = λ other o. only_one bytes q other this o } ∣₁)

-- what is packed is this one
pub packed_is : (bytes : List ℕ) (q : Request) → bytes ≡ request_spelling q → IsRequestWithinLimits q → (p : Packed bytes) → p.0 ≡ q
unfolding packs
packed_is bytes q is limits p = ap (λ (r : Packed bytes). r.0) (packed_once bytes p (packs bytes q is limits))

-- the bytes spell what is packed
pub packed_spelled : (bytes : List ℕ) (p : Packed bytes) → bytes ≡ request_spelling p.0
packed_spelled bytes p = ∥∥₁_elim p.1 (Coded-set (coded_list coded_ℕ) bytes (request_spelling p.0)) (λ a. a.this.spelled)

-- and it is within its limits
pub packed_within : (bytes : List ℕ) (p : Packed bytes) → IsRequestWithinLimits p.0
packed_within bytes p = ∥∥₁_elim p.1 (Coded-set coded_bool (is_request_within_limits p.0) true) (λ a. a.this.limits)

-- what is read at the start is what is packed
pub unpacked : (bytes : List ℕ) (p : Packed bytes) (q : Request) (next : ℕ) → IsFieldAt request_field bytes 0 q next → q ≡ p.0
unpacked bytes p q next here =
    ∥∥₁_elim p.1 (Coded-set request_type.the_row.coded q p.0) (λ a.
    (same_field request_field request_one bytes 0 q p.0 next (length bytes) here (there bytes p.0 a.this)).0)

-- and a request is there
pub some_request : (bytes : List ℕ) → Packed bytes → NoneIsAt request_field bytes 0 → ⊥
some_request bytes p none = ∥∥₁_elim p.1 (λ x y. absurd x) (λ a. none p.0 (length bytes) (there bytes p.0 a.this))

-- ---- its record

-- the bytes so far, the length, what stands before the request, and the request
pub record_added : (old counted headed new spelled : List ℕ) (rid n : ℕ) (q : Request) → spelled ≡ request_spelling q → n ≡ 5 + length spelled
    → counted ≡ old ++ to_be_bytes w32 n → headed ≡ counted ++ 1 ∷ to_be_bytes w32 rid → new ≡ headed ++ spelled
    → new ≡ old ++ record_spelling trace_format (Asked rid q)
record_added old counted headed new spelled rid n q is long counts heads all =
    let payload : List ℕ = event_spelling (Asked rid q) in
    let head : List ℕ = 1 ∷ to_be_bytes w32 rid in
    let len : n ≡ length payload = omega (arith, long ∙ ap (λ (s : List ℕ). 5 + length s) is) in
    all ∙ ap (λ (s : List ℕ). s ++ spelled) (heads ∙ ap (λ (s : List ℕ). s ++ head) counts) ∙ append_assoc (old ++ to_be_bytes w32 n) head spelled
    ∙ (λ i. (old ++ to_be_bytes w32 (len i)) ++ (head ++ is i)) ∙ append_assoc old (to_be_bytes w32 (length payload)) payload
