-- Events at a place: no two are spelled alike, and none stands where a part of it is missed.
use Rattle.std.proofs.Common.{◌≡◌, ◌≢◌, ℕ, ◌+◌, List, Result, Err, ◌++◌, length, refl, sym, ap, subst, ◌∙◌, arith}
use Rattle.std.specs.Int.{w32}
use Rattle.std.specs.Prelude.{IsErrAnd}
use Rattle.basis.specs.declared.or_memory.OrMemory.{OrMemory}
use Rattle.wire.specs.declared.fault.Unreadable.{Unreadable}
use Rattle.script_tree.specs.Requests.{Request}
use Rattle.script_tree.specs.declared.request.Response.{Response}
use Rattle.period.specs.declared.trace.TraceEvent.{TraceEvent}
use Rattle.period.specs.declared.trace.TraceEvent.TheVariants.{Asked, Answered}
use Rattle.wire.specs.Spellings.{Field, IsSpelled, IsFieldAt, NoneIsAt, HasOneSpelling, TakesPart, byte_field, number_field}
use Rattle.wire.specs.Files.{TakesPayload, SpellsNone, IsExact}
use Rattle.wire.proofs.Spelled.{first_part, second_part, same_field}
use Rattle.wire.proofs.Sequences.{pair_field, both_there, no_first, no_second, pair_one}
use Rattle.wire.proofs.OneSpelling.{byte_one, one_of_32}
use Rattle.wire.proofs.FileLaws.{file_is_exact}
use Rattle.wire.proofs.FileSteps.{one_payload, no_payload, not_whole}
use Rattle.trace_format.specs.Events.{IsEvent, event_field, event_spelling, request_field, request_spelling, response_field, response_spelling, request_count, trace_format}
use Rattle.trace_format.proofs.RequestFields.{request_one, response_one}

-- ---- an event's tag, its id, and what stands behind them

unfoldable pub tag_of : TraceEvent → ℕ
tag_of (Asked rid q) = 1
tag_of (Answered rid x) = 2

unfoldable pub id_of : TraceEvent → ℕ
id_of (Asked rid q) = rid
id_of (Answered rid x) = rid

rest_of : TraceEvent → List ℕ
rest_of (Asked rid q) = request_spelling q
rest_of (Answered rid x) = response_spelling x

abbrev pub head_field : Field (ℕ × ℕ)
head_field = pair_field byte_field (λ tag. number_field w32)

head_one : HasOneSpelling head_field
head_one = pair_one byte_field (λ tag. number_field w32) byte_one (λ tag. one_of_32)

abbrev head_of : TraceEvent → ℕ × ℕ
head_of e = (tag_of e, id_of e)

by_head : (e : TraceEvent) → event_spelling e ≡ head_field.spelling (head_of e) ++ rest_of e
unfolding tag_of id_of rest_of
by_head (Asked rid q) = refl
by_head (Answered rid x) = refl

head_allowed : (asked : ℕ) (e : TraceEvent) → IsEvent asked e → head_field.allows (head_of e)
unfolding tag_of id_of
head_allowed asked (Asked rid q) p = (omega arith, p.0)
head_allowed asked (Answered rid x) p = (omega arith, p.0)

head_there : (asked : ℕ) (bytes : List ℕ) (at : ℕ) (e : TraceEvent) (next : ℕ)
    → IsFieldAt (event_field asked) bytes at e next
    → IsSpelled bytes at (head_field.spelling (head_of e) ++ rest_of e) next
head_there asked bytes at e next p = let Here : List ℕ → Type 0 = λ s. IsSpelled bytes at s next in subst Here (by_head e) p.1

-- the tag and the id are the event's
pub head_is : (asked : ℕ) (bytes : List ℕ) (at tag mid rid place : ℕ) (e : TraceEvent) (next : ℕ)
    → IsFieldAt byte_field bytes at tag mid → IsFieldAt (number_field w32) bytes mid rid place
    → IsFieldAt (event_field asked) bytes at e next → (tag ≡ tag_of e) × (rid ≡ id_of e)
head_is asked bytes at tag mid rid place e next first second p =
    let there = head_there asked bytes at e next p in
    let ends : ℕ = at + length (head_field.spelling (head_of e)) in
    let found : ℕ × ℕ = (tag, rid) in
    let head = both_there byte_field (λ t. number_field w32) bytes at tag mid rid place first second in
    let same = same_field head_field head_one bytes at found (head_of e) place ends head (head_allowed asked e p.0, first_part bytes (head_field.spelling (head_of e)) (rest_of e) at next there) in
    (ap (λ (h : ℕ × ℕ). h.0) same.0, ap (λ (h : ℕ × ℕ). h.1) same.0)

-- what is left of the event that begins with a tag and an id
behind_head : (asked : ℕ) (bytes : List ℕ) (at tag mid rid place : ℕ) (e : TraceEvent) (next : ℕ)
    → IsFieldAt byte_field bytes at tag mid → IsFieldAt (number_field w32) bytes mid rid place
    → IsFieldAt (event_field asked) bytes at e next → (tag ≡ tag_of e) × IsSpelled bytes place (rest_of e) next
behind_head asked bytes at tag mid rid place e next first second p =
    let there = head_there asked bytes at e next p in
    let ends : ℕ = at + length (head_field.spelling (head_of e)) in
    let found : ℕ × ℕ = (tag, rid) in
    let head = both_there byte_field (λ t. number_field w32) bytes at tag mid rid place first second in
    let same = same_field head_field head_one bytes at found (head_of e) place ends head (head_allowed asked e p.0, first_part bytes (head_field.spelling (head_of e)) (rest_of e) at next there) in
    let Behind : ℕ → Type 0 = λ n. IsSpelled bytes n (rest_of e) next in
    (ap (λ (h : ℕ × ℕ). h.0) same.0, subst Behind (sym same.1) (second_part bytes (head_field.spelling (head_of e)) (rest_of e) at next there))

-- ---- none

no_head : (asked : ℕ) (bytes : List ℕ) (at : ℕ) → NoneIsAt head_field bytes at → NoneIsAt (event_field asked) bytes at
no_head asked bytes at none e next p =
    none (head_of e) (at + length (head_field.spelling (head_of e))) (
      head_allowed asked e p.0,
      first_part bytes (head_field.spelling (head_of e)) (rest_of e) at next
          (head_there asked bytes at e next p),
    )

pub no_tag : (asked : ℕ) (bytes : List ℕ) (at : ℕ) → NoneIsAt byte_field bytes at → NoneIsAt (event_field asked) bytes at
no_tag asked bytes at none = no_head asked bytes at (no_first byte_field (λ tag. number_field w32) bytes at none)

pub no_id : (asked : ℕ) (bytes : List ℕ) (at tag mid : ℕ) → IsFieldAt byte_field bytes at tag mid
    → NoneIsAt (number_field w32) bytes mid → NoneIsAt (event_field asked) bytes at
no_id asked bytes at tag mid here none = no_head asked bytes at (no_second byte_field (λ t. number_field w32) byte_one bytes at tag mid here none)

pub no_request : (asked : ℕ) (bytes : List ℕ) (at tag mid rid place : ℕ) → IsFieldAt byte_field bytes at tag mid
    → IsFieldAt (number_field w32) bytes mid rid place → tag ≡ 1 → NoneIsAt request_field bytes place
    → NoneIsAt (event_field asked) bytes at
unfolding tag_of rest_of
no_request asked bytes at tag mid rid place first second is none e next p = go e p.0 (behind_head asked bytes at tag mid rid place e next first second p)
  where
    go : (e : TraceEvent) → IsEvent asked e → (tag ≡ tag_of e) × IsSpelled bytes place (rest_of e) next → ⊥
    go (Asked i q) allowed h = none q next (allowed.1.0, h.1)
    go (Answered i x) allowed h = omega (arith, h.0)

pub no_response : (asked : ℕ) (bytes : List ℕ) (at tag mid rid place : ℕ) → IsFieldAt byte_field bytes at tag mid
    → IsFieldAt (number_field w32) bytes mid rid place → tag ≡ 2 → NoneIsAt response_field bytes place
    → NoneIsAt (event_field asked) bytes at
unfolding tag_of rest_of
no_response asked bytes at tag mid rid place first second is none e next p = go e p.0 (behind_head asked bytes at tag mid rid place e next first second p)
  where
    go : (e : TraceEvent) → IsEvent asked e → (tag ≡ tag_of e) × IsSpelled bytes place (rest_of e) next → ⊥
    go (Asked i q) allowed h = omega (arith, h.0)
    go (Answered i x) allowed h = none x next (allowed.1, h.1)

-- ---- the law

pub event_one : (asked : ℕ) → HasOneSpelling (event_field asked)
event_one asked (Asked i q) (Asked j p) r s a b e =
    let same = head_one (1, i) (1, j) (request_spelling q ++ r) (request_spelling p ++ s) (omega arith, a.0) (omega arith, b.0) e in
    let rest = request_one q p r s a.1.0 b.1.0 same.1 in
    (ap (λ (h : ℕ × ℕ). Asked h.1 q) same.0 ∙ ap (λ (x : Request). Asked j x) rest.0, rest.1)
event_one asked (Answered i x) (Answered j y) r s a b e =
    let same = head_one (2, i) (2, j) (response_spelling x ++ r) (response_spelling y ++ s) (omega arith, a.0) (omega arith, b.0) e in
    let rest = response_one x y r s a.1 b.1 same.1 in
    (ap (λ (h : ℕ × ℕ). Answered h.1 x) same.0 ∙ ap (λ (z : Response). Answered j z) rest.0, rest.1)
event_one asked (Asked i q) (Answered j y) r s a b e = absurd (cc)
event_one asked (Answered i x) (Asked j p) r s a b e = absurd (cc)

-- ---- payloads

-- behind events with so many requests, no payload is one of an event where none begins, or ends, as the payload does
pub no_event : (before : List TraceEvent) (asked : ℕ) (payload : List ℕ) (fault : OrMemory Unreadable)
    (r : Result TraceEvent (OrMemory Unreadable)) → asked ≡ request_count before
    → TakesPart {A = TraceEvent} {X = TraceEvent} (λ x. x) (event_field asked) payload 0 (Err fault)
    → IsErrAnd r (λ e. e ≡ fault) → TakesPayload trace_format before payload r
no_event before asked payload fault r kept missed is =
    let Missed : ℕ → Type 0 = λ n. TakesPart {A = TraceEvent} {X = TraceEvent} (λ x. x) (event_field n) payload 0 (Err fault) in
    no_payload trace_format before payload fault r (subst Missed kept missed) is

pub not_whole_event : (before : List TraceEvent) (asked : ℕ) (payload : List ℕ) (e : TraceEvent) (next : ℕ)
    → asked ≡ request_count before → IsFieldAt (event_field asked) payload 0 e next → next ≢ length payload
    → SpellsNone trace_format before payload
not_whole_event before asked payload e next kept here more =
    let Here : ℕ → Type 0 = λ n. IsFieldAt (event_field n) payload 0 e next in
    not_whole (event_field (request_count before)) (event_one (request_count before)) payload e next (subst Here kept here) more

pub trace_is_exact : IsExact trace_format
trace_is_exact = file_is_exact trace_format (one_payload trace_format (λ before. event_one (request_count before)))
