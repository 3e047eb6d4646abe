-- Moments at a place: no two are spelled alike, and none stands where a part of it is missed.
use Rattle.std.proofs.Common.{◌≡◌, ℕ, ◌+◌, List, [], ◌++◌, length, Result, Ok, Err, refl, ap, subst, ◌∙◌, arith}
use Rattle.std.specs.Prelude.{IsErrAnd}
use Rattle.std.specs.Int.{w32}
use Rattle.script_tree.specs.declared.operation.Choice.{Choice}
use Rattle.period.specs.declared.schedule.Moment.{Moment}
use Rattle.period.specs.declared.schedule.Moment.TheVariants.{Arrive, Act, Depart}
use Rattle.wire.specs.Spellings.{Field, IsSpelled, IsFieldAt, NoneIsAt, HasOneSpelling, byte_field, number_field, choice_spelling}
use Rattle.wire.specs.Files.{IsExact}
use Rattle.wire.specs.declared.fault.Unreadable.{Unreadable}
use Rattle.wire.proofs.Spelled.{first_part}
use Rattle.wire.proofs.Sequences.{pair_field, no_first, no_second, pair_one}
use Rattle.wire.proofs.OneSpelling.{byte_one, one_of_32, choice_one}
use Rattle.wire.proofs.FileLaws.{file_is_exact}
use Rattle.wire.proofs.FileSteps.{one_payload}
use Rattle.schedule_format.specs.Moments.{IsMoment, ReadsMoment, moment_field, moment_spelling, schedule_format}

-- ---- a moment's tag, its id, and what stands behind them

tag_of : Moment → ℕ
tag_of (Arrive rid) = 1
tag_of (Act rid choice) = 2
tag_of (Depart rid) = 3

id_of : Moment → ℕ
id_of (Arrive rid) = rid
id_of (Act rid choice) = rid
id_of (Depart rid) = rid

rest_of : Moment → List ℕ
rest_of (Arrive rid) = []
rest_of (Act rid choice) = choice_spelling choice
rest_of (Depart rid) = []

abbrev pub head_field : Field (ℕ × ℕ)
head_field = pair_field byte_field (λ tag. number_field w32)

head_one : HasOneSpelling head_field
head_one = pair_one byte_field (λ tag. number_field w32) byte_one (λ tag. one_of_32)

abbrev head_of : Moment → ℕ × ℕ
head_of m = (tag_of m, id_of m)

by_head : (m : Moment) → moment_spelling m ≡ head_field.spelling (head_of m) ++ rest_of m
unfolding tag_of id_of rest_of
by_head (Arrive rid) = refl
by_head (Act rid choice) = refl
by_head (Depart rid) = refl

head_allowed : (m : Moment) → IsMoment m → head_field.allows (head_of m)
unfolding tag_of id_of
head_allowed (Arrive rid) p = (omega arith, p)
head_allowed (Act rid choice) p = (omega arith, p.0)
head_allowed (Depart rid) p = (omega arith, p)

head_there : (bytes : List ℕ) (at : ℕ) (m : Moment) (next : ℕ) → IsFieldAt moment_field bytes at m next
    → IsSpelled bytes at (head_field.spelling (head_of m) ++ rest_of m) next
head_there bytes at m next p = let Here : List ℕ → Type 0 = λ s. IsSpelled bytes at s next in subst Here (by_head m) p.1

-- ---- none

no_head : (bytes : List ℕ) (at : ℕ) → NoneIsAt head_field bytes at → NoneIsAt moment_field bytes at
no_head bytes at none m next p =
    none (head_of m) (at + length (head_field.spelling (head_of m))) (
      head_allowed m p.0,
      first_part bytes (head_field.spelling (head_of m)) (rest_of m) at next
          (head_there bytes at m next p),
    )

pub no_tag : (bytes : List ℕ) (at : ℕ) → NoneIsAt byte_field bytes at → NoneIsAt moment_field bytes at
no_tag bytes at none = no_head bytes at (no_first byte_field (λ tag. number_field w32) bytes at none)

pub no_id : (bytes : List ℕ) (at tag mid : ℕ) → IsFieldAt byte_field bytes at tag mid → NoneIsAt (number_field w32) bytes mid → NoneIsAt moment_field bytes at
no_id bytes at tag mid here none = no_head bytes at (no_second byte_field (λ t. number_field w32) byte_one bytes at tag mid here none)

pub moment_missed : (payload : List ℕ) (fault : Unreadable) (r : Result (Moment × ℕ) Unreadable)
    → IsErrAnd r (λ e. e ≡ fault) → NoneIsAt moment_field payload 0 → ReadsMoment payload r
moment_missed payload fault (Ok x) is none = absurd is
moment_missed payload fault (Err e) is none = none

-- ---- the law

pub moment_one : HasOneSpelling moment_field
unfolding tag_of id_of rest_of
moment_one (Arrive i) (Arrive j) r s p q e = let same = head_one (1, i) (1, j) r s (omega arith, p) (omega arith, q) e in (ap (λ (h : ℕ × ℕ). Arrive h.1) same.0, same.1)
moment_one (Depart i) (Depart j) r s p q e = let same = head_one (3, i) (3, j) r s (omega arith, p) (omega arith, q) e in (ap (λ (h : ℕ × ℕ). Depart h.1) same.0, same.1)
moment_one (Act i c) (Act j d) r s p q e =
    let same = head_one (2, i) (2, j) (choice_spelling c ++ r) (choice_spelling d ++ s) (omega arith, p.0) (omega arith, q.0) e in
    let rest = choice_one c d r s p.1 q.1 same.1 in
    (ap (λ (h : ℕ × ℕ). Act h.1 c) same.0 ∙ ap (λ (x : Choice). Act j x) rest.0, rest.1)
moment_one (Arrive i) (Act j d) r s p q e = absurd (cc)
moment_one (Arrive i) (Depart j) r s p q e = absurd (cc)
moment_one (Act i c) (Arrive j) r s p q e = absurd (cc)
moment_one (Act i c) (Depart j) r s p q e = absurd (cc)
moment_one (Depart i) (Arrive j) r s p q e = absurd (cc)
moment_one (Depart i) (Act j d) r s p q e = absurd (cc)

pub schedule_is_exact : IsExact schedule_format
schedule_is_exact = file_is_exact schedule_format (one_payload schedule_format (λ before. moment_one))
