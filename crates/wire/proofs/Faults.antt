-- The fault of a part is one of the whole.
use Rattle.std.proofs.Common.{◌≡◌, ℕ, List, Result, Ok, Err, sym, subst}
use Rattle.std.specs.Prelude.{IsErrAnd}
use Rattle.basis.specs.declared.or_memory.OrMemory.{OrMemory}
use Rattle.basis.specs.declared.or_memory.OrMemory.TheVariants.{Memory, Other}
use Rattle.wire.specs.declared.fault.Unreadable.{Unreadable}
use Rattle.wire.specs.Spellings.{Field, NoneIsAt, IsFaultAt, ReadsField, TakesPart}

pub part_fault : {A B X : Type 0} (part : Field A) (whole : Field B) (view : X → B) (bytes : List ℕ) (at : ℕ)
    (fault : Unreadable) (r : Result (X × ℕ) Unreadable) → IsFaultAt part bytes at fault → IsErrAnd r (λ e. e ≡ fault)
    → (NoneIsAt part bytes at → NoneIsAt whole bytes at) → ReadsField view whole bytes at r
part_fault part whole view bytes at fault (Ok x) missed is none = absurd is
part_fault part whole view bytes at fault (Err e) missed is none =
    let P : Unreadable → Type 0 = λ f. IsFaultAt whole bytes at f in
    subst P (sym is) (missed.0, none missed.1)

-- where memory may run out, but not in the part
pub part_missed : {B X : Type 0} (whole : Field B) (view : X → B) (bytes : List ℕ) (at : ℕ) (fault : Unreadable)
    (r : Result (X × ℕ) (OrMemory Unreadable)) → IsErrAnd r (λ e. e ≡ Other fault) → NoneIsAt whole bytes at
    → TakesPart view whole bytes at r
part_missed whole view bytes at fault (Ok x) is none = absurd is
part_missed {B} {X} whole view bytes at fault (Err e) is none =
    let P : OrMemory Unreadable → Type 0 = λ f. TakesPart {A = B} {X = X} view whole bytes at (Err f) in
    subst P (sym is) none

-- where memory may run out in both
pub part_not_taken : {A B Y X : Type 0} (part : Field A) (whole : Field B) (seen : Y → A) (view : X → B)
    (bytes : List ℕ) (place at : ℕ) (fault : OrMemory Unreadable) (r : Result (X × ℕ) (OrMemory Unreadable))
    → TakesPart {A = A} {X = Y} seen part bytes place (Err fault) → IsErrAnd r (λ e. e ≡ fault)
    → (NoneIsAt part bytes place → NoneIsAt whole bytes at) → TakesPart view whole bytes at r
part_not_taken part whole seen view bytes place at fault (Ok x) missed is none = absurd is
part_not_taken {A} {B} {Y} {X} part whole seen view bytes place at fault (Err e) missed is none =
    let P : OrMemory Unreadable → Type 0 = λ f. TakesPart {A = B} {X = X} view whole bytes at (Err f) in
    subst P (sym is) (go fault missed)
  where
    go : (f : OrMemory Unreadable) → TakesPart {A = A} {X = Y} seen part bytes place (Err f) → TakesPart {A = B} {X = X} view whole bytes at (Err f)
    go Memory m = tt
    go (Other e) m = none m
