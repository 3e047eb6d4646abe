-- One record more of a file, read or written.
use Rattle.std.proofs.Common.{◌≡◌, ◌≢◌, ℕ, ◌+◌, ◌-◌, ◌<◌, ◌≤◌, eqb, List, [], ◌∷◌, ◌++◌, length, drop, take, get_or, Result, Ok, Err, true, false, Bool, inl, inr, ap, sym, ◌∙◌, refl, subst, append_assoc, arith}
use Rattle.std.proofs.lemmas.List.{append-nil, length-append, drop_all, take_more, drop_more, take-append-drop}
use Rattle.std.specs.Prelude.{IsErrAnd}
use Rattle.std.specs.List.{starts_with}
use Rattle.basis.specs.declared.or_memory.OrMemory.{OrMemory}
use Rattle.basis.specs.declared.or_memory.OrMemory.TheVariants.{Memory, Other}
use Rattle.wire.specs.declared.fault.Unreadable.{Unreadable}
use Rattle.std.proofs.lemmas.Bool.Decides.{Decides-eqb}
use Rattle.std.proofs.lemmas.Slice.Eq.{starts_is}
use Rattle.basis.proofs.Booleans.{true_false}
use Rattle.wire.specs.Spellings.{Field, IsSpelled, IsFieldAt, NoneIsAt, HasOneSpelling, TakesPart, bytes_field}
use Rattle.wire.specs.Files.{Format, record_spelling, records_spelling, file_spelling, payload_field, record_field, MayFollow, IsFault, IsPayload, SpellsNone, TakesPayload, IsBeyond}
use Rattle.wire.specs.FileReaders.{IsReadUpTo}
use Rattle.wire.proofs.Spelled.{joined, at_front, ends_inside, same_field}
use Rattle.std.specs.Int.{w32, to_be_bytes}
use Rattle.wire.proofs.FileLaws.{HasOnePayload}
use Rattle.wire.proofs.OneSpelling.{bytes_one}

-- ---- payloads

pub one_payload : {A : Type 0} (format : Format A) → ((before : List A) → HasOneSpelling (payload_field format before)) → HasOnePayload format
one_payload format one before x y p q _ _ e =
    let same : format.payload x ++ [] ≡ format.payload y ++ [] = ap (λ (s : List ℕ). s ++ []) e in
    (one before x y [] [] p q same).0

-- ---- files

allowed_push : {A : Type 0} (format : Format A) (before xs : List A) (x : A) → MayFollow format before xs
    → (record_field format (before ++ xs)).allows x → MayFollow format before (xs ++ x ∷ [])
allowed_push {A} format before [] x p q =
    let May : List A → Type 0 = λ b. (record_field format b).allows x in
    (subst May (append-nil before) q, tt)
allowed_push {A} format before (y ∷ ys) x p q =
    let May : List A → Type 0 = λ b. (record_field format b).allows x in
    (p.0, allowed_push format (before ++ y ∷ []) ys x p.1 (subst May (sym (append_assoc before (y ∷ []) ys)) q))

pub records_push : {A : Type 0} (format : Format A) (xs : List A) (x : A)
    → records_spelling format (xs ++ x ∷ []) ≡ records_spelling format xs ++ record_spelling format x
records_push format [] x = append-nil (record_spelling format x)
records_push format (y ∷ ys) x = ap (λ (s : List ℕ). record_spelling format y ++ s) (records_push format ys x)
    ∙ sym (append_assoc (record_spelling format y) (records_spelling format ys) (record_spelling format x))

pub file_push : {A : Type 0} (format : Format A) (xs : List A) (x : A)
    → file_spelling format (xs ++ x ∷ []) ≡ file_spelling format xs ++ record_spelling format x
file_push format xs x = ap (λ (s : List ℕ). format.magic ++ s) (records_push format xs x)
    ∙ sym (append_assoc format.magic (records_spelling format xs) (record_spelling format x))

pub one_more : {A : Type 0} (format : Format A) (bytes : List ℕ) (items : List A) (at : ℕ) (x : A) (next : ℕ)
    → IsReadUpTo format bytes items at → IsFieldAt (record_field format items) bytes at x next
    → IsReadUpTo format bytes (items ++ x ∷ []) next
one_more format bytes items at x next p q =
    let inside = ends_inside bytes (record_spelling format x) at next (omega (arith, length-append (to_be_bytes w32 (length (format.payload x))) (format.payload x))) q.1 in
    let Here : List ℕ → Type 0 = λ s. IsSpelled bytes 0 s next in
    record {
      allowed = allowed_push format [] items x p.allowed q.0;
      spelled = subst Here (sym (file_push format items x)) (joined bytes (file_spelling format items) (record_spelling format x) 0 at next p.spelled q.1);
      within = inside.1;
    }

-- a file that doesn't begin with the magic
pub no_magic : {A : Type 0} (format : Format A) (bytes m : List ℕ) (r : Bool) → r ≡ starts_with eqb bytes m
    → m ≡ format.magic → r ≡ false → IsFault format bytes 0
no_magic format bytes m r says is missed =
    let begins = (starts_is Decides-eqb bytes m r says).1 in
    inl ((λ (rest, e). true_false r (begins rest (e ∙ ap (λ (x : List ℕ). x ++ rest) (sym is))) missed), refl)

-- one that does, before its first record
pub read_none : {A : Type 0} (format : Format A) (bytes m : List ℕ) (r : Bool) → r ≡ starts_with eqb bytes m
    → m ≡ format.magic → r ≡ true → length m ≤ length bytes → IsReadUpTo format bytes [] (length m)
read_none format bytes m r says is begun within =
    let begins = (starts_is Decides-eqb bytes m r says).0 begun in
    let spelled : IsSpelled bytes 0 (m ++ []) (length m) = record {
      spells = begins ∙ ap (λ (x : List ℕ). x ++ drop (length m) bytes) (sym (append-nil m));
      next_is = omega (arith, ap length (append-nil m));
    } in
    record { allowed = tt; spelled = subst (λ x. IsSpelled bytes 0 (x ++ []) (length m)) is spelled; within = within }

-- what the payload of a record spells
pub record_there : {A : Type 0} (format : Format A) (items : List A) (bytes payload : List ℕ) (at next : ℕ) (x : A)
    → IsFieldAt bytes_field bytes at payload next
    → IsPayload format items payload x → IsFieldAt (record_field format items) bytes at x next
record_there format items bytes payload at next x here (allowed, is) =
    let there : IsFieldAt bytes_field bytes at (format.payload x) next = subst (λ p. IsFieldAt bytes_field bytes at p next) is here in
    ((allowed, there.0), there.1)

-- one that spells nothing
pub bad_record : {A : Type 0} (format : Format A) (items : List A) (bytes payload : List ℕ) (at next : ℕ) → IsReadUpTo format bytes items at → at < length bytes
    → IsFieldAt bytes_field bytes at payload next → SpellsNone format items payload → IsFault format bytes at
bad_record format items bytes payload at next read inside here none = inr (record {
  before = items;
  allowed = read.allowed;
  spelled = read.spelled;
  inside = inside;
  bad = λ x n ((allowed, small), there). none x (allowed, (same_field bytes_field bytes_one bytes at payload (format.payload x) next n here (small, there)).0);
})

pub written_more : {A : Type 0} (format : Format A) (xs : List A) (i : ℕ) (d : A) (old new : List ℕ) → i < length xs
    → old ≡ file_spelling format (take i xs) → new ≡ old ++ record_spelling format (get_or xs i d)
    → new ≡ file_spelling format (take (i + 1) xs)
written_more {A} format xs i d old new lt so_far e =
    let more : take (i + 1) xs ≡ take i xs ++ get_or xs i d ∷ [] = take_more xs i d lt in
    e ∙ ap (λ (s : List ℕ). s ++ record_spelling format (get_or xs i d)) so_far
    ∙ sym (file_push format (take i xs) (get_or xs i d))
    ∙ ap (λ (ys : List A). file_spelling format ys) (sym more)

-- the item whose record would end behind the limit
pub beyond_here : {A : Type 0} (format : Format A) (limit : ℕ) (items whole : List A) (i : ℕ) (item : A) (at : ℕ)
    (out : List ℕ) → items ≡ whole → i < length items → item ≡ get_or items i item
    → out ≡ file_spelling format (take i items) → at ≡ length out → at ≤ limit
    → limit - at < length (record_spelling format item) → IsBeyond format limit at whole
beyond_here {A} format limit items whole i item at out same lt is so_far at_is within beyond =
    let rest : drop i items ≡ get_or items i item ∷ drop (i + 1) items = drop_more items i item lt in
    let parts : items ≡ take i items ++ item ∷ drop (i + 1) items = sym (take-append-drop i items) ∙ ap (λ (r : List A). take i items ++ r) (rest ∙ ap (λ (y : A). y ∷ drop (i + 1) items) (sym is)) in
    record {
      before = take i items;
      item = item;
      after = drop (i + 1) items;
      parts = sym same ∙ parts;
      at_is = at_is ∙ ap length so_far;
      within = within;
      beyond = omega arith;
    }

-- ---- whole payloads

pub whole_there : {A : Type 0} (field : Field A) (bytes : List ℕ) (x : A) (next : ℕ) → IsFieldAt field bytes 0 x next
    → next ≡ length bytes → field.allows x × (bytes ≡ field.spelling x)
whole_there field bytes x next p end' =
    let rest : drop next bytes ≡ [] = drop_all next bytes (omega arith) in
    (p.0, p.1.spells ∙ ap (λ (r : List ℕ). field.spelling x ++ r) rest ∙ append-nil (field.spelling x))

-- what is the whole payload stands at its start
pub start_there : {A : Type 0} (field : Field A) (bytes : List ℕ) (x : A) → field.allows x → bytes ≡ field.spelling x → IsFieldAt field bytes 0 x (length bytes)
start_there field bytes x allowed e =
    let whole : IsSpelled (field.spelling x ++ []) 0 (field.spelling x) (length (field.spelling x)) = at_front (field.spelling x) [] in
    let Here : List ℕ → Type 0 = λ b. IsSpelled b 0 (field.spelling x) (length (field.spelling x)) in
    let End : ℕ → Type 0 = λ n. IsSpelled bytes 0 (field.spelling x) n in
    (allowed, subst End (sym (ap length e)) (subst Here (append-nil (field.spelling x) ∙ sym e) whole))

pub none_whole : {A : Type 0} (field : Field A) (bytes : List ℕ) → NoneIsAt field bytes 0 → (x : A) → ¬ (field.allows x × (bytes ≡ field.spelling x))
none_whole field bytes none x whole = none x (length bytes) (start_there field bytes x whole.0 whole.1)

-- where something ends before the payload does, nothing is the whole payload
pub not_whole : {A : Type 0} (field : Field A) → HasOneSpelling field → (bytes : List ℕ) (x : A) (next : ℕ)
    → IsFieldAt field bytes 0 x next → next ≢ length bytes → (y : A) → ¬ (field.allows y × (bytes ≡ field.spelling y))
not_whole field one bytes x next p more y whole =
    more (same_field field one bytes 0 x y next (length bytes) p (start_there field bytes y whole.0 whole.1)).1

-- The fault of a reader of payloads is one of the record.
pub no_payload : {A : Type 0} (format : Format A) (before : List A) (payload : List ℕ) (fault : OrMemory Unreadable)
    (r : Result A (OrMemory Unreadable)) → TakesPart {A = A} {X = A} (λ x. x) (payload_field format before) payload 0
    (Err fault) → IsErrAnd r (λ e. e ≡ fault) → TakesPayload format before payload r
no_payload format before payload fault (Ok x) missed is = absurd is
no_payload {A} format before payload fault (Err e) missed is =
    let P : OrMemory Unreadable → Type 0 = λ f. TakesPayload {A = A} format before payload (Err f) in
    subst P (sym is) (go fault missed)
  where
    go : (f : OrMemory Unreadable) → TakesPart {A = A} {X = A} (λ x. x) (payload_field format before) payload 0
        (Err f) → TakesPayload {A = A} format before payload (Err f)
    go Memory m = tt
    go (Other f) m = none_whole (payload_field format before) payload m
