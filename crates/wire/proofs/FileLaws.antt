-- Why a file is read in one way, and one record more.
use Rattle.std.proofs.Common.{◌≡◌, ℕ, ◌+◌, ◌-◌, ◌<◌, ◌^◌, List, [], ◌∷◌, ◌++◌, length, drop, Result, Ok, Err, inl, inr, ap, sym, ◌∙◌, refl, subst, append_assoc, arith}
use Rattle.std.proofs.lemmas.List.{append-nil, length-append, length-drop, drop_at}
use Rattle.wire.specs.Spellings.{HasOneSpelling}
use Rattle.wire.specs.Files.{Format, record_spelling, records_spelling, file_spelling, record_field, MayFollow, Spells, HasMagic, IsBadRecord, IsFault, Decodes, GivesBack, IsExact}
use Rattle.basis.specs.declared.or_memory.OrMemory.{OrMemory}
use Rattle.basis.specs.declared.or_memory.OrMemory.TheVariants.{Memory, Other}
use Rattle.wire.specs.declared.fault.Unreadable.{Unreadable}
use Rattle.wire.proofs.OneSpelling.{bytes_one}
use Rattle.wire.proofs.Spelled.{rest_behind}

-- Payloads that may stand behind the same records are told apart.
abbrev pub HasOnePayload : {A : Type 0} → Format A → Type 0
HasOnePayload {A} format = (before : List A) (x y : A) → format.allows before x → format.allows before y
    → length (format.payload x) < 2 ^ 32 → length (format.payload y) < 2 ^ 32 → format.payload x ≡ format.payload y
    → x ≡ y

pub record_one : {A : Type 0} (format : Format A) → HasOnePayload format → (before : List A) → HasOneSpelling (record_field format before)
record_one format one before x y r s p q e =
    let same : (format.payload x ≡ format.payload y) × (r ≡ s) = bytes_one (format.payload x) (format.payload y) r s p.1 q.1 e in
    (one before x y p.0 q.0 p.1 q.1 same.0, same.1)

-- nothing that may stand behind these records begins so
abbrev NoneBegins : {A : Type 0} → Format A → List A → List ℕ → Type 0
NoneBegins {A} format before rest = (x : A) (more : List ℕ) → format.allows before x
    → length (format.payload x) < 2 ^ 32 → rest ≡ record_spelling format x ++ more → ⊥

none_at_end : {A : Type 0} (format : Format A) (before : List A) → NoneBegins format before []
none_at_end format before x more p q e =
    let len : 0 ≡ length (record_spelling format x) + length more = ap length e ∙ length-append (record_spelling format x) more in
    absurd (omega (arith, len))

-- Two runs of records from one place, behind which none begins, are one.
runs_one : {A : Type 0} (format : Format A) → HasOnePayload format → (before xs ys : List A) (r s : List ℕ)
    → MayFollow format before xs → MayFollow format before ys → NoneBegins format (before ++ xs) r
    → NoneBegins format (before ++ ys) s → records_spelling format xs ++ r ≡ records_spelling format ys ++ s
    → (xs ≡ ys) × (r ≡ s)
runs_one {A} format one before [] [] r s p q n m e = (refl, e)
runs_one {A} format one before [] (y ∷ ys) r s p q n m e =
    let None' : List A → Type 0 = λ b. NoneBegins format b r in
    let none : NoneBegins format before r = subst None' (append-nil before) n in
    absurd (none y (records_spelling format ys ++ s) q.0.0 q.0.1 (e ∙ append_assoc (record_spelling format y) (records_spelling format ys) s))
runs_one {A} format one before (x ∷ xs) [] r s p q n m e =
    let None' : List A → Type 0 = λ b. NoneBegins format b s in
    let none : NoneBegins format before s = subst None' (append-nil before) m in
    absurd (none x (records_spelling format xs ++ r) p.0.0 p.0.1 (sym e ∙ append_assoc (record_spelling format x) (records_spelling format xs) r))
runs_one {A} format one before (x ∷ xs) (y ∷ ys) r s p q n m e =
    let grouped : record_spelling format x ++ (records_spelling format xs ++ r) ≡ record_spelling format y ++ (records_spelling format ys ++ s) = sym (append_assoc (record_spelling format x) (records_spelling format xs) r) ∙ e ∙ append_assoc (record_spelling format y) (records_spelling format ys) s in
    let first : (x ≡ y) × (records_spelling format xs ++ r ≡ records_spelling format ys ++ s) = record_one format one before x y (records_spelling format xs ++ r) (records_spelling format ys ++ s) p.0 q.0 grouped in
    let Follow : A → Type 0 = λ z. MayFollow format (before ++ z ∷ []) ys in
    let None' : List A → Type 0 = λ b. NoneBegins format b r in
    let None'' : List A → Type 0 = λ b. NoneBegins format b s in
    let Item : A → Type 0 = λ z. NoneBegins format (before ++ z ∷ ys) s in
    let n' : NoneBegins format ((before ++ x ∷ []) ++ xs) r = subst None' (sym (append_assoc before (x ∷ []) xs)) n in
    let m' : NoneBegins format ((before ++ x ∷ []) ++ ys) s = subst None'' (sym (append_assoc before (x ∷ []) ys)) (subst Item (sym first.0) m) in
    let rest : (xs ≡ ys) × (r ≡ s) = runs_one format one (before ++ x ∷ []) xs ys r s p.1 (subst Follow (sym first.0) q.1) n' m' first.1 in
    (ap (λ zs. x ∷ zs) rest.0 ∙ ap (λ z. z ∷ ys) first.0, rest.1)

-- the records of a file, up to a place where none begins
pub record IsRun {A : Type 0} (format : Format A) (bytes : List ℕ) (xs : List A) (rest : List ℕ) : Type 0 where
  pub allowed : MayFollow format [] xs
  pub parts : bytes ≡ file_spelling format xs ++ rest
  pub none : (x : A) (more : List ℕ) → format.allows xs x → length (format.payload x) < 2 ^ 32 → rest ≡ record_spelling format x ++ more → ⊥

without_front : (m a b : List ℕ) → m ++ a ≡ m ++ b → a ≡ b
without_front m a b e = sym (drop_at m a (length m) refl) ∙ ap (drop (length m)) e ∙ drop_at m b (length m) refl

run_one : {A : Type 0} (format : Format A) → HasOnePayload format → (bytes : List ℕ) (xs ys : List A) (r s : List ℕ)
    → IsRun format bytes xs r → IsRun format bytes ys s → (xs ≡ ys) × (r ≡ s)
run_one format one bytes xs ys r s p q =
    let m = format.magic in
    let left : bytes ≡ m ++ (records_spelling format xs ++ r) = p.parts ∙ append_assoc m (records_spelling format xs) r in
    let right : bytes ≡ m ++ (records_spelling format ys ++ s) = q.parts ∙ append_assoc m (records_spelling format ys) s in
    runs_one format one [] xs ys r s p.allowed q.allowed p.none q.none
    (without_front m (records_spelling format xs ++ r) (records_spelling format ys ++ s) (sym left ∙ right))

run_of_file : {A : Type 0} (format : Format A) (bytes : List ℕ) (xs : List A) → Spells format bytes xs → IsRun format bytes xs []
run_of_file format bytes xs p = record {
  allowed = p.allowed;
  parts = p.spelled ∙ sym (append-nil (file_spelling format xs));
  none = none_at_end format xs;
}

run_of_bad : {A : Type 0} (format : Format A) (bytes : List ℕ) (at : ℕ) (p : IsBadRecord format bytes at) → IsRun format bytes p.before (drop at bytes)
run_of_bad format bytes at p = record {
  allowed = p.allowed;
  parts = p.spelled.spells;
  none = λ x more allowed short e. p.bad x (at + length (record_spelling format x)) (
    (allowed, short),
    record {
      spells = e ∙ ap (λ (t : List ℕ). record_spelling format x ++ t) (sym (rest_behind bytes (record_spelling format x) more at e));
      next_is = refl;
    },
  );
}

has_magic : {A : Type 0} (format : Format A) (bytes : List ℕ) (xs : List A) (r : List ℕ) → IsRun format bytes xs r → HasMagic format bytes
has_magic format bytes xs r p = (records_spelling format xs ++ r, p.parts ∙ append_assoc format.magic (records_spelling format xs) r)

fault_one : {A : Type 0} (format : Format A) → HasOnePayload format → (bytes : List ℕ) (at at' : ℕ)
    → IsFault format bytes at → IsFault format bytes at' → at ≡ at'
fault_one format one bytes at at' (inl p) (inl q) = p.1 ∙ sym q.1
fault_one format one bytes at at' (inl p) (inr q) = absurd (p.0 (has_magic format bytes q.before (drop at' bytes) (run_of_bad format bytes at' q)))
fault_one format one bytes at at' (inr p) (inl q) = absurd (q.0 (has_magic format bytes p.before (drop at bytes) (run_of_bad format bytes at p)))
fault_one format one bytes at at' (inr p) (inr q) =
    let same = (run_one format one bytes p.before q.before (drop at bytes) (drop at' bytes) (run_of_bad format bytes at p) (run_of_bad format bytes at' q)).0 in
    p.spelled.next_is ∙ ap (λ xs. 0 + length (file_spelling format xs)) same ∙ sym q.spelled.next_is

fault_not_read : {A : Type 0} (format : Format A) → HasOnePayload format → (bytes : List ℕ) (at : ℕ) (xs : List A)
    → IsFault format bytes at → Spells format bytes xs → ⊥
fault_not_read format one bytes at xs (inl p) q = p.0 (records_spelling format xs, q.spelled)
fault_not_read format one bytes at xs (inr p) q =
    let none : drop at bytes ≡ [] = (run_one format one bytes p.before xs (drop at bytes) [] (run_of_bad format bytes at p) (run_of_file format bytes xs q)).1 in
    let len : length bytes - at ≡ 0 = sym (length-drop at bytes) ∙ ap length none in
    let inside : at < length bytes = p.inside in
    omega arith

reading_one : {A : Type 0} (format : Format A) → HasOnePayload format → (bytes : List ℕ) (xs ys : List A)
    → Spells format bytes xs → Spells format bytes ys → xs ≡ ys
reading_one format one bytes xs ys p q = (run_one format one bytes xs ys [] [] (run_of_file format bytes xs p) (run_of_file format bytes ys q)).0

back : {A : Type 0} (format : Format A) → HasOnePayload format
    → (xs : List A) (r : Result (List A) (OrMemory Unreadable)) → MayFollow format [] xs
    → Decodes format (file_spelling format xs) r → GivesBack xs r
back format one xs (Ok found) allowed d = reading_one format one (file_spelling format xs) found xs d (record { spelled = refl; allowed = allowed })
back format one xs (Err Memory) allowed d = tt
back format one xs (Err (Other fault)) allowed d =
    fault_not_read format one (file_spelling format xs) (fault.at) xs d (record { spelled = refl; allowed = allowed })

pub file_is_exact : {A : Type 0} (format : Format A) → HasOnePayload format → IsExact format
file_is_exact format one = record {
  one_spelling = record_one format one;
  one_reading = reading_one format one;
  one_fault = fault_one format one;
  no_reading_at_fault = fault_not_read format one;
  gives_back = back format one;
}
