-- What the words of `record` say, where `clap` takes them.
use Rattle.std.proofs.Common.{◌≡◌, ◌≢◌, ◌∙◌, ℕ, ◌<◌, ◌^◌, Bool, true, false, cond, not, ◌&&◌, Result, Ok, ap₂, List, [], ◌∷◌, Option, Some, None, codes, refl, ap, sym, subst}
use Rattle.std.proofs.lemmas.Bool.{ltb-true, lt-ltb}
use Rattle.std.proofs.lemmas.Fmt.{decimal_is_IsNumeral, parse-decimal}
use Rattle.std.proofs.lemmas.Slice.Eq.{bytes_eq-Decides}
use Rattle.std.specs.Fmt.{decimal}
use Rattle.std.specs.Prelude.{nat_lt}
use Rattle.std.specs.Str.{bytes_eq}
use Rattle.std.specs.Str.Parse.{ParsesUnsigned, digits_value}
use Rattle.basis.specs.Options.{◌>>=◌}
use Rattle.clap.specs.Faults.{fault_of}
use Rattle.clap.specs.Simple.{matches_of}
use Rattle.clap.specs.Walk.{first_of, is_empty}
use Rattle.command_words.specs.RecordWords.{RecordWords, if_sound, is_sound, number_of, number_or, record_app, taken_words, words_in}
use Rattle.command_words.specs.AuditWords.{AuditWords, taken_words as audit_taken}
use Rattle.command_words.specs.Commands.{a_check, a_replay, a_recording, an_audit, usage, command, if_read}
use Rattle.command_words.specs.Words.{ReplayNames, in_four, in_one, names_in}
use Rattle.command_words.specs.WordsApp.{taken}

-- ---- numbers

abbrev number_if : ℕ → List ℕ → Option ℕ
number_if n text = cond (bytes_eq (decimal n) text && nat_lt n (2 ^ 64)) (Some n) None

-- a text is the decimal form of this number
pub number_here : (text : List ℕ) (n : ℕ) → n < 2 ^ 64 → decimal n ≡ text → Some n ≡ number_of text
number_here text n small is =
    let value : digits_value 10 text ≡ n = ap (digits_value 10) (sym is) ∙ (decimal_is_IsNumeral n small).1 in
    let form : bytes_eq (decimal n) text ≡ true = (bytes_eq-Decides (decimal n) text).1 is in
    let below : nat_lt n (2 ^ 64) ≡ true = lt-ltb n (2 ^ 64) small in
    sym (ap (λ m. number_if m text) value ∙ ap₂ (λ a b. cond (a && b) (Some n) None) form below)

-- it is that of no number
pub no_number : {E : Type 0} (text : List ℕ) (r : Result ℕ E) → ParsesUnsigned 64 10 text r
    → ((n : ℕ) → r ≡ Ok n → decimal n ≡ text → ⊥) → None ≡ number_of text
no_number text r parses none = by (bytes_eq (decimal (digits_value 10 text)) text) refl (nat_lt (digits_value 10 text) (2 ^ 64)) refl
  where
    by : (a : Bool) → bytes_eq (decimal (digits_value 10 text)) text ≡ a → (b : Bool) → nat_lt (digits_value 10 text) (2 ^ 64) ≡ b
        → None ≡ number_of text
    by true form true below =
        let n = digits_value 10 text in
        let is : decimal n ≡ text = (bytes_eq-Decides (decimal n) text).0 form in
        let small : n < 2 ^ 64 = ltb-true n (2 ^ 64) below in
        absurd (none n (parse-decimal 64 n text r small small (sym is) parses) is)
    by true form false below = sym (ap₂ (λ a b. cond (a && b) (Some (digits_value 10 text)) None) form below)
    by false form b below = sym (ap (λ a. cond (a && nat_lt (digits_value 10 text) (2 ^ 64)) (Some (digits_value 10 text)) None) form)

pub not_same : (form text : List ℕ) → false ≡ bytes_eq form text → form ≡ text → ⊥
not_same form text e is = let f = (bytes_eq-Decides form text).1 is in cc

-- ---- different names

bound : {A B : Type 0} (o : Option A) (f : A → Option B) (b : B) → (o >>= f) ≡ Some b → (a : A) × (f a ≡ Some b)
bound None f b e = cc
bound (Some a) f b e = (a, e)

if_true : {A : Type 0} (t : Bool) (o : Option A) (x : A) → cond t o None ≡ Some x → (t ≡ true) × (o ≡ Some x)
if_true true o x e = (refl, e)
if_true false o x e = cc

some_is : {A : Type 0} (x y : A) → Some x ≡ Some y → x ≡ y
some_is x y e = cc

sound : (v w : RecordWords) → if_sound v ≡ Some w → is_sound w.trace w.report w.workers ≡ true
sound v w e =
    let both = if_true (is_sound v.trace v.report v.workers) (Some v) w e in
    subst (λ u. is_sound u.trace u.report u.workers ≡ true) (some_is v w both.1) both.0

in_values : (value : List ℕ → Option (List ℕ)) (w : RecordWords) → words_in value ≡ Some w → is_sound w.trace w.report w.workers ≡ true
in_values value w e =
    let program = bound (value (codes "program")) _ w e in
    let state = bound (value (codes "state")) _ w program.1 in
    let requests = bound (value (codes "requests")) _ w state.1 in
    let trace = bound (value (codes "trace")) _ w requests.1 in
    let report = bound (value (codes "report")) _ w trace.1 in
    let workers = bound (number_or 1 (value (codes "workers"))) _ w report.1 in
    let seed = bound (number_or 0 (value (codes "seed"))) _ w workers.1 in
    let found : RecordWords = record {
      program = program.0;
      state = state.0;
      requests = requests.0;
      trace = trace.0;
      report = report.0;
      turns = value (codes "turns");
      workers = workers.0;
      seed = seed.0;
    } in
    sound found w seed.1

in_taken : (words : List (List ℕ)) (w : RecordWords) → taken_words words ≡ Some w → is_sound w.trace w.report w.workers ≡ true
unfolding taken
in_taken words w e =
    let taken = if_true (is_empty (fault_of record_app words)) (words_in (λ id. first_of id (matches_of record_app words))) w e in
    in_values (λ id. first_of id (matches_of record_app words)) w taken.1

is_recording : (v : Option RecordWords) (w : RecordWords) → if_read a_recording v ≡ a_recording w → v ≡ Some w
is_recording (Some v) w e = let same : v ≡ w = cc in ap (λ u. Some u) same
is_recording None w e = cc

in_command : (a b c d : Bool) (name : Option (List ℕ)) (names : Option ReplayNames) (v : Option RecordWords) (x : Option AuditWords) (w : RecordWords)
    → cond a (if_read a_check name) (cond b (if_read a_replay names) (cond c (if_read a_recording v) (cond d (if_read an_audit x) usage)))
    ≡ a_recording w → v ≡ Some w
in_command true b c d (Some name) names v x w e = absurd cc
in_command true b c d None names v x w e = absurd cc
in_command false true c d name (Some names) v x w e = absurd cc
in_command false true c d name None v x w e = absurd cc
in_command false false true d name names v x w e = is_recording v w e
in_command false false false true name names v (Some x) w e = absurd cc
in_command false false false true name names v None w e = absurd cc
in_command false false false false name names v x w e = absurd cc

in_words : (words : List (List ℕ)) (w : RecordWords) → command words ≡ a_recording w → is_sound w.trace w.report w.workers ≡ true
in_words [] w e = absurd cc
in_words (name ∷ words) w e =
    in_taken words w
    (in_command (bytes_eq name (codes "check")) (bytes_eq name (codes "replay")) (bytes_eq name (codes "record")) (bytes_eq name (codes "audit"))
    (in_one (names_in words)) (in_four (names_in words)) (taken_words words) (audit_taken words) w e)

first_true : (a b : Bool) → (not a && b) ≡ true → a ≡ true → ⊥
first_true true b e is = cc
first_true false b e is = cc

-- the trace and the report have different names
pub other_names : (words : List (List ℕ)) (w : RecordWords) → command words ≡ a_recording w → w.trace ≢ w.report
other_names words w e same =
    first_true (bytes_eq w.trace w.report) _ (in_words words w e) ((bytes_eq-Decides w.trace w.report).1 same)
