-- Words that `clap` takes for a simple command, and words that it refuses.
use Rattle.std.proofs.Common.{◌≡◌, ◌∙◌, ℕ, true, false, cond, Result, Ok, Err, IfOk, List, [], ◌∷◌, map, length, Option, None, String, Global, string_bytes, inl, inr, ap, sym, arith}
use Rattle.std.proofs.lemmas.Bool.{ne_eqb}
use Rattle.clap.specs.Faults.{fault_of}
use Rattle.clap.specs.Kinds.{HasKind, IsAmong, Kinds}
use Rattle.clap.specs.Matches.{found_of, first_value}
use Rattle.clap.specs.Simple.{App, HasMatchesOf, is_simple, matches_of}
use Rattle.clap.specs.Values.{kind_of}
use Rattle.clap.specs.Walk.{Row, first_of, is_empty, rows_of}
use Rattle.clap.specs.declared.error.Error.{Error}
use Rattle.clap.specs.declared.error.kind.ErrorKind.{ErrorKind}
use Rattle.clap.specs.declared.error.kind.ErrorKind.TheVariants.{OutOfMemory}
use Rattle.clap.specs.declared.parser.matches.ArgMatches.{ArgMatches}
use Rattle.clap.specs.declared.parser.matches.Found.{Found}
use Rattle.clap.proofs.WalkLemmas.{first_value-rows}
use Rattle.command_words.specs.WordsApp.{taken}

-- the values that were found are those of the rows
values : (f : Found) → first_value f ≡ (λ (id : List ℕ). first_of id (rows_of f))
values f = λ i id. first_value-rows f id i

-- where the words are taken, what was found is what they say
pub takes_words : {X : Type 0} (app : App) (say : (List ℕ → Option (List ℕ)) → Option X) → is_simple app ≡ true
    → (a : App) (words : List (String Global)) (m : ArgMatches) → a ≡ app
    → fault_of a (map string_bytes words) ≡ [] → HasMatchesOf a (map string_bytes words) m
    → say (first_value (found_of m)) ≡ taken app say (map string_bytes words)
unfolding taken
takes_words app say simple a words m is e h =
    let ws = map string_bytes words in
    let none : fault_of app ws ≡ [] = ap (λ b. fault_of b ws) (sym is) ∙ e in
    let rows : rows_of (found_of m) ≡ matches_of app ws = (h (ap is_simple is ∙ simple)).0 ∙ ap (λ (b : App). matches_of b ws) is in
    ap say (values (found_of m))
    ∙ ap (λ (rs : List Row). say (λ id. first_of id rs)) rows
    ∙ sym (ap (λ (k : Kinds). cond (is_empty k) (say (λ id. first_of id (matches_of app ws))) None) none)

-- the same of a result
pub takes_found : {X Y E : Type 0} (view : X → Option Y) (r : Result X E) (found told : Option Y)
    → found ≡ told → IfOk r (λ x. view x ≡ found) → IfOk r (λ x. view x ≡ told)
takes_found view (Ok x) found told is h = h ∙ is
takes_found view (Err e) found told is h = h

among_some : (k : ErrorKind) (ks : Kinds) → IsAmong k ks → is_empty ks ≡ false
among_some k [] h = absurd h
among_some k (x ∷ ks) h = ne_eqb (length (x ∷ ks)) 0 (λ e. absurd (omega (arith, e)))

-- where they are refused, and memory isn't wanting, they say nothing
pub refuses_words : {X : Type 0} (app : App) (say : (List ℕ → Option (List ℕ)) → Option X)
    → (a : App) (words : List (String Global)) (e : Error) → a ≡ app
    → HasKind (fault_of a (map string_bytes words)) e → (kind_of e ≡ OutOfMemory → ⊥)
    → None ≡ taken app say (map string_bytes words)
unfolding taken
refuses_words app say a words e is (inl out) here = absurd (here out)
refuses_words app say a words e is (inr among) here =
    let ws = map string_bytes words in
    let some : is_empty (fault_of app ws) ≡ false
    = ap (λ b. is_empty (fault_of b ws)) (sym is) ∙ among_some (kind_of e) (fault_of a ws) among in
    sym (ap (λ b. cond b (say (λ id. first_of id (matches_of app ws))) None) some)
