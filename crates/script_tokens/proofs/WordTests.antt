-- Words are the same where they are written the same.
use Rattle.std.proofs.Common.{◌≡◌, ◌<◌, ℕ, List, [], ◌∷◌, length, get_or, arith, Option, Some, None, Bool, true, false, cond, find, refl, sym, ap, ◌∙◌, rules}
use Rattle.std.specs.Str.{bytes_eq}
use Rattle.std.proofs.lemmas.Slice.Eq.{bytes_eq-Decides}
use denote.Enum.Bare.{sameb, true_same, false_same}
use Rattle.basis.proofs.Options.{some_one}
use Rattle.script_tokens.specs.declared.word.Word.{Word}
use Rattle.script_tokens.specs.contracts.word.Word.{the_type}
use Rattle.script_tokens.specs.declared.word.Word.TheVariants as w
use Rattle.script_tokens.specs.Words.{spelling_of, word_of, words}
use Rattle.script_tokens.specs.Beginnings.{beginning_with}

-- the first word of these that is written so
abbrev pub first_of : List ℕ → List Word → Option Word
first_of bytes ws = find (λ w. bytes_eq (spelling_of w) bytes) ws

abbrev pub first_byte : List ℕ → ℕ
first_byte bytes = get_or bytes 0 0

-- each word is found by its spelling
pub found : (w : Word) → word_of (spelling_of w) ≡ Some w
unfolding words
found w.Store = refl
found other = refl

-- also among those that begin as it does
pub found_beginning : (w : Word) → first_of (spelling_of w) (beginning_with (first_byte (spelling_of w))) ≡ Some w
found_beginning w.Store = refl
found_beginning other = refl

pub spelled_once : (v w : Word) → spelling_of v ≡ spelling_of w → v ≡ w
spelled_once v w p = some_one v w (sym (found v) ∙ ap word_of p ∙ found w)

same_by : (v w : Word) (t : Bool) → bytes_eq (spelling_of v) (spelling_of w) ≡ t → sameb the_type v w ≡ t
same_by v w true p = true_same the_type v w (spelled_once v w ((bytes_eq-Decides (spelling_of v) (spelling_of w)).0 p))
same_by v w false p = false_same the_type (search rules) v w
    (λ e. differs (bytes_eq (spelling_of v) (spelling_of w)) p
    ((bytes_eq-Decides (spelling_of v) (spelling_of w)).1 (ap spelling_of e)))
  where
    differs : (t : Bool) → t ≡ false → t ≡ true → ⊥
    differs t p q = cc

pub same_spelling : (v w : Word) → sameb the_type v w ≡ bytes_eq (spelling_of v) (spelling_of w)
same_spelling v w = same_by v w (bytes_eq (spelling_of v) (spelling_of w)) refl

by_test : (p : Word → Bool) (ws : List Word) (w v : Word) (t : Bool) → p w ≡ t → (find p ws ≡ Some v → p v ≡ true)
    → cond t (Some w) (find p ws) ≡ Some v → p v ≡ true
by_test p ws w v true h later e = rw (← some_one w v e) h
by_test p ws w v false h later e = later e

first_passes : (p : Word → Bool) (ws : List Word) (v : Word) → find p ws ≡ Some v → p v ≡ true
first_passes p [] v e = cc
first_passes p (w ∷ ws) v e = by_test p ws w v (p w) refl (first_passes p ws v) e

-- what was found is written so
spelled_so : (bytes : List ℕ) (ws : List Word) (v : Word) → first_of bytes ws ≡ Some v → spelling_of v ≡ bytes
spelled_so bytes ws v e = (bytes_eq-Decides (spelling_of v) bytes).0 (first_passes (λ w. bytes_eq (spelling_of w) bytes) ws v e)

same_option : (o q : Option Word) → ((v : Word) → o ≡ Some v → q ≡ Some v) → ((v : Word) → q ≡ Some v → o ≡ Some v) → o ≡ q
same_option None None to back = refl
same_option None (Some v) to back = back v refl
same_option (Some v) q to back = sym (to v refl)

-- a word is found among those that begin with its first byte
pub word_of_beginning : (bs : List ℕ) → first_of bs (beginning_with (first_byte bs)) ≡ word_of bs
word_of_beginning bs =
    same_option (first_of bs (beginning_with (first_byte bs))) (word_of bs)
    (λ v e. ap word_of (sym (spelled_so bs (beginning_with (first_byte bs)) v e)) ∙ found v)
    (λ v e. ap (λ x. first_of x (beginning_with (first_byte x))) (sym (spelled_so bs words v e)) ∙ found_beginning v)

pub no_word : (bs : List ℕ) → length bs < 1 → None ≡ word_of bs
unfolding words
no_word [] h = refl
no_word (b ∷ bs) h = absurd (omega arith)
