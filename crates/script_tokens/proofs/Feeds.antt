-- The word that stands in front.
use Rattle.std.proofs.Common.{◌≡◌, true, refl, ap}
use Rattle.std.proofs.lemmas.Slice.Eq.{bytes_eq-Decides}
use Rattle.script_tokens.specs.Kinds.{Kind, fixed, name, number, text}
use Rattle.script_tokens.specs.Words.{spelling_of}
use Rattle.script_tokens.specs.Feed.{is_word}
use Rattle.script_tokens.specs.declared.word.Word.{Word}
use Rattle.script_tokens.proofs.WordTests.{spelled_once}

pub word_is : (w : Word) (k : Kind) → is_word w k ≡ true → k ≡ fixed w
word_is w (fixed v) e = ap fixed (spelled_once v w ((bytes_eq-Decides (spelling_of v) (spelling_of w)).0 e))
word_is w (name bytes) e = cc
word_is w (number n) e = cc
word_is w (text content) e = cc

pub is_itself : (w : Word) → is_word w (fixed w) ≡ true
is_itself w = (bytes_eq-Decides (spelling_of w) (spelling_of w)).1 refl
