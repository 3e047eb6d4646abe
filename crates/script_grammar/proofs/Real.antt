-- Tokens that bytes spell, by which a program's front is completed.
use Rattle.std.proofs.Common.{pos, [], ◌∷◌, refl, codes}
use Rattle.script_tokens.specs.Kinds as kind
use Rattle.script_tokens.specs.Tokens.{IsSpelled}
use Rattle.script_tokens.specs.Words as table
use Rattle.script_tokens.specs.Words.{spelling_of}
use Rattle.script_tokens.specs.declared.word.Word.{Word}
use Rattle.script_tokens.specs.declared.word.Word.TheVariants as w

pub word_spelled : (v : Word) → IsSpelled (kind.fixed v)
unfolding table.words
word_spelled w.Store = (spelling_of w.Store, refl)
word_spelled w.Table = (spelling_of w.Table, refl)
word_spelled w.Function = (spelling_of w.Function, refl)
word_spelled w.Page = (spelling_of w.Page, refl)
word_spelled w.Let = (spelling_of w.Let, refl)
word_spelled w.Set = (spelling_of w.Set, refl)
word_spelled w.If = (spelling_of w.If, refl)
word_spelled w.Else = (spelling_of w.Else, refl)
word_spelled w.While = (spelling_of w.While, refl)
word_spelled w.For = (spelling_of w.For, refl)
word_spelled w.In = (spelling_of w.In, refl)
word_spelled w.Echo = (spelling_of w.Echo, refl)
word_spelled w.Status = (spelling_of w.Status, refl)
word_spelled w.Return = (spelling_of w.Return, refl)
word_spelled w.Do = (spelling_of w.Do, refl)
word_spelled w.Or = (spelling_of w.Or, refl)
word_spelled w.And = (spelling_of w.And, refl)
word_spelled w.Not = (spelling_of w.Not, refl)
word_spelled w.True = (spelling_of w.True, refl)
word_spelled w.False = (spelling_of w.False, refl)
word_spelled w.Null = (spelling_of w.Null, refl)
word_spelled w.Transact = (spelling_of w.Transact, refl)
word_spelled w.Insert = (spelling_of w.Insert, refl)
word_spelled w.Select = (spelling_of w.Select, refl)
word_spelled w.From = (spelling_of w.From, refl)
word_spelled w.Update = (spelling_of w.Update, refl)
word_spelled w.Delete = (spelling_of w.Delete, refl)
word_spelled w.Expect = (spelling_of w.Expect, refl)
word_spelled w.Where = (spelling_of w.Where, refl)
word_spelled w.Semicolon = (spelling_of w.Semicolon, refl)
word_spelled w.Comma = (spelling_of w.Comma, refl)
word_spelled w.Open = (spelling_of w.Open, refl)
word_spelled w.Close = (spelling_of w.Close, refl)
word_spelled w.BraceOpen = (spelling_of w.BraceOpen, refl)
word_spelled w.BraceClose = (spelling_of w.BraceClose, refl)
word_spelled w.SquareOpen = (spelling_of w.SquareOpen, refl)
word_spelled w.SquareClose = (spelling_of w.SquareClose, refl)
word_spelled w.Becomes = (spelling_of w.Becomes, refl)
word_spelled w.Equal = (spelling_of w.Equal, refl)
word_spelled w.Unequal = (spelling_of w.Unequal, refl)
word_spelled w.Less = (spelling_of w.Less, refl)
word_spelled w.AtMost = (spelling_of w.AtMost, refl)
word_spelled w.Greater = (spelling_of w.Greater, refl)
word_spelled w.AtLeast = (spelling_of w.AtLeast, refl)
word_spelled w.Plus = (spelling_of w.Plus, refl)
word_spelled w.Minus = (spelling_of w.Minus, refl)
word_spelled w.Times = (spelling_of w.Times, refl)
word_spelled w.Over = (spelling_of w.Over, refl)
word_spelled w.Percent = (spelling_of w.Percent, refl)

pub zero_spelled : IsSpelled (kind.number (pos 0))
unfolding table.words
zero_spelled = (codes "0", refl)

pub name_spelled : IsSpelled (kind.name (codes "x"))
unfolding table.words
name_spelled = (codes "x", refl)

pub text_spelled : IsSpelled (kind.text [])
unfolding table.words
text_spelled = (34 ∷ 34 ∷ [], refl)
