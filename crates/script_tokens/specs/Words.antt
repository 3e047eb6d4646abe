-- The words that are always written the same: keywords and signs.
use Rattle.std.specs.Prelude.{ℕ, List, [], ◌∷◌, Option, find, codes}
use Rattle.std.specs.Str.{bytes_eq}
use Rattle.script_tokens.specs.declared.word.Word.{Word}
use Rattle.script_tokens.specs.declared.word.Word.TheVariants.{Store, Table, Function, Page, Let, Set, If, Else, While, For, In, Echo, Status, Return, Do, Or, And, Not, True, False, Null, Transact, Insert, Select, From, Update, Delete, Expect, Where, Semicolon, Comma, Open, Close, BraceOpen, BraceClose, SquareOpen, SquareClose, Becomes, Equal, Unequal, Less, AtMost, Greater, AtLeast, Plus, Minus, Times, Over, Percent}

-- how each is written
abbrev pub spelling_of : Word → List ℕ
spelling_of Store = codes "store"
spelling_of Table = codes "table"
spelling_of Function = codes "function"
spelling_of Page = codes "page"
spelling_of Let = codes "let"
spelling_of Set = codes "set"
spelling_of If = codes "if"
spelling_of Else = codes "else"
spelling_of While = codes "while"
spelling_of For = codes "for"
spelling_of In = codes "in"
spelling_of Echo = codes "echo"
spelling_of Status = codes "status"
spelling_of Return = codes "return"
spelling_of Do = codes "do"
spelling_of Or = codes "or"
spelling_of And = codes "and"
spelling_of Not = codes "not"
spelling_of True = codes "true"
spelling_of False = codes "false"
spelling_of Null = codes "null"
spelling_of Transact = codes "transact"
spelling_of Insert = codes "insert"
spelling_of Select = codes "select"
spelling_of From = codes "from"
spelling_of Update = codes "update"
spelling_of Delete = codes "delete"
spelling_of Expect = codes "expect"
spelling_of Where = codes "where"
spelling_of Semicolon = codes ";"
spelling_of Comma = codes ","
spelling_of Open = codes "("
spelling_of Close = codes ")"
spelling_of BraceOpen = codes "{"
spelling_of BraceClose = codes "}"
spelling_of SquareOpen = codes "["
spelling_of SquareClose = codes "]"
spelling_of Becomes = codes "="
spelling_of Equal = codes "=="
spelling_of Unequal = codes "!="
spelling_of Less = codes "<"
spelling_of AtMost = codes "<="
spelling_of Greater = codes ">"
spelling_of AtLeast = codes ">="
spelling_of Plus = codes "+"
spelling_of Minus = codes "-"
spelling_of Times = codes "*"
spelling_of Over = codes "/"
spelling_of Percent = codes "%"

-- all of them
unfoldable pub words : List Word
words =
    Store ∷ Table ∷ Function ∷ Page ∷ Let ∷ Set ∷ If ∷ Else ∷ While ∷ For
    ∷ In ∷ Echo ∷ Status ∷ Return ∷ Do ∷ Or ∷ And ∷ Not ∷ True ∷ False
    ∷ Null ∷ Transact ∷ Insert ∷ Select ∷ From ∷ Update ∷ Delete ∷ Expect ∷ Where ∷ Semicolon
    ∷ Comma ∷ Open ∷ Close ∷ BraceOpen ∷ BraceClose ∷ SquareOpen ∷ SquareClose ∷ Becomes ∷ Equal ∷ Unequal
    ∷ Less ∷ AtMost ∷ Greater ∷ AtLeast ∷ Plus ∷ Minus ∷ Times ∷ Over ∷ Percent ∷ []

-- the word that is written so
abbrev pub word_of : List ℕ → Option Word
word_of bytes = find (λ w. bytes_eq (spelling_of w) bytes) words
