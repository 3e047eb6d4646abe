-- The words by the byte that they begin with, among which the code looks for one.
use Rattle.std.specs.Prelude.{ℕ, List, [], ◌∷◌, ◌==◌, if◌then◌else◌}
use Rattle.script_tokens.specs.declared.word.Word.{Word}
use Rattle.script_tokens.specs.declared.word.Word.TheVariants.{Store, Table, Function, Page, Let, Set, If, Else, While, For, In, Echo, Status, Return, Do, Or, And, Not, True, False, Null, Transact, Insert, Select, From, Update, Delete, Expect, Where, Semicolon, Comma, Open, Close, BraceOpen, BraceClose, SquareOpen, SquareClose, Becomes, Equal, Unequal, Less, AtMost, Greater, AtLeast, Plus, Minus, Times, Over, Percent}

-- the words that begin with this byte
abbrev pub beginning_with : ℕ → List Word
beginning_with b =
    if b == 97 then And ∷ [] else
    if b == 100 then Do ∷ Delete ∷ [] else
    if b == 101 then Else ∷ Echo ∷ Expect ∷ [] else
    if b == 102 then Function ∷ For ∷ False ∷ From ∷ [] else
    if b == 105 then If ∷ In ∷ Insert ∷ [] else
    if b == 108 then Let ∷ [] else
    if b == 110 then Not ∷ Null ∷ [] else
    if b == 111 then Or ∷ [] else
    if b == 112 then Page ∷ [] else
    if b == 114 then Return ∷ [] else
    if b == 115 then Store ∷ Set ∷ Status ∷ Select ∷ [] else
    if b == 116 then Table ∷ True ∷ Transact ∷ [] else
    if b == 117 then Update ∷ [] else
    if b == 119 then While ∷ Where ∷ [] else
    if b == 59 then Semicolon ∷ [] else
    if b == 44 then Comma ∷ [] else
    if b == 40 then Open ∷ [] else
    if b == 41 then Close ∷ [] else
    if b == 123 then BraceOpen ∷ [] else
    if b == 125 then BraceClose ∷ [] else
    if b == 91 then SquareOpen ∷ [] else
    if b == 93 then SquareClose ∷ [] else
    if b == 61 then Becomes ∷ Equal ∷ [] else
    if b == 33 then Unequal ∷ [] else
    if b == 60 then Less ∷ AtMost ∷ [] else
    if b == 62 then Greater ∷ AtLeast ∷ [] else
    if b == 43 then Plus ∷ [] else
    if b == 45 then Minus ∷ [] else
    if b == 42 then Times ∷ [] else
    if b == 47 then Over ∷ [] else
    if b == 37 then Percent ∷ [] else
    []
