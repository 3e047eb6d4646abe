-- The content of a text.
use Rattle.std.specs.Prelude.{ℕ, ◌+◌, ◌-◌, ◌*◌, ◌%◌, List, [], ◌∷◌, ◌++◌, Option, Some, None, Bool, if◌then◌else◌, nat_le, ◌==◌, ◌&&◌, ◌||◌}
use Rattle.script_tokens.specs.declared.text.Mode.{Mode}
use Rattle.script_tokens.specs.declared.text.Mode.TheVariants.{Plain, Escaped, High, Low}
use Rattle.script_tokens.specs.declared.text.Step.{Step}
use Rattle.script_tokens.specs.declared.text.Step.TheVariants.{Ends, Fails, Goes, Puts}

-- whether the last one is within the bounds of the first two
abbrev pub between : ℕ → ℕ → ℕ → Bool
between low high b = nat_le low b && nat_le b high

-- 0 to 9, a to f, A to F
abbrev pub hex_value : ℕ → Option ℕ
hex_value b =
    if between 48 57 b then Some (b - 48)
    else if between 97 102 b then Some (b - 97 + 10)
    else if between 65 70 b then Some (b - 65 + 10)
    else None

-- behind the first digit of an escape comes the second one; what is no digit fails
abbrev pub high : Option ℕ → Step
high None = Fails
high (Some n) = Goes (Low n)

-- both digits of an escape put one byte; what is no digit fails
abbrev pub low : ℕ → Option ℕ → Step
low h None = Fails
low h (Some n) = Puts Plain (h % 16 * 16 + n)

-- a quote ends the text, an LF may not stand in it, a backslash begins an escape, all else stands for itself;
-- an escape is one of \" \\ \n \t \xHH (34 is the quote, 92 the backslash, 110 n, 116 t, 120 x)
abbrev pub text_step : Mode → ℕ → Step
text_step Plain b = if b == 34 then Ends else if b == 10 then Fails else if b == 92 then Goes Escaped else Puts Plain b
text_step Escaped b = if b == 34 || b == 92 then Puts Plain b else if b == 110 then Puts Plain 10 else if b == 116 then Puts Plain 9 else if b == 120 then Goes High else Fails
text_step High b = high (hex_value b)
text_step (Low h) b = low h (hex_value b)

-- further content in front, and further bytes that were read
abbrev pub behind : List ℕ → ℕ → Option (List ℕ × ℕ) → Option (List ℕ × ℕ)
behind front n None = None
behind front n (Some t) = Some (front ++ t.0, n + t.1)

-- the content of a text and how many bytes it takes, by its first step and what the rest gives
abbrev pub stepped : Step → (Mode → Option (List ℕ × ℕ)) → Option (List ℕ × ℕ)
stepped Ends rest = Some ([], 1)
stepped Fails rest = None
stepped (Goes mode) rest = behind [] 1 (rest mode)
stepped (Puts mode b) rest = behind (b ∷ []) 1 (rest mode)

-- a text's content, and how many bytes it takes up to its closing quote and with it; nothing where it doesn't end
abbrev pub text_from : Mode → List ℕ → Option (List ℕ × ℕ)
text_from mode [] = None
text_from mode (b ∷ bs) = stepped (text_step mode b) (λ next. text_from next bs)
