-- How a text is printed.
use Rattle.std.specs.Prelude.{ℕ, ◌/◌, ◌%◌, List, [], ◌∷◌, ◌++◌, false, ◌==◌, ◌||◌, if◌then◌else◌, codes}
use Rattle.std.specs.Fmt.{digit_glyph}
use Rattle.std.specs.List.{flat_map}
use Rattle.script_tokens.specs.Texts.{between}

-- how a text shows a byte: a quote (34) and a backslash (92) behind a backslash, an LF and a tab by a letter, every
-- other byte outside 0x20 to 0x7e by two hexadecimal digits, and those within as they are
abbrev pub printed_byte : ℕ → List ℕ
printed_byte b =
    if b == 34 then codes "\\\""
    else if b == 92 then codes "\\\\"
    else if b == 10 then codes "\\n"
    else if b == 9 then codes "\\t"
    else if between 0 31 b || between 127 255 b then codes "\\x" ++ digit_glyph false (b / 16) ∷ digit_glyph false (b % 16) ∷ []
    else b ∷ []

-- each byte of a text as the text shows it
abbrev pub printed_content : List ℕ → List ℕ
printed_content content = flat_map printed_byte content

-- between quotes
abbrev pub printed_text : List ℕ → List ℕ
printed_text content = 34 ∷ printed_content content ++ 34 ∷ []
