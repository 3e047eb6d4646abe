-- What HTML reads as itself.
use Rattle.std.specs.Prelude.{ℕ, ◌==◌, Bool, true, false, if◌then◌else◌, List}
use Rattle.std.specs.List.{list_all}

-- a byte that is not spelled out
abbrev pub is_plain : ℕ → Bool
is_plain b =
    if b == 38 then false else (if b == 60 then false else (if b == 62 then false
    else (if b == 34 then false else (if b == 39 then false else true))))

-- bytes of which none is spelled out
abbrev pub are_plain : List ℕ → Bool
are_plain bytes = list_all is_plain bytes
