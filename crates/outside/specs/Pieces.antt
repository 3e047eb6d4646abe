-- Streams that take and give a bounded number of bytes at a time.
use Rattle.std.specs.Prelude.{ℕ, min, Option, Some, None}
use Rattle.std.specs.declared.num.NonZeroUsize.{NonZeroUsize}

-- how many of so many bytes go into one piece
abbrev pub piece_len : Option NonZeroUsize → ℕ → ℕ
piece_len None len = len
piece_len (Some most) len = min len most.value
