-- A text's sizes, from a place on.
use Rattle.std.proofs.Common.{ℕ, ◌+◌, List, length, Option, Some, None}

-- the sizes, with so many bytes of content and so many bytes before
abbrev pub measured : ℕ → ℕ → Option (List ℕ × ℕ) → Option (ℕ × ℕ)
measured content n None = None
measured content n (Some t) = Some (content + length t.0, n + t.1)
