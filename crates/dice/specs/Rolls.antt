-- The random numbers of a seat.
use Rattle.std.specs.Prelude.{ℕ, ◌+◌, ◌*◌, ◌%◌, ◌^◌, ◌++◌, replicate}
use Rattle.std.specs.Int.{w64, to_le_bytes}
use Rattle.rand_chacha.specs.ChaCha.{ChaCha, next_word, of_seed}

-- the generator of a seat: the key is the seed and 24 zero bytes, the stream has the seat's number
abbrev pub dice_of : (seed seat : ℕ) → ChaCha
dice_of seed seat = record (of_seed (to_le_bytes w64 seed ++ replicate 24 0)) { stream = seat }

-- a word of ChaCha8, and the generator after it
abbrev pub word : ChaCha → ℕ × ChaCha
word dice = next_word 4 dice

-- a number below a bound, of two words, and the generator after them
abbrev pub roll : ℕ → ChaCha → ℕ × ChaCha
roll bound dice = (((word dice).0 * 2 ^ 32 + (word (word dice).1).0) % bound, (word (word dice).1).1)
