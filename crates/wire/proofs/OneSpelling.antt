-- No two fields of a kind are spelled alike, and none begins another: numbers, byte strings and choices.
use Rattle.std.specs.Int.{w16, w32, w64}
use Rattle.wire.specs.Spellings.{HasOneSpelling, byte_field, number_field, integer_field, bytes_field, choice_field}
use Rattle.wire.proofs.Readings.{byte_at, number_at, integer_at, bytes_at, choice_at}
use Rattle.wire.proofs.Spelled.{has_one}
use Rattle.wire.proofs.NumberFields.{wide16, wide32, wide64, number_reader, integer_reader, bytes_reader}
use Rattle.wire.proofs.ChoiceFields.{byte_reader, choice_reader}

pub byte_one : HasOneSpelling byte_field
byte_one = has_one byte_field byte_at byte_reader

pub one_of_16 : HasOneSpelling (number_field w16)
one_of_16 = has_one (number_field w16) (number_at w16) (number_reader w16 wide16)

pub one_of_32 : HasOneSpelling (number_field w32)
one_of_32 = has_one (number_field w32) (number_at w32) (number_reader w32 wide32)

pub one_of_64 : HasOneSpelling (number_field w64)
one_of_64 = has_one (number_field w64) (number_at w64) (number_reader w64 wide64)

pub integer_one : HasOneSpelling integer_field
integer_one = has_one integer_field integer_at integer_reader

pub bytes_one : HasOneSpelling bytes_field
bytes_one = has_one bytes_field bytes_at bytes_reader

pub choice_one : HasOneSpelling choice_field
choice_one = has_one choice_field choice_at choice_reader
