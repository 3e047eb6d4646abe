-- What is put changes no other names.
use Rattle.std.proofs.Common.{◌≡◌, ◌∙◌, ℕ, List, [], ◌∷◌, ◌++◌, Option, Some, None, Result, Ok, Err, refl, ap, sym, subst}
use Rattle.std.specs.FinMap.{get}
use Rattle.std.proofs.lemmas.Option.{same_Some}
use Rattle.std.specs.Prelude.{is_some}
use Rattle.outside.specs.Files.{Files, OthersStay}
use Rattle.outside.proofs.ShelfFiles.{put-others}
use Rattle.outside.specs.declared.fault.Fault.{Fault}
use Rattle.command_words.specs.Commands.{Command}
use Rattle.commands.specs.Asked.{HasItsFiles, names_written, outputs_of}
use Rattle.commands.specs.Outputs.{Outcome, Put, AllOthersStay, ArePut, IsRefused, names_put, with_put, with_puts}
use Rattle.commands.specs.Seen.{ShelfSeen}
use Rattle.commands.specs.declared.answer.Answer.{Answer}
use Rattle.commands.specs.declared.answer.Answer.TheVariants.{Usage, Input, Checked, Replay, Recorded, TooLong, Accepted, Rejected}

-- nothing changed
pub all_stay : (names : List (List ℕ)) (before after : Option Files) → after ≡ before → AllOthersStay names before after
all_stay names before after same = record {
  told = ap is_some same;
  others = λ old new at_first at_last name apart. ap (λ m. get m name) (same_Some new old (sym at_last ∙ same ∙ at_first));
}

-- one name more
stay_then : (before mid after : Option Files) (name : List ℕ) (names : List (List ℕ)) → OthersStay before mid name → AllOthersStay names mid after
    → AllOthersStay (name ∷ names) before after
stay_then before None after name names first rest = record {
  told = rest.told ∙ first.told;
  others = λ old new at_first at_last other apart. absurd (let e = first.told ∙ ap is_some at_first in cc);
}
stay_then before (Some mid) after name names first rest = record {
  told = rest.told ∙ first.told;
  others = λ old new at_first at_last other apart.
      rest.others mid new refl at_last other apart.1 ∙ first.others old mid at_first refl other apart.0;
}

one_put : (put : Put) (shelf : ShelfSeen) → OthersStay shelf.told.files (with_put put shelf).told.files put.0
one_put put shelf = put-others {A = Unit {0}} shelf.told (with_put put shelf).told put.0 put.1 (Ok tt) refl

puts_stay : (puts : List Put) (shelf : ShelfSeen) → AllOthersStay (names_put puts) shelf.told.files (with_puts puts shelf).told.files
puts_stay [] shelf = all_stay [] shelf.told.files shelf.told.files refl
puts_stay (put ∷ puts) shelf =
    stay_then shelf.told.files (with_put put shelf).told.files (with_puts puts (with_put put shelf)).told.files put.0 (names_put puts)
    (one_put put shelf) (puts_stay puts (with_put put shelf))

refused_stays : (before : List Put) (put : Put) (after : List Put) (shelf new : ShelfSeen)
    → OthersStay (with_puts before shelf).told.files new.told.files put.0
    → AllOthersStay (names_put (before ++ put ∷ after)) shelf.told.files new.told.files
refused_stays [] put after shelf new last =
    stay_then shelf.told.files new.told.files new.told.files put.0 (names_put after) last (all_stay (names_put after) new.told.files new.told.files refl)
refused_stays (p ∷ before) put after shelf new last =
    stay_then shelf.told.files (with_put p shelf).told.files new.told.files p.0 (names_put (before ++ put ∷ after))
    (one_put p shelf) (refused_stays before put after (with_put p shelf) new last)

pub put_stays : {A : Type 0} (old new : ShelfSeen) (puts : List Put) (result : Result A Fault) → ArePut old new puts result
    → AllOthersStay (names_put puts) old.told.files new.told.files
put_stays old new puts (Ok done) put =
    subst (λ (s : ShelfSeen). AllOthersStay (names_put puts) old.told.files s.told.files) (sym put) (puts_stay puts old)
put_stays old new puts (Err fault) h =
    subst (λ ps. AllOthersStay (names_put ps) old.told.files new.told.files) (sym h.parts)
    (refused_stays h.before h.put h.after old new
    (put-others {A = Unit {0}} (with_puts h.before old).told new.told h.put.0 h.put.1 (Err fault) h.refused))

-- ---- a command

-- where none changes, none but these does
widen : (names : List (List ℕ)) (before after : Option Files) → AllOthersStay [] before after → AllOthersStay names before after
widen names before after none = record {
  told = none.told;
  others = λ old new at_first at_last name apart. none.others old new at_first at_last name tt;
}

within : (c : Command) (answer : Answer) (before after : Option Files) → AllOthersStay (names_written c answer) before after
    → AllOthersStay (outputs_of c) before after
within c Usage before after h = widen (outputs_of c) before after h
within c (Input fault) before after h = widen (outputs_of c) before after h
within c (Checked counts) before after h = widen (outputs_of c) before after h
within c (Replay moments replayed) before after h = widen (outputs_of c) before after h
within c (Recorded requests groups) before after h = h
within c (TooLong which) before after h = widen (outputs_of c) before after h
within c (Accepted requests groups evaluated plain) before after h = h
within c (Rejected reason) before after h = widen (outputs_of c) before after h

-- what was read is as before, and what was put are outputs of the command
pub outputs_change : (c : Command) (outcome : Outcome) (before read after : Option Files) → HasItsFiles c outcome → read ≡ before
    → AllOthersStay (names_put outcome.puts) read after → AllOthersStay (outputs_of c) before after
outputs_change c outcome before read after its same stay =
    within c outcome.answer before after
    (subst (λ b. AllOthersStay (names_written c outcome.answer) b after) same
    (subst (λ names. AllOthersStay names read after) its stay))
