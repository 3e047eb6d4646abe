-- The moment at a place of a schedule, between those before it and those behind it.
use Rattle.std.proofs.Common.{◌≡◌, ◌∙◌, ◌+◌, ◌<◌, ℕ, List, [], ◌∷◌, ◌++◌, Some, length, take, drop, get_or, ap, sym}
use Rattle.std.proofs.lemmas.List.{take_more, drop_more}
use Rattle.basis.specs.Lists.{nth}
use Rattle.basis.proofs.Options.{some_is}
use Rattle.basis.proofs.Places.{nth-get_or}
use Rattle.period.specs.declared.schedule.Moment.{Moment}
use Rattle.period.specs.declared.schedule.Moment.TheVariants.{Arrive}

at_place : (ms : List Moment) (place : ℕ) (m : Moment) → place < length ms → nth ms place ≡ Some m → get_or ms place (Arrive 0) ≡ m
at_place ms place m inside is = some_is (sym (nth-get_or (Arrive 0) ms place inside) ∙ is)

pub comes_next : (ms : List Moment) (place : ℕ) (m : Moment) → place < length ms → nth ms place ≡ Some m
    → drop place ms ≡ m ∷ drop (place + 1) ms
comes_next ms place m inside is =
    drop_more ms place (Arrive 0) inside ∙ ap (λ n. n ∷ drop (place + 1) ms) (at_place ms place m inside is)

pub comes_last : (ms : List Moment) (place : ℕ) (m : Moment) → place < length ms → nth ms place ≡ Some m
    → take (place + 1) ms ≡ take place ms ++ m ∷ []
comes_last ms place m inside is =
    take_more ms place (Arrive 0) inside ∙ ap (λ n. take place ms ++ n ∷ []) (at_place ms place m inside is)
