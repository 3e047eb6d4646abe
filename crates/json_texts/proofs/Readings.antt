-- That bytes are read in one way.
use Rattle.std.proofs.Common.{◌≡◌, ◌∙◌, ℕ, List, Option, sym, ap}
use Rattle.serde_json.specs.Data as json
use Rattle.basis.proofs.Options.{some_is, none_is_not}
use Rattle.json_texts.specs.Reading.{IsJson, IsJsonOf, HasOtherShape}

same_tree : (bytes : List ℕ) (d e : json.Data) → IsJson bytes d → IsJson bytes e → d ≡ e
same_tree bytes d e h k = some_is (sym h.1 ∙ k.1)

pub same_given : {A : Type 0} (shape : json.Data → Option A) (bytes : List ℕ) (given other : A)
    → IsJsonOf shape bytes given → IsJsonOf shape bytes other → given ≡ other
same_given shape bytes given other h k = some_is (sym h.2 ∙ ap shape (same_tree bytes h.0 k.0 h.1 k.1) ∙ k.2)

-- what gives something has no other shape
pub gives_shape : {A : Type 0} (shape : json.Data → Option A) (bytes : List ℕ) (given : A) → IsJsonOf shape bytes given → HasOtherShape shape bytes → ⊥
gives_shape shape bytes given h k = none_is_not (sym k.2 ∙ ap shape (same_tree bytes k.0 h.0 k.1 h.1) ∙ h.2)
