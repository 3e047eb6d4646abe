-- What members print after their bodies.
use Rattle.std.specs.Prelude.{◌≡◌, ◌<◌, ℕ, List, [], ◌∷◌, ◌++◌, Result, Ok, Err}
use Rattle.script_tree.specs.declared.fault.ScriptFault.TheVariants.{TooLarge}
use Rattle.script_meaning.specs.Run.{Progress, goes, stops}
use Rattle.script_meaning.specs.declared.run.Stop.TheVariants.{Fault as fault}
use Rattle.script_nodes.specs.NodeLaws.{print_text}
use Rattle.multivalue.specs.Many.{Many, member_value}
use Rattle.multivalue.specs.declared.apart.Apart.{Apart}
use Rattle.multivalue.specs.declared.apart.Apart.TheVariants.{Memory, Fault, Differ}
use Rattle.multi_bodies.specs.BodiesOf.{body_at}

-- One of n members has room for its text, and another has none.
pub record SomeLackRoom (n : ℕ) (m : Many) (old : List Many) : Type 0 where
  pub one : ℕ
  pub other : ℕ
  pub one' : one < n
  pub other' : other < n
  pub prints' : (p : Progress) → p.body ≡ body_at one old
      → print_text (member_value m one) p ≡ goes tt (record p { body = body_at one (old ++ m ∷ []) })
  pub fails' : (p : Progress) → p.body ≡ body_at other old → print_text (member_value m other) p ≡ stops (fault TooLarge) p

-- Each of n members prints a text after its body.
abbrev pub PrintsAll : (n : ℕ) → Many → List Many → Result (Unit {0}) Apart → List Many → Type 0
PrintsAll n m old (Ok x) new = (i : ℕ) → i < n → (p : Progress) → p.body ≡ body_at i old
    → print_text (member_value m i) p ≡ goes tt (record p { body = body_at i new })
PrintsAll n m old (Err Memory) new = Unit {0}
PrintsAll n m old (Err (Fault f)) new = (new ≡ old)
    × ((i : ℕ) → i < n → (p : Progress) → p.body ≡ body_at i old
    → print_text (member_value m i) p ≡ stops (fault f) p)
PrintsAll n m old (Err Differ) new = SomeLackRoom n m old
