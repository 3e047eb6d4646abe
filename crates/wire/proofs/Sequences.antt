-- One field behind another one, and none where either is missed.
use Rattle.std.proofs.Common.{◌≡◌, ℕ, ◌+◌, List, ◌++◌, length, ap, sym, ◌∙◌, subst, append_assoc}
use Rattle.wire.specs.Spellings.{Field, IsSpelled, IsFieldAt, NoneIsAt, HasOneSpelling}
use Rattle.wire.proofs.Spelled.{joined, first_part, second_part, same_field}

-- a field, and behind it one whose kind depends on it
abbrev pub pair_field : {A B : Type 0} → Field A → (A → Field B) → Field (A × B)
pair_field f g = record {
  allows = λ p. f.allows p.0 × (g p.0).allows p.1;
  spelling = λ p. f.spelling p.0 ++ (g p.0).spelling p.1;
}

pub both_there : {A B : Type 0} (f : Field A) (g : A → Field B) (bytes : List ℕ) (at : ℕ) (x : A) (mid : ℕ) (y : B)
    (next : ℕ) → IsFieldAt f bytes at x mid → IsFieldAt (g x) bytes mid y next
    → IsFieldAt (pair_field f g) bytes at (x, y) next
both_there f g bytes at x mid y next p q =
    ((p.0, q.0), joined bytes (f.spelling x) ((g x).spelling y) at mid next p.1 q.1)

pub no_first : {A B : Type 0} (f : Field A) (g : A → Field B) (bytes : List ℕ) (at : ℕ) → NoneIsAt f bytes at → NoneIsAt (pair_field f g) bytes at
no_first f g bytes at none x next p =
    none x.0 (at + length (f.spelling x.0)) (p.0.0, first_part bytes (f.spelling x.0) ((g x.0).spelling x.1) at next p.1)

pub no_second : {A B : Type 0} (f : Field A) (g : A → Field B) → HasOneSpelling f
    → (bytes : List ℕ) (at : ℕ) (x : A) (mid : ℕ) → IsFieldAt f bytes at x mid → NoneIsAt (g x) bytes mid
    → NoneIsAt (pair_field f g) bytes at
no_second {A} f g one bytes at x mid here none y next p =
    let first = first_part bytes (f.spelling y.0) ((g y.0).spelling y.1) at next p.1 in
    let second = second_part bytes (f.spelling y.0) ((g y.0).spelling y.1) at next p.1 in
    let same = same_field f one bytes at y.0 x (at + length (f.spelling y.0)) mid (p.0.0, first) here in
    let There : A → Type 0 = λ z. (g z).allows y.1 × IsSpelled bytes (at + length (f.spelling y.0)) ((g z).spelling y.1) next in
    let moved : There x = subst There same.0 (p.0.1, second) in
    let Behind : ℕ → Type 0 = λ n. IsSpelled bytes n ((g x).spelling y.1) next in
    none y.1 next (moved.0, subst Behind same.1 moved.1)

abbrev pair : {A B : Type 0} → A → B → A × B
pair x y = (x, y)

pub pair_one : {A B : Type 0} (f : Field A) (g : A → Field B) → HasOneSpelling f → ((x : A) → HasOneSpelling (g x)) → HasOneSpelling (pair_field f g)
pair_one {A} f g one ones x x' r s p q e =
    let left = sym (append_assoc (f.spelling x.0) ((g x.0).spelling x.1) r) in
    let right = append_assoc (f.spelling x'.0) ((g x'.0).spelling x'.1) s in
    let first = one x.0 x'.0 ((g x.0).spelling x.1 ++ r) ((g x'.0).spelling x'.1 ++ s) p.0 q.0 (left ∙ e ∙ right) in
    let Second : A → Type 0 = λ z. (g z).allows x'.1 → (g x.0).spelling x.1 ++ r ≡ (g z).spelling x'.1 ++ s → (pair x.0 x.1 ≡ pair z x'.1) × (r ≡ s) in
    subst Second first.0 (λ allowed same. let second = ones x.0 x.1 x'.1 r s p.1 allowed same in (ap (pair x.0) second.0, second.1)) q.1 first.1
