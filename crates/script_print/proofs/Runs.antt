-- Runs of bytes of one class.
use Rattle.std.proofs.Common.{◌≡◌, ℕ, suc, List, [], ◌∷◌, ◌++◌, take, Bool, true, false, if◌then◌else◌, refl, ap}
use Rattle.script_tokens.specs.Tokens.{in_class, span, run}
use Rattle.script_tokens.specs.declared.lexeme.Class.{Class}

abbrev pub AllIn : Class → List ℕ → Type 0
AllIn c [] = Unit {0}
AllIn c (b ∷ bs) = (in_class c b ≡ true) × AllIn c bs

run_in_by : (c : Class) (b : ℕ) (bs : List ℕ) (t : Bool) → in_class c b ≡ t → AllIn c (run c bs) → AllIn c (take (if t then suc (span c bs) else 0) (b ∷ bs))
run_in_by c b bs true is more = (is, more)
run_in_by c b bs false is more = tt

pub run_in : (c : Class) (bs : List ℕ) → AllIn c (run c bs)
run_in c [] = tt
run_in c (b ∷ bs) = run_in_by c b bs (in_class c b) refl (run_in c bs)

-- a run goes up to the first byte that isn't of the class
pub run_up_to : (c : Class) (bs rest : List ℕ) (s : ℕ) → AllIn c bs → in_class c s ≡ false → run c (bs ++ s ∷ rest) ≡ bs
run_up_to c [] rest s all out = rw out refl
run_up_to c (b ∷ bs) rest s all out = rw all.0 (ap (λ more. b ∷ more) (run_up_to c bs rest s all.1 out))

pub all_push : (c : Class) (bs : List ℕ) (b : ℕ) → AllIn c bs → in_class c b ≡ true → AllIn c (bs ++ b ∷ [])
all_push c [] b all is = (is, tt)
all_push c (x ∷ bs) b all is = (all.0, all_push c bs b all.1 is)
