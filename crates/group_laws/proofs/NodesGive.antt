-- What values nodes may have, and which faults they lack.
use Rattle.std.proofs.Common.{◌≡◌, ℕ, Bool, true, false, nat_lt, length, List, Result, Ok, Err, refl}
use Rattle.script_tree.specs.Datum.{Datum, null, bool, number, text, list}
use Rattle.script_tree.specs.Requests.{Request}
use Rattle.script_tree.specs.declared.fault.ScriptFault.{ScriptFault}
use Rattle.script_tree.specs.declared.fault.ScriptFault.TheVariants.{TooLarge}
use Rattle.script_meaning.specs.Kinds.{bool_in, list_in}
use Rattle.script_meaning.specs.Operands.{first}
use Rattle.script_meaning.specs.Operators.{printed}
use Rattle.script_meaning.specs.Results.{◌>>=◌}
use Rattle.script_meaning.specs.Run.{Cost, Progress, Ran, goes, stops, after, charge}
use Rattle.script_values.specs.CallsMade.{value_made}
use Rattle.script_values.specs.declared.builtins.Called.{Called}
use Rattle.script_values.specs.declared.builtins.Called.TheVariants.{Value, Operation}
use Rattle.script_nodes.specs.Evaluated.{evaluated, gone_on, node_run}
use Rattle.script_nodes.specs.declared.primitive.Primitive.TheVariants as node
use Rattle.group_laws.specs.Nodes.{GivesTruth, LacksFaults, MayGive}
use Rattle.group_laws.specs.Steady.{no_fault, only}

pub lacks_none : (answer : Result Called ScriptFault) → LacksFaults no_fault answer
lacks_none (Ok called) = tt
lacks_none (Err f) = refl

-- ---- truths

pub decides : (q : Request) (ds : List Datum) → GivesTruth (evaluated q node.Decide ds)
decides q ds d may = by (bool_in (first ds)) may
  where
    by : (r : Result Bool ScriptFault) → MayGive (value_made (r >>= λ b. Ok (bool b))) d → (b : Bool) × (d ≡ bool b)
    by (Ok b) h = (b, h)
    by (Err f) h = absurd h

pub member_decides : (q : Request) (n : ℕ) (ds : List Datum) → GivesTruth (evaluated q (node.Member n) ds)
member_decides q n ds d may = by (list_in (first ds)) may
  where
    by : (r : Result (List Datum) ScriptFault) → MayGive (value_made (r >>= λ xs. Ok (bool (nat_lt n (length xs))))) d → (b : Bool) × (d ≡ bool b)
    by (Ok xs) h = (nat_lt n (length xs), h)
    by (Err f) h = absurd h

-- ---- texts

pub prints_text : (q : Request) (ds : List Datum) (d : Datum) → MayGive (evaluated q node.Echo ds) d → (bytes : List ℕ) × (d ≡ text bytes)
prints_text q ds d may = by (printed (first ds)) may
  where
    by : (r : Result (List ℕ) ScriptFault) → MayGive (value_made (r >>= λ bytes. Ok (text bytes))) d → (bytes : List ℕ) × (d ≡ text bytes)
    by (Ok bytes) h = (bytes, h)
    by (Err f) h = absurd h

pub prints_small : (q : Request) (ds : List Datum) → LacksFaults (only TooLarge) (evaluated q node.Echo ds)
prints_small q ds = by (first ds)
  where
    by : (d : Datum) → LacksFaults (only TooLarge) (value_made (printed d >>= λ bytes. Ok (text bytes)))
    by null = tt
    by (bool true) = tt
    by (bool false) = tt
    by (number n) = tt
    by (text bytes) = tt
    by (list ds) = refl

-- ---- the value of a run's node

same_value : (x d : Datum) (p q : Progress) → goes x p ≡ goes d q → d ≡ x
same_value x d p q h = cc

pub gave : (c : Cost) (answer : Result Called ScriptFault) (p q : Progress) (d : Datum) → node_run c answer p ≡ goes d q → MayGive answer d
gave c (Ok (Value x)) p q d h = by (charge c p) h
  where
    by : (o : Ran (Unit {0})) → after o (λ _. gone_on (Ok (Value x))) ≡ goes d q → d ≡ x
    by (goes a r) k = same_value x d r q k
    by (stops e r) k = cc
gave c (Ok (Operation op)) p q d h = tt
gave c (Err f) p q d h = by (charge c p) h
  where
    by : (o : Ran (Unit {0})) → after o (λ _. gone_on (Err f)) ≡ goes d q → ⊥
    by (goes a r) k = cc
    by (stops e r) k = cc
