-- Where members agree on what a node takes, it comes to the same for each.
use Rattle.std.proofs.Common.{◌≡◌, ◌<◌, ℕ, zero, suc, Bool, true, false, ◌||◌, not, List, [], ◌∷◌, length, refl, sym, ap, ◌∙◌, arith}
use Rattle.std.proofs.lemmas.Bool.{and_parts}
use Rattle.std.specs.List.{list_all}
use Rattle.script_tree.specs.Alike.{same_datum}
use Rattle.script_tree.specs.Datum.{Datum}
use Rattle.script_tree.specs.Requests.{Request}
use Rattle.script_tree.specs.declared.syntax.builtin.Builtin.{Builtin}
use Rattle.script_tree.specs.declared.syntax.builtin.Builtin.TheVariants.{Len, Str, Escape, Num, Slice, Append, Kind, Param, Method, Path, Body, Read, Write, Get, Put, Remove, Clock, Random}
use Rattle.script_meaning.specs.BuiltinCalls.{built_in}
use Rattle.script_meaning.specs.GroupCost.{same_request}
use Rattle.script_values.specs.CallsMade.{made}
use Rattle.script_nodes.specs.Evaluated.{evaluated}
use Rattle.script_nodes.specs.declared.primitive.Primitive.{Primitive}
use Rattle.script_nodes.specs.declared.primitive.Primitive.TheVariants as node
use Rattle.multivalue.specs.Many.{Many, member_value}
use Rattle.multi_nodes.specs.Charges.{asks_request, takes_request, agree}
use Rattle.multi_nodes.specs.Members.{members_at, request_at, answer_at, is_shared, alike_in}
use Rattle.multi_nodes.proofs.Below.{below_each}
use Rattle.group_laws.proofs.Same.{value_same, request_same}

call_alike : (q r : Request) (store : List ℕ) (b : Builtin) (ds : List Datum) → asks_request b ≡ false → built_in q store b ds ≡ built_in r store b ds
call_alike q r store Len ds h = refl
call_alike q r store Str ds h = refl
call_alike q r store Escape ds h = refl
call_alike q r store Num ds h = refl
call_alike q r store Slice ds h = refl
call_alike q r store Append ds h = refl
call_alike q r store Kind ds h = refl
call_alike q r store Param ds h = cc
call_alike q r store Method ds h = cc
call_alike q r store Path ds h = cc
call_alike q r store Body ds h = cc
call_alike q r store Read ds h = refl
call_alike q r store Write ds h = refl
call_alike q r store Get ds h = refl
call_alike q r store Put ds h = refl
call_alike q r store Remove ds h = refl
call_alike q r store Clock ds h = refl
call_alike q r store Random ds h = refl

node_alike : (q r : Request) (p : Primitive) (ds : List Datum) → takes_request p ≡ false → evaluated q p ds ≡ evaluated r p ds
node_alike q r (node.Literal value) ds h = refl
node_alike q r node.Pass ds h = refl
node_alike q r (node.Unary op) ds h = refl
node_alike q r (node.Binary op) ds h = refl
node_alike q r node.Index ds h = refl
node_alike q r node.List ds h = refl
node_alike q r (node.Builtin b) ds h = ap made (call_alike q r [] b ds h)
node_alike q r (node.OnStore b store) ds h = ap made (call_alike q r store.now b ds h)
node_alike q r (node.Transact shapes) ds h = refl
node_alike q r node.Decide ds h = refl
node_alike q r node.Status ds h = refl
node_alike q r node.Echo ds h = refl
node_alike q r node.Call ds h = refl
node_alike q r node.Unknown ds h = refl
node_alike q r (node.Member passed) ds h = refl

pub value_shared : (n : ℕ) (m : Many) (i : ℕ) → is_shared n m ≡ true → i < n → member_value m i ≡ member_value m 0
value_shared n m i h lt = sym (value_same (member_value m 0) (member_value m i) (below_each n (λ j. same_datum (member_value m 0) (member_value m j)) h i lt))

pub operands_shared : (n : ℕ) (ms : List Many) (i : ℕ) → list_all (is_shared n) ms ≡ true → i < n → members_at i ms ≡ members_at 0 ms
operands_shared n [] i h lt = refl
operands_shared n (m ∷ ms) i h lt =
    let p = and_parts (is_shared n m) (list_all (is_shared n) ms) h in
    λ z. value_shared n m i p.0 lt z ∷ operands_shared n ms i p.1 lt z

requests_each : (q : Request) (qs : List Request) → list_all (same_request q) qs ≡ true → (i : ℕ) → i < length qs → same_request q (request_at qs i) ≡ true
requests_each q [] h i lt = absurd (omega (arith, lt))
requests_each q (r ∷ qs) h zero lt = (and_parts (same_request q r) (list_all (same_request q) qs) h).0
requests_each q (r ∷ qs) h (suc i) lt = requests_each q qs (and_parts (same_request q r) (list_all (same_request q) qs) h).1 i (omega (arith, lt))

pub requests_alike : (qs : List Request) → alike_in qs ≡ true → (i : ℕ) → i < length qs → request_at qs i ≡ request_at qs 0
requests_alike qs h i lt = sym (request_same (request_at qs 0) (request_at qs i) (requests_each (request_at qs 0) qs h i lt))

by_request : (qs : List Request) (alike takes : Bool) (p : Primitive) (ds : List Datum) (i : ℕ) → i < length qs
    → alike_in qs ≡ alike → takes_request p ≡ takes → (alike || not takes) ≡ true
    → evaluated (request_at qs i) p ds ≡ evaluated (request_at qs 0) p ds
by_request qs true takes p ds i lt same is h = ap (λ q. evaluated q p ds) (requests_alike qs same i lt)
by_request qs false false p ds i lt same is h = node_alike (request_at qs i) (request_at qs 0) p ds is
by_request qs false true p ds i lt same is h = cc

pub agreed : (qs : List Request) (p : Primitive) (ms : List Many) → agree qs p ms ≡ true → (i : ℕ) → i < length qs → answer_at qs p ms i ≡ answer_at qs p ms 0
agreed qs p ms h i lt =
    let parts = and_parts (list_all (is_shared (length qs)) ms) (alike_in qs || not (takes_request p)) h in
    ap (λ ds. evaluated (request_at qs i) p ds) (operands_shared (length qs) ms i parts.0 lt)
    ∙ by_request qs (alike_in qs) (takes_request p) p (members_at 0 ms) i lt refl refl parts.1
