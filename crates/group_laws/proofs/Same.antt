-- The tests of equal costs tell equal ones.
use Rattle.std.proofs.Common.{◌≡◌, ℕ, true, ◌&&◌, List, [], ◌∷◌, refl, ap}
use Rattle.std.proofs.lemmas.Bool.{and_parts}
use Rattle.std.proofs.lemmas.Slice.Eq.{bytes_eq-Decides}
use Rattle.std.specs.Cmp.{tied_itself}
use Rattle.std.specs.Ordering.{is_eq}
use Rattle.std.specs.Str.{bytes_eq}
use Rattle.std.specs.declared.cmp.Ordering.{Ordering}
use Rattle.std.specs.declared.cmp.Ordering.TheVariants.{Less, Equal, Greater}
use Rattle.basis.specs.Lists.{each}
use Rattle.script_tree.specs.Alike.{same_datum}
use Rattle.script_tree.specs.Datum.{Datum}
use Rattle.script_tree.specs.Order.{compare}
use Rattle.script_tree.specs.OrderLaws.{compare_exact, compare_total}
use Rattle.script_tree.specs.Requests.{Request}
use Rattle.script_tree.specs.declared.request.Parameter.{Parameter}
use Rattle.script_meaning.specs.GroupCost.{same_parameter, same_request}

equal_from : (o : Ordering) → is_eq o ≡ true → o ≡ Equal
equal_from Less h = cc
equal_from Equal h = refl
equal_from Greater h = cc

pub value_same : (a b : Datum) → same_datum a b ≡ true → a ≡ b
value_same a b h = compare_exact a b (equal_from (compare a b) h)

pub value_itself : (d : Datum) → same_datum d d ≡ true
value_itself d = ap is_eq (tied_itself compare_total d)

pub values_itself : (ds : List Datum) → each same_datum ds ds ≡ true
values_itself [] = refl
values_itself (d ∷ ds) = rw (value_itself d, values_itself ds) refl

bytes_itself : (x : List ℕ) → bytes_eq x x ≡ true
bytes_itself x = (bytes_eq-Decides x x).1 refl

parameters_same : (ps qs : List Parameter) → each same_parameter ps qs ≡ true → ps ≡ qs
parameters_same [] [] h = refl
parameters_same [] (q ∷ qs) h = cc
parameters_same (p ∷ ps) [] h = cc
parameters_same (p ∷ ps) (q ∷ qs) h =
    let both = and_parts (same_parameter p q) (each same_parameter ps qs) h in
    let parts = and_parts (bytes_eq p.name q.name) (bytes_eq p.value q.value) both.0 in
    let name : p.name ≡ q.name = (bytes_eq-Decides p.name q.name).0 parts.0 in
    let value : p.value ≡ q.value = (bytes_eq-Decides p.value q.value).0 parts.1 in
    λ i. record { name = name i; value = value i } ∷ parameters_same ps qs both.1 i

parameters_itself : (ps : List Parameter) → each same_parameter ps ps ≡ true
parameters_itself [] = refl
parameters_itself (p ∷ ps) = rw (bytes_itself p.name, bytes_itself p.value, parameters_itself ps) refl

pub request_same : (a b : Request) → same_request a b ≡ true → a ≡ b
request_same a b h =
    let both = and_parts (bytes_eq a.method b.method && bytes_eq a.path b.path) (bytes_eq a.body b.body && each same_parameter a.parameters b.parameters) h in
    let front = and_parts (bytes_eq a.method b.method) (bytes_eq a.path b.path) both.0 in
    let back = and_parts (bytes_eq a.body b.body) (each same_parameter a.parameters b.parameters) both.1 in
    let method : a.method ≡ b.method = (bytes_eq-Decides a.method b.method).0 front.0 in
    let path : a.path ≡ b.path = (bytes_eq-Decides a.path b.path).0 front.1 in
    let body : a.body ≡ b.body = (bytes_eq-Decides a.body b.body).0 back.0 in
    let parameters : a.parameters ≡ b.parameters = parameters_same a.parameters b.parameters back.1 in
    λ i. record { method = method i; path = path i; parameters = parameters i; body = body i }

pub request_itself : (q : Request) → same_request q q ≡ true
request_itself q = rw (bytes_itself q.method, bytes_itself q.path, bytes_itself q.body, parameters_itself q.parameters) refl
