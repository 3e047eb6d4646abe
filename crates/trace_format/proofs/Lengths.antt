-- A request has no more parameters than its spelling has bytes.
use Rattle.std.proofs.Common.{◌≡◌, ℕ, ◌<◌, ◌≤◌, ◌^◌, List, [], ◌∷◌, ◌++◌, length, ap, arith}
use Rattle.std.proofs.lemmas.List.{length-append}
use Rattle.std.specs.Int.{w32, to_be_bytes}
use Rattle.wire.specs.Spellings.{bytes_spelling}
use Rattle.script_tree.specs.Requests.{Request}
use Rattle.script_tree.specs.declared.request.Parameter.{Parameter}
use Rattle.trace_format.specs.Events.{parameter_spelling, parameters_spelling, request_spelling}

parameter_len : (p : Parameter) → 0 < length (parameter_spelling p)
parameter_len p = omega (arith, length-append (bytes_spelling p.name) (bytes_spelling p.value))

parameters_len : (ps : List Parameter) → length ps ≤ length (parameters_spelling ps)
parameters_len [] = omega arith
parameters_len (p ∷ ps) = omega (arith, parameters_len ps, parameter_len p, length-append (parameter_spelling p) (parameters_spelling ps))

pub few_parameters : (q : Request) (ps : List Parameter) → ps ≡ q.parameters → length (request_spelling q) < 2 ^ 32 → length ps < 2 ^ 32
few_parameters q ps e short =
    let s4 : List ℕ = parameters_spelling q.parameters ++ bytes_spelling q.body in
    let s3 : List ℕ = to_be_bytes w32 (length q.parameters) ++ s4 in
    let s2 : List ℕ = bytes_spelling q.path ++ s3 in
    let same : length ps ≡ length q.parameters = ap length e in
    omega (
      arith,
      parameters_len q.parameters,
      length-append (bytes_spelling q.method) s2,
      length-append (bytes_spelling q.path) s3,
      length-append (to_be_bytes w32 (length q.parameters)) s4,
      length-append (parameters_spelling q.parameters) (bytes_spelling q.body),
    )
