-- A request in place of those directly before it, in a set.
use Rattle.std.proofs.Common.{◌≡◌, ◌∙◌, ℕ, ◌<◌, Bool, true, false, not, ◌&&◌, cond, nat_eq, List, refl, ap, sym, subst}
use Rattle.std.proofs.lemmas.Bool.{eq-eqb, ne_eqb}
use Rattle.std.specs.BTreeMap.{is_at}
use Rattle.std.specs.Ordering.{nat_cmp}
use Rattle.period.specs.declared.trace.TraceEvent.{TraceEvent}
use Rattle.precedence_graph.specs.EdgeLists.{AreEdgesTo, is_source}
use Rattle.precedence_graph.specs.Edges.{IsDirectlyBefore}
use Rattle.precedence_graph.proofs.EdgeSteps.{AreEdgesBefore}
use Rattle.precedence_graph.proofs.Frontier.{AreBefore, Replaces}
use Rattle.precedence_graph.proofs.Sources.{edge_source, same_test, source_edge}

kept : (old out : Bool) → (old && not out) ≡ true → (old ≡ true) × (out ≡ false)
kept true false e = (refl, refl)
kept true true e = absurd cc
kept false out e = absurd cc

-- a set that lost some and then got a request
pub replaced : (request : ℕ) (leaves old less new : ℕ → Bool) → ((a : ℕ) → less a ≡ (old a && not (leaves a)))
    → ((a : ℕ) → new a ≡ cond (is_at (nat_cmp request) a) true (less a)) → Replaces request leaves old new
replaced request leaves old less new lost got = record {
  joins = now request ∙ ap (λ b. cond b true (less request)) (eq-eqb request request refl);
  stays = λ a is left.
      now a ∙ ap (cond (nat_eq a request) true) (lost a ∙ ap (λ b. b && not (leaves a)) is ∙ ap (λ b. true && not b) left)
      ∙ either (nat_eq a request);
  was = λ a is apart. kept (old a) (leaves a) (sym (now a ∙ ap (λ b. cond b true (less a)) (ne_eqb a request apart) ∙ lost a) ∙ is);
}
  where
    now : (a : ℕ) → new a ≡ cond (nat_eq a request) true (less a)
    now a = got a ∙ ap (λ b. cond b true (less a)) (same_test request a)

    either : (b : Bool) → cond b true true ≡ true
    either true = refl
    either false = refl

-- the sources of the edges to a request are those directly before it
pub sources_before : (trace : List TraceEvent) (place request : ℕ) (edges found : List (ℕ × ℕ)) → AreEdgesBefore trace place edges → request < place
    → AreEdgesTo edges request found → AreBefore trace request (is_source found)
sources_before trace place request edges found e lt to = record {
  each = λ a is.
      let f = source_edge found a is in
      let there = to.each f.0 f.1 in
      subst (λ k. IsDirectlyBefore trace k request) f.2 (subst (IsDirectlyBefore trace f.0.0) there.1 (e.each f.0 there.0).0);
  all = λ a d. edge_source found (a, request) (to.all (a, request) (e.all a request d lt) refl);
}
