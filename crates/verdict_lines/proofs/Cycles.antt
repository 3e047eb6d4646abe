-- The events of a cycle, one after the other.
use Rattle.std.proofs.Common.{◌≡◌, ◌∙◌, ℕ, zero, suc, ◌+◌, ◌<◌, List, [], ◌∷◌, ◌++◌, length, take, get_or, codes, ap, sym, refl, subst, append_assoc, append-nil, arith}
use Rattle.std.specs.Prelude.{flat_map}
use Rattle.audit_meaning.specs.declared.node.Node.{Node}
use Rattle.verdict_lines.specs.Fields.{cycle_text, node_text}

next : (xs : List Node) (i : ℕ) (d : Node) → i < length xs → flat_map node_text (take (suc i) xs) ≡ flat_map node_text (take i xs) ++ node_text (get_or xs i d)
next [] i d within = absurd (omega (arith, within))
next (x ∷ xs) zero d within = append-nil (node_text x)
next (x ∷ xs) (suc i) d within = ap (λ l. node_text x ++ l) (next xs i d (omega (arith, within)))
    ∙ sym (append_assoc (node_text x) (flat_map node_text (take i xs)) (node_text (get_or xs i d)))

-- one more of them
pub one_more : (xs : List Node) (i : ℕ) (d : Node) → i < length xs → cycle_text (take (i + 1) xs) ≡ cycle_text (take i xs) ++ node_text (get_or xs i d)
one_more xs i d within =
    let plus : suc i ≡ i + 1 = omega arith in
    let more : flat_map node_text (take (i + 1) xs) ≡ flat_map node_text (take i xs) ++ node_text (get_or xs i d)
    = subst (λ n. flat_map node_text (take n xs) ≡ flat_map node_text (take i xs) ++ node_text (get_or xs i d)) plus (next xs i d within) in
    ap (λ l. codes "cycle" ++ l) more ∙ sym (append_assoc (codes "cycle") (flat_map node_text (take i xs)) (node_text (get_or xs i d)))
