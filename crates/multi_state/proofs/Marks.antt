-- One mark more of a trail, and the trail of marks.
use Rattle.std.proofs.Common.{◌≡◌, Bool, List, [], ◌∷◌, ◌++◌, refl, sym, ap, ◌∙◌}
use Rattle.std.specs.Prelude.{map, reverse}
use Rattle.std.proofs.lemmas.List.{reverse-append, reverse-reverse}
use Rattle.script_tree.specs.declared.operation.Op.{Op}
use Rattle.script_meaning.specs.declared.run.Mark.{Mark}
use Rattle.script_meaning.specs.declared.run.Mark.TheVariants.{Decided as decided, Issued as issued}
use Rattle.multi_state.specs.Progress.{marks_back, marks_of, bare}
use Rattle.multi_state.specs.declared.account.BareMark.{BareMark}
use Rattle.multi_state.specs.declared.account.BareMark.TheVariants as left

pub one_decided : (ts : List BareMark) (ops : List Op) (b : Bool) → marks_of (ts ++ left.Decided b ∷ []) ops ≡ marks_of ts ops ++ decided b ∷ []
one_decided ts ops b = ap (λ r. reverse (marks_back r ops)) (reverse-append ts (left.Decided b ∷ []))
    ∙ reverse-append (decided b ∷ []) (marks_back (reverse ts) ops)

pub one_issued : (ts : List BareMark) (ops : List Op) (op : Op) → marks_of (ts ++ left.Issued ∷ []) (op ∷ ops) ≡ marks_of ts ops ++ issued op ∷ []
one_issued ts ops op = ap (λ r. reverse (marks_back r (op ∷ ops))) (reverse-append ts (left.Issued ∷ []))
    ∙ reverse-append (issued op ∷ []) (marks_back (reverse ts) ops)

map_both : (xs ys : List Mark) → map bare (xs ++ ys) ≡ map bare xs ++ map bare ys
map_both [] ys = refl
map_both (x ∷ xs) ys = ap (λ zs. bare x ∷ zs) (map_both xs ys)

map_back : (xs : List Mark) → map bare (reverse xs) ≡ reverse (map bare xs)
map_back [] = refl
map_back (x ∷ xs) =
    ap (map bare) (reverse-append (x ∷ []) xs) ∙ map_both (reverse xs) (x ∷ [])
    ∙ ap (λ zs. zs ++ bare x ∷ []) (map_back xs) ∙ sym (reverse-append (bare x ∷ []) (map bare xs))

bare_back : (ts : List BareMark) (ops : List Op) → map bare (marks_back ts ops) ≡ ts
bare_back [] ops = refl
bare_back (left.Decided b ∷ ts) ops = ap (λ xs. left.Decided b ∷ xs) (bare_back ts ops)
bare_back (left.Issued ∷ ts) [] = ap (λ xs. left.Issued ∷ xs) (bare_back ts [])
bare_back (left.Issued ∷ ts) (op ∷ ops) = ap (λ xs. left.Issued ∷ xs) (bare_back ts ops)

-- the marks tell the trail
pub bare_marks : (ts : List BareMark) (ops : List Op) → map bare (marks_of ts ops) ≡ ts
bare_marks ts ops = map_back (marks_back (reverse ts) ops) ∙ ap reverse (bare_back (reverse ts) ops) ∙ reverse-reverse ts
