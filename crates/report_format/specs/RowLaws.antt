-- Fields of one kind, one behind the other, and how many there are before them.
use Rattle.std.proofs.Common.{◌≡◌, ℕ, ◌+◌, ◌<◌, List, [], ◌∷◌, ◌++◌, length, take, drop, refl, sym, ap, subst, ◌∙◌, append_assoc, arith}
use Rattle.std.specs.Int.{w32}
use Rattle.std.proofs.lemmas.List.{append-nil, length-append, take-append-drop, length-take, length-drop}
use Rattle.wire.specs.Spellings.{Field, IsSpelled, IsFieldAt, NoneIsAt, HasOneSpelling, number_field}
use Rattle.wire.proofs.Spelled.{joined, first_part, second_part, same_field}
use Rattle.wire.proofs.Sequences.{pair_field, no_first, pair_one}
use Rattle.wire.proofs.OneSpelling.{one_of_32}
use Rattle.report_format.specs.Parts.{all_spelled, AllAllowed, row_field, list_field}

module _ {A : Type 0} (field : Field A) (one : HasOneSpelling field) where
  pub row_one : (count : ℕ) → HasOneSpelling (row_field field count)
  row_one count [] [] r s p q e = (refl, e)
  row_one count [] (y ∷ ys) r s p q e = absurd (omega (arith, p.0, q.0))
  row_one count (x ∷ xs) [] r s p q e = absurd (omega (arith, p.0, q.0))
  row_one count (x ∷ xs) (y ∷ ys) r s p q e =
      let left = sym (append_assoc (field.spelling x) (all_spelled field xs) r) in
      let right = append_assoc (field.spelling y) (all_spelled field ys) s in
      let first = one x y (all_spelled field xs ++ r) (all_spelled field ys ++ s) p.1.0 q.1.0 (left ∙ e ∙ right) in
      let len : length ys ≡ length xs = omega (arith, p.0, q.0) in
      let rest = row_one (length xs) xs ys r s (refl, p.1.1) (len, q.1.1) first.1 in
      (ap (λ (z : A). z ∷ xs) first.0 ∙ ap (λ (zs : List A). y ∷ zs) rest.0, rest.1)

  pub all_spelled-append : (xs ys : List A) → all_spelled field (xs ++ ys) ≡ all_spelled field xs ++ all_spelled field ys
  all_spelled-append [] ys = refl
  all_spelled-append (x ∷ xs) ys = ap (λ (s : List ℕ). field.spelling x ++ s) (all_spelled-append xs ys)
      ∙ sym (append_assoc (field.spelling x) (all_spelled field xs) (all_spelled field ys))

  AllAllowed-append : (xs ys : List A) → AllAllowed field xs → AllAllowed field ys → AllAllowed field (xs ++ ys)
  AllAllowed-append [] ys p q = q
  AllAllowed-append (x ∷ xs) ys p q = (p.0, AllAllowed-append xs ys p.1 q)

  AllAllowed-parts : (xs ys : List A) → AllAllowed field (xs ++ ys) → AllAllowed field xs × AllAllowed field ys
  AllAllowed-parts [] ys p = (tt, p)
  AllAllowed-parts (x ∷ xs) ys p = let rest = AllAllowed-parts xs ys p.1 in ((p.0, rest.0), rest.1)

  -- one more
  pub one_more : (count : ℕ) (bytes : List ℕ) (at : ℕ) (xs : List A) (mid : ℕ) (x : A) (next : ℕ)
      → IsFieldAt (row_field field count) bytes at xs mid → IsFieldAt field bytes mid x next
      → IsFieldAt (row_field field (count + 1)) bytes at (xs ++ x ∷ []) next
  one_more count bytes at xs mid x next p q =
      let more : all_spelled field (xs ++ x ∷ []) ≡ all_spelled field xs ++ field.spelling x = all_spelled-append xs (x ∷ []) ∙ ap (λ (s : List ℕ). all_spelled field xs ++ s) (append-nil (field.spelling x)) in
      let Here : List ℕ → Type 0 = λ s. IsSpelled bytes at s next in (
        (omega (arith, length-append xs (x ∷ []), p.0.0), AllAllowed-append xs (x ∷ []) p.0.1 (q.0, tt)),
        subst Here (sym more) (joined bytes (all_spelled field xs) (field.spelling x) at mid next p.1 q.1),
      )

  -- where one is missed behind these, there are no more
  pub none_more : (count : ℕ) (bytes : List ℕ) (at : ℕ) (xs : List A) (mid n : ℕ)
      → IsFieldAt (row_field field n) bytes at xs mid → n < count → NoneIsAt field bytes mid
      → NoneIsAt (row_field field count) bytes at
  none_more count bytes at xs mid n here fewer none ys next p =
      let Whole : List A → Type 0 = λ zs. AllAllowed field zs × IsSpelled bytes at (all_spelled field zs) next in
      go (take n ys) (drop n ys) (omega (arith, length-take n ys, p.0.0)) (omega (arith, length-drop n ys, p.0.0))
      (subst Whole (sym (take-append-drop n ys)) (p.0.1, p.1))
    where
      go : (front back : List A) → length front ≡ n → 0 < length back
          → AllAllowed field (front ++ back) × IsSpelled bytes at (all_spelled field (front ++ back)) next → ⊥
      go front [] len some whole = absurd (omega arith)
      go front (y ∷ ys) len some whole =
          let rest : List ℕ = field.spelling y ++ all_spelled field ys in
          let end' : ℕ = at + length (all_spelled field front) in
          let are = AllAllowed-parts front (y ∷ ys) whole.0 in
          let Here : List ℕ → Type 0 = λ s. IsSpelled bytes at s next in
          let spelled = subst Here (all_spelled-append front (y ∷ ys)) whole.1 in
          let same = same_field (row_field field n) (row_one n) bytes at front xs end' mid ((len, are.0), first_part bytes (all_spelled field front) rest at next spelled) here in
          let Behind : ℕ → Type 0 = λ m. IsSpelled bytes m rest next in
          let behind = subst Behind same.1 (second_part bytes (all_spelled field front) rest at next spelled) in
          none y (mid + length (field.spelling y)) (are.1.0, first_part bytes (field.spelling y) (all_spelled field ys) mid next behind)

  -- ---- lists: how many there are, and these

  abbrev pub list_parts : Field (ℕ × List A)
  list_parts = pair_field (number_field w32) (λ n. row_field field n)

  parts_one : HasOneSpelling list_parts
  parts_one = pair_one (number_field w32) (λ n. row_field field n) one_of_32 row_one

  pub list_one : HasOneSpelling (list_field field)
  list_one xs ys r s p q e =
      let same = parts_one (length xs, xs) (length ys, ys) r s (p.0, (refl, p.1)) (q.0, (refl, q.1)) e in
      (ap (λ (z : ℕ × List A). z.1) same.0, same.1)

  no_parts : (bytes : List ℕ) (at : ℕ) → NoneIsAt list_parts bytes at → NoneIsAt (list_field field) bytes at
  no_parts bytes at none xs next p = none (length xs, xs) next ((p.0.0, (refl, p.0.1)), p.1)

  pub no_count : (bytes : List ℕ) (at : ℕ) → NoneIsAt (number_field w32) bytes at → NoneIsAt (list_field field) bytes at
  no_count bytes at none = no_parts bytes at (no_first (number_field w32) (λ n. row_field field n) bytes at none)
