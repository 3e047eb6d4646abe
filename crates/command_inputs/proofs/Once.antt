-- Reads that go on where the last one ended.
use Rattle.std.proofs.Common.{◌≡◌, ℕ, ◌+◌, List, [], ◌∷◌, ◌++◌, Option, Some, None, Result, Ok, Err, refl, sym, ap, ◌∙◌, append_assoc, append-nil}
use Rattle.outside.specs.Shelves.{ShelfCall, a_read, a_write, read_made, then_calls, ReadOn, IsReadOnce}
use Rattle.outside.specs.declared.fault.ShelfFault.{ShelfFault}

-- where the last of the reads ended, the first of which began at this place
abbrev pub end_of : ℕ → List ShelfCall → ℕ
end_of place [] = place
end_of place (a_read name from count ∷ calls) = end_of (place + count) calls
end_of place (a_write name bytes ∷ calls) = place

-- one more read
read_on-more : (name : List ℕ) (place : ℕ) (calls : List ShelfCall) (count : ℕ) → ReadOn name place calls
    → ReadOn name place (calls ++ a_read name (end_of place calls) count ∷ [])
read_on-more name place [] count on = (refl, refl, tt)
read_on-more name place (a_read other from first ∷ calls) count on =
    (on.0, on.1, read_on-more name (place + first) calls count on.2)
read_on-more name place (a_write other bytes ∷ calls) count on = absurd on

end_of-more : (name : List ℕ) (place : ℕ) (calls : List ShelfCall) (from count : ℕ) → ReadOn name place calls
    → end_of place (calls ++ a_read name from count ∷ []) ≡ end_of place calls + count
end_of-more name place [] from count on = refl
end_of-more name place (a_read other begun first ∷ calls) from count on =
    end_of-more name (place + first) calls from count on.2
end_of-more name place (a_write other bytes ∷ calls) from count on = absurd on

then_calls-nil : (told : Option (List ShelfCall)) → told ≡ then_calls told []
then_calls-nil None = refl
then_calls-nil (Some calls) = ap (λ r. Some r) (sym (append-nil calls))

then_calls-both : (told : Option (List ShelfCall)) (xs ys : List ShelfCall)
    → then_calls (then_calls told xs) ys ≡ then_calls told (xs ++ ys)
then_calls-both None xs ys = refl
then_calls-both (Some calls) xs ys = ap (λ r. Some r) (append_assoc calls xs ys)

-- The file of the name was read once, from its front to this place.
pub record IsReadTo (old new : Option (List ShelfCall)) (name : List ℕ) (place : ℕ) : Type 0 where
  pub calls : List ShelfCall
  pub made : new ≡ then_calls old calls
  pub on : ReadOn name 0 calls
  pub end : end_of 0 calls ≡ place

-- no read
pub read_to-none : (told : Option (List ShelfCall)) (name : List ℕ) → IsReadTo told told name 0
read_to-none told name = record { calls = []; made = then_calls-nil told; on = tt; end = refl }

pub read_once-none : (told : Option (List ShelfCall)) (name : List ℕ) → IsReadOnce told told name
read_once-none told name = ([], then_calls-nil told, tt)

-- a read of so many bytes behind these calls
with_read : {old mid new : Option (List ShelfCall)} {name : List ℕ} {place : ℕ} (at count : ℕ)
    → (to : IsReadTo old mid name place) → at ≡ place → new ≡ then_calls mid (a_read name at count ∷ [])
    → new ≡ then_calls old (to.calls ++ a_read name (end_of 0 to.calls) count ∷ [])
with_read {old} {name = name} at count to place made =
    made ∙ ap (λ told. then_calls told (a_read name at count ∷ [])) to.made ∙ then_calls-both old to.calls _
    ∙ ap (λ from. then_calls old (to.calls ++ a_read name from count ∷ [])) (place ∙ sym to.end)

-- one more that gave bytes
pub read_to-more : {old mid new : Option (List ShelfCall)} {name : List ℕ} {place : ℕ} (at count next : ℕ)
    → IsReadTo old mid name place → at ≡ place → new ≡ then_calls mid (read_made name at (Ok count) ∷ [])
    → next ≡ place + count → IsReadTo old new name next
read_to-more {name = name} at count next to place made after = record {
  calls = to.calls ++ a_read name (end_of 0 to.calls) count ∷ [];
  made = with_read at count to place made;
  on = read_on-more name 0 to.calls count to.on;
  end = end_of-more name 0 to.calls _ count to.on ∙ ap (λ n. n + count) to.end ∙ sym after;
}

-- so the file was read once
pub read_once-to : {old new : Option (List ShelfCall)} {name : List ℕ} {place : ℕ} → IsReadTo old new name place
    → IsReadOnce old new name
read_once-to to = (to.calls, to.made, to.on)

-- also after one more read, whatever came of it
pub read_once-last : {old mid new : Option (List ShelfCall)} {name : List ℕ} {place : ℕ} (at : ℕ) (result : Result ℕ ShelfFault)
    → IsReadTo old mid name place → at ≡ place → new ≡ then_calls mid (read_made name at result ∷ []) → IsReadOnce old new name
read_once-last at (Ok count) to place made = read_once-to (read_to-more at count _ to place made refl)
read_once-last {name = name} at (Err fault) to place made =
    (_, with_read at 0 to place made, read_on-more name 0 to.calls 0 to.on)
