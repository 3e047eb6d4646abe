-- Bytes spell a list of records, or have a fault.
use Rattle.std.proofs.Common.{◌≡◌, ◌∙◌, ℕ, zero, suc, ◌+◌, ◌<◌, ◌≤◌, List, [], ◌∷◌, ◌++◌, length, drop, ◌⊎◌, inl, inr, refl, ap, sym, subst, arith}
use Rattle.std.proofs.lemmas.Bool.{cases_lt}
use Rattle.std.proofs.lemmas.List.{append-nil, length-append, drop_all, drop_at}
use Rattle.std.specs.Int.{w32, to_be_bytes}
use Rattle.wire.specs.FileReaders.{IsReadUpTo}
use Rattle.wire.specs.Files.{Format, HasMagic, IsFault, Spells, file_spelling, record_field, record_spelling}
use Rattle.wire.specs.Spellings.{IsFieldAt, IsSpelled}
use Rattle.wire.proofs.FileSteps.{one_more}
use Rattle.wire.proofs.Spelled.{ends_inside}
use Rattle.command_inputs.proofs.Cases.{CantFail, is_so, or_not, so_then}

module _ {A : Type 0} (format : Format A) (bytes : List ℕ) where
  -- records that it spells, or a fault
  abbrev pub SpellsOrNot : Type 0
  SpellsOrNot = ((xs : List A) × Spells format bytes xs) ⊎ ((at : ℕ) × IsFault format bytes at)

  -- another record at a place
  abbrev NextAt : List A → ℕ → Type 0
  NextAt items at = (x : A) × (next : ℕ) × IsFieldAt (record_field format items) bytes at x next

  at_end : (items : List A) (at : ℕ) → IsReadUpTo format bytes items at → length bytes ≤ at → Spells format bytes items
  at_end items at read end = record {
    spelled = read.spelled.spells ∙ ap (λ rest. file_spelling format items ++ rest) (drop_all at bytes end) ∙ append-nil (file_spelling format items);
    allowed = read.allowed;
  }

  -- the place behind a record is behind its own
  past : (items : List A) (at : ℕ) (n : NextAt items at) → at < n.1
  past items at n =
      (ends_inside bytes (record_spelling format n.0) at n.1
      (omega (arith, length-append (to_be_bytes w32 (length (format.payload n.0))) (format.payload n.0))) n.2.1).0

  -- behind these records stands another one, with which it goes on, or none
  behind : (items : List A) (at : ℕ) → IsReadUpTo format bytes items at → at < length bytes
      → (NextAt items at → CantFail SpellsOrNot) → NextAt items at ⊎ (NextAt items at → ⊥) → CantFail SpellsOrNot
  behind items at read inside goes (inl n) = goes n
  behind items at read inside goes (inr none) = is_so (inr (
    at,
    inr (record {
      before = items;
      allowed = read.allowed;
      spelled = read.spelled;
      inside = inside;
      bad = λ x next there. none (x, next, there);
    }),
  ))

  from : (fuel : ℕ) (items : List A) (at : ℕ) → IsReadUpTo format bytes items at → length bytes ≤ at + fuel → CantFail SpellsOrNot
  from zero items at read enough = is_so (inl (items, at_end items at read (omega (arith, enough))))
  from (suc fuel) items at read enough = elim (cases_lt at (length bytes)) [
    | inl inside ↦ so_then (or_not (NextAt items at)) (behind items at read inside (λ n.
        from fuel (items ++ n.0 ∷ []) n.1 (one_more format bytes items at n.0 n.1 read n.2) (omega (arith, enough, past items at n))))
    | inr end ↦ is_so (inl (items, at_end items at read (omega (arith, end))))
  ]

  begun : HasMagic format bytes → IsReadUpTo format bytes [] (length format.magic)
  begun (rest, is) =
      let behind : drop (length format.magic) bytes ≡ rest = ap (drop (length format.magic)) is ∙ drop_at format.magic rest (length format.magic) refl in
      let whole : file_spelling format [] ≡ format.magic = append-nil format.magic in
      record {
        allowed = tt;
        spelled = subst (λ s. IsSpelled bytes 0 s (length format.magic)) (sym whole)
            (record { spells = is ∙ ap (λ r. format.magic ++ r) (sym behind); next_is = omega arith });
        within = omega (arith, ap length is, length-append format.magic rest);
      }

  pub spells_or_not : CantFail SpellsOrNot
  spells_or_not = so_then (or_not (HasMagic format bytes)) (λ (cases : HasMagic format bytes ⊎ (HasMagic format bytes → ⊥)). by cases)
    where
      by : HasMagic format bytes ⊎ (HasMagic format bytes → ⊥) → CantFail SpellsOrNot
      by (inl has) = from (length bytes) [] (length format.magic) (begun has) (omega arith)
      by (inr lacks) = is_so (inr (0, inl (lacks, refl)))
