-- How one call is a use, and how uses follow one another.
use Rattle.std.proofs.Common.{◌≡◌, ℕ, ◌≤◌, ◌⊎◌, inl, inr, List, [], ◌++◌, Option, Some, None, Result, Ok, Err, refl, sym, ap, ◌∙◌, arith, append_assoc, append-nil, take}
use Rattle.outside.specs.Counts.{next_count, RisesWhere}
use Rattle.outside.specs.Shelves.{ShelfTold, IsReadAt, UsesShelf}
use Rattle.outside.specs.Sinks.{SinkTold, IsSinkWrite, UsesSink}
use Rattle.outside.specs.Streams.{and_then}
use Rattle.outside.specs.declared.fault.Fault.{Fault}
use Rattle.outside.specs.declared.fault.Fault.TheVariants.{Failed, Memory}
use Rattle.outside.specs.declared.fault.ShelfFault.{ShelfFault}
use Rattle.outside.specs.declared.fault.ShelfFault.TheVariants.{Absent, Failed as ReadFailed, Memory as ReadMemory}

-- ---- counts

-- nothing came about
pub rises-none : (n : ℕ) {so : Type 0} → ¬ so → RisesWhere n n so
rises-none n none = record {
  no_fall = omega arith;
  risen = λ so. absurd (none so);
  stays = λ _. refl;
}

-- it came about once
pub rises-once : (n : ℕ) {so : Type 0} → so → RisesWhere n (next_count n) so
rises-once n once = record {
  no_fall = omega arith;
  risen = λ so. omega arith;
  stays = λ none. absurd (none once);
}

-- the one thing, and after it the other
pub rises-both : {a b c : ℕ} {one other : Type 0} → RisesWhere a b one → RisesWhere b c other
    → RisesWhere a c (one ⊎ other)
rises-both first next = record {
  no_fall = omega arith;
  risen = elim [
    | inl one ↦ let at : next_count _ ≤ _ = first.risen one in omega arith
    | inr other ↦ let at : next_count _ ≤ _ = next.risen other in omega arith
  ];
  stays = λ none. next.stays (λ other. none (inr other)) ∙ first.stays (λ one. none (inl one));
}

-- told by other words
pub rises-as : {a b : ℕ} {one other : Type 0} → (one → other) → (other → one)
    → RisesWhere a b one → RisesWhere a b other
rises-as to from rises = record {
  no_fall = rises.no_fall;
  risen = λ other. rises.risen (from other);
  stays = λ none. rises.stays (λ one. none (to one));
}

-- ---- shelves

-- no call
pub uses_shelf-none : (told : ShelfTold) {failed absent : Type 0} → ¬ failed → ¬ absent
    → UsesShelf told told failed absent
uses_shelf-none told sound there = record {
  files = refl;
  faults = rises-none told.faults sound;
  absences = rises-none told.absences there;
  as_told = refl;
  never_failed = λ _. sound;
}

-- one read
pub uses_shelf-read : (old new : ShelfTold) (name : List ℕ) (offset : ℕ) (before after : List ℕ)
    (result : Result ℕ ShelfFault) → IsReadAt old new name offset before after result
    → UsesShelf old new (result ≡ Err ReadFailed) (result ≡ Err Absent)
uses_shelf-read old new name offset before after (Ok count) read =
    rw read.0 (uses_shelf-none old (λ e. cc) (λ e. cc))
uses_shelf-read old new name offset before after (Err Absent) read = rw read.0 record {
  files = refl;
  faults = rises-none old.faults (λ e. cc);
  absences = rises-once old.absences refl;
  as_told = refl;
  never_failed = λ _ e. cc;
}
uses_shelf-read old new name offset before after (Err ReadFailed) read = rw read.0 record {
  files = refl;
  faults = rises-once old.faults refl;
  absences = rises-none old.absences (λ e. cc);
  as_told = refl;
  never_failed = λ sure _. let unsure = read.1 in cc;
}
uses_shelf-read old new name offset before after (Err ReadMemory) read =
    rw read (uses_shelf-none old (λ e. cc) (λ e. cc))

-- two uses, one after the other
pub uses_shelf-both : {a b c : ShelfTold} {failed absent failed' absent' : Type 0}
    → UsesShelf a b failed absent → UsesShelf b c failed' absent'
    → UsesShelf a c (failed ⊎ failed') (absent ⊎ absent')
uses_shelf-both first next = record {
  files = next.files ∙ first.files;
  faults = rises-both first.faults next.faults;
  absences = rises-both first.absences next.absences;
  as_told = next.as_told ∙ first.as_told;
  never_failed = λ sure. elim [
    | inl failed ↦ first.never_failed sure failed
    | inr failed ↦ next.never_failed (first.as_told ∙ sure) failed
  ];
}

-- a use told by other words
pub uses_shelf-as : {a b : ShelfTold} {failed absent failed' absent' : Type 0}
    → (failed → failed') → (failed' → failed) → (absent → absent') → (absent' → absent)
    → UsesShelf a b failed absent → UsesShelf a b failed' absent'
uses_shelf-as to from to' from' used = record {
  files = used.files;
  faults = rises-as to from used.faults;
  absences = rises-as to' from' used.absences;
  as_told = used.as_told;
  never_failed = λ sure failed. used.never_failed sure (from failed);
}

-- told alike in each part
same_told : (a b : ShelfTold) → b.files ≡ a.files → b.faults ≡ a.faults → b.absences ≡ a.absences
    → b.never_fails ≡ a.never_fails → b ≡ a
same_told a b files faults absences sure =
    ap (λ fs. record b { files = fs }) files
    ∙ ap (λ n. record b { files = a.files; faults = n }) faults
    ∙ ap (λ n. record a { absences = n; never_fails = b.never_fails }) absences
    ∙ ap (λ s. record a { never_fails = s }) sure

-- a use that didn't fail and found all names leaves all as it was told
pub uses_shelf-still : {a b : ShelfTold} {failed absent : Type 0}
    → UsesShelf a b failed absent → ¬ failed → ¬ absent → b ≡ a
uses_shelf-still used sound there =
    same_told _ _ used.files (used.faults.stays sound) (used.absences.stays there) used.as_told

-- after such a use the next one is all that there is to tell
pub uses_shelf-next : {a b c : ShelfTold} {failed absent failed' absent' : Type 0}
    → UsesShelf a b failed absent → ¬ failed → ¬ absent
    → UsesShelf b c failed' absent' → UsesShelf a c failed' absent'
uses_shelf-next first sound there next = rw (← uses_shelf-still first sound there) next

-- ---- sinks

and_then-nil : (written : Option (List ℕ)) → written ≡ and_then written []
and_then-nil None = refl
and_then-nil (Some bytes) = ap (λ b. Some b) (sym (append-nil bytes))

pub and_then-and_then : (written : Option (List ℕ)) (xs ys : List ℕ)
    → and_then (and_then written xs) ys ≡ and_then written (xs ++ ys)
and_then-and_then None xs ys = refl
and_then-and_then (Some bytes) xs ys = ap (λ b. Some b) (append_assoc bytes xs ys)

-- no call
pub uses_sink-none : (told : SinkTold) {failed : Type 0} → ¬ failed → UsesSink told told failed
uses_sink-none told sound = record {
  written = ([], and_then-nil told.written);
  faults = rises-none told.faults sound;
  as_told = refl;
  never_failed = λ _. sound;
}

-- one write
pub uses_sink-write : (old new : SinkTold) (bytes : List ℕ) (result : Result ℕ Fault)
    → IsSinkWrite old new bytes result → UsesSink old new (result ≡ Err Failed)
uses_sink-write old new bytes (Ok count) written = rw written.1 record {
  written = (take count bytes, refl);
  faults = rises-none old.faults (λ e. cc);
  as_told = refl;
  never_failed = λ _ e. cc;
}
uses_sink-write old new bytes (Err Failed) written = rw written.0 record {
  written = ([], and_then-nil old.written);
  faults = rises-once old.faults refl;
  as_told = refl;
  never_failed = λ sure _. let unsure = written.1 in cc;
}
uses_sink-write old new bytes (Err Memory) written = rw written (uses_sink-none old (λ e. cc))

-- two uses, one after the other
pub uses_sink-both : {a b c : SinkTold} {failed failed' : Type 0}
    → UsesSink a b failed → UsesSink b c failed' → UsesSink a c (failed ⊎ failed')
uses_sink-both first next = record {
  written = (
    first.written.0 ++ next.written.0,
    next.written.1 ∙ ap (λ w. and_then w next.written.0) first.written.1 ∙ and_then-and_then _ _ _,
  );
  faults = rises-both first.faults next.faults;
  as_told = next.as_told ∙ first.as_told;
  never_failed = λ sure. elim [
    | inl failed ↦ first.never_failed sure failed
    | inr failed ↦ next.never_failed (first.as_told ∙ sure) failed
  ];
}

-- a use told by other words
pub uses_sink-as : {a b : SinkTold} {failed failed' : Type 0} → (failed → failed')
    → (failed' → failed) → UsesSink a b failed → UsesSink a b failed'
uses_sink-as to from used = record {
  written = used.written;
  faults = rises-as to from used.faults;
  as_told = used.as_told;
  never_failed = λ sure failed. used.never_failed sure (from failed);
}

-- after a use that didn't fail the next one decides whether they failed
pub uses_sink-next : {a b c : SinkTold} {failed failed' : Type 0} → UsesSink a b failed → ¬ failed
    → UsesSink b c failed' → UsesSink a c failed'
uses_sink-next first sound next =
    uses_sink-as (elim [ inl failed ↦ absurd (sound failed) | inr failed ↦ failed ]) inr
    (uses_sink-both first next)

-- after it some bytes were taken
pub uses_sink-more : {a b : SinkTold} {failed : Type 0} (c : SinkTold) (bytes : List ℕ) (count : ℕ)
    → UsesSink a b failed → ¬ failed → IsSinkWrite b c bytes (Ok count) → UsesSink a c failed
uses_sink-more c bytes count first sound written =
    let failed : (Ok count ≡ Err Failed) → ⊥ = λ e. cc in
    uses_sink-next first sound
    (uses_sink-as (λ e. absurd (failed e)) (λ f. absurd (sound f))
    (uses_sink-write _ c bytes (Ok count) written))
