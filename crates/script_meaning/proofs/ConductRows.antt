-- Worked examples of what pages do, computed.
use Rattle.std.proofs.Common.{◌≡◌, ℕ, Bool, true, false, List, [], ◌∷◌, Some, None, codes, pos, refl}
use Rattle.std.specs.Fmt.{digits}
use Rattle.script_tree.specs.Datum.{Datum, null, number, text, list, data_of}
use Rattle.script_tree.specs.Objects.{acted, plausible, with_key, Cell, many, rows, none}
use Rattle.script_tree.specs.Requests.{Request}
use Rattle.script_tree.specs.declared.fault.ScriptFault.TheVariants.{WrongKind, Overflow}
use Rattle.script_tree.specs.declared.operation.Choice.TheVariants.{Nothing, Number}
use Rattle.script_tree.specs.declared.path.End.TheVariants.{Normal, Fault}
use Rattle.script_meaning.specs.Operations.{Act, register, store, tables, dice, read, write, get, put, remove, transact, roll, update, insert, select}
use Rattle.script_meaning.specs.Conduct.{conduct, Ending, Wants, Ends}
use Rattle.script_meaning.proofs.Programs as p

-- a page that ends well, and one that ends by a fault
abbrev answers : List ℕ → List Bool → ℕ → Ending
answers body decisions steps = Ends (record { status = 200; body = body }) (record { page = Some 0; decisions = decisions; steps = steps; end = Normal })

-- ---- a sum is four steps

sum : (conduct p.sum_page (p.get (codes "/e")) []).ending ≡ answers (codes "3") [] 4
unfolding digits
sum = refl

-- ---- a hit wants the read, and then the write of 1 where it reads null

hit_reads : (conduct p.hit_page (p.get (codes "/hit")) []).ending ≡ Wants (record { object = register (codes "hits"); act = read })
hit_reads = refl

hit_writes : (conduct p.hit_page (p.get (codes "/hit")) (null ∷ [])).ending
    ≡ Wants (record { object = register (codes "hits"); act = write (number (pos 1)) })
hit_writes = refl

first_hit : (conduct p.hit_page (p.get (codes "/hit")) (null ∷ null ∷ [])).ending ≡ answers (codes "1") (true ∷ []) 19
unfolding digits
first_hit = refl

-- of the second hit, which reads 1
second_hit : (conduct p.hit_page (p.get (codes "/hit")) (number (pos 1) ∷ null ∷ [])).ending ≡ answers (codes "2") (false ∷ []) 17
unfolding digits
second_hit = refl

-- ---- a call of a function whose argument is no number

two_calls : List ℕ → List ℕ → Request
two_calls a b = record {
  method = codes "GET";
  path = codes "/z";
  parameters = record { name = codes "a"; value = a } ∷ record { name = codes "b"; value = b } ∷ [];
  body = [];
}

first_call_faults : (conduct p.two_calls_page (two_calls (codes "x") (codes "1")) []).ending
    ≡ Ends (record { status = 500; body = codes "fault 1\n" }) (record { page = Some 0; decisions = []; steps = 7; end = Fault WrongKind })
unfolding two_calls digits
first_call_faults = refl

second_call_faults : (conduct p.two_calls_page (two_calls (codes "1") (codes "x")) []).ending
    ≡ Ends (record { status = 500; body = codes "fault 1\n" }) (record { page = Some 0; decisions = []; steps = 16; end = Fault WrongKind })
unfolding two_calls digits
second_call_faults = refl

-- ---- an overflow

overflow : (conduct p.overflow_page (p.get (codes "/o")) []).ending
    ≡ Ends (record { status = 500; body = codes "fault 2\n" }) (record { page = Some 0; decisions = []; steps = 3; end = Fault Overflow })
unfolding digits
overflow = refl

-- ---- an insert of a key that is there aborts its transaction

one_row : Cell
one_row = rows (((text (codes "a") ∷ number (pos 0) ∷ []) ∷ []) ∷ [])

update_and_insert : Act
update_and_insert = transact (
    update 0 (record { column = 1; value = number (pos 1) } ∷ []) []
    ∷ insert 0 (text (codes "a") ∷ number (pos 2) ∷ [])
    ∷ [])

select_all : Act
select_all = transact (select 0 (1 ∷ []) [] ∷ [])

-- one list of rows, one row in it, one value in that
zeros : Datum
zeros = list (data_of (list (data_of (list (data_of (number (pos 0) ∷ [])) ∷ [])) ∷ []))

table_updates : (conduct p.table_page (p.get (codes "/x")) []).ending ≡ Wants (record { object = tables; act = update_and_insert })
unfolding update_and_insert
table_updates = refl

update_aborts : acted update_and_insert Nothing one_row ≡ (one_row, null)
unfolding acted update_and_insert one_row
update_aborts = refl

table_selects : (conduct p.table_page (p.get (codes "/x")) (null ∷ [])).ending ≡ Wants (record { object = tables; act = select_all })
unfolding select_all
table_selects = refl

select_answers : acted select_all Nothing one_row ≡ (one_row, zeros)
unfolding acted select_all one_row zeros
select_answers = refl

table_ends : (conduct p.table_page (p.get (codes "/x")) (null ∷ zeros ∷ [])).ending ≡ answers (codes "true0") [] 19
unfolding digits zeros
table_ends = refl

-- ---- a store keeps what is put until it is removed

pair : Datum
pair = list (data_of (number (pos 1) ∷ text (codes "x") ∷ []))

empty_store : Cell
empty_store = many (λ k. None)

-- what the store holds after the put
with_pair : Cell
with_pair = many (with_key (codes "k") (Some pair) (λ k. None))

store_puts : (conduct p.store_page (p.get (codes "/p")) []).ending ≡ Wants (record { object = store (codes "s"); act = put (codes "k") pair })
unfolding pair
store_puts = refl

store_gets : (conduct p.store_page (p.get (codes "/p")) (null ∷ [])).ending ≡ Wants (record { object = store (codes "s"); act = get (codes "k") })
store_gets = refl

put_answers : acted (put (codes "k") pair) Nothing empty_store ≡ (with_pair, null)
unfolding acted pair empty_store with_pair
put_answers = refl

get_answers : acted (get (codes "k")) Nothing with_pair ≡ (with_pair, pair)
unfolding acted pair with_pair
get_answers = refl

store_removes : (conduct p.store_page (p.get (codes "/p")) (null ∷ pair ∷ [])).ending ≡ Wants (record { object = store (codes "s"); act = remove (codes "k") })
unfolding pair
store_removes = refl

removed_reads_null : (acted (get (codes "k")) Nothing (acted (remove (codes "k")) Nothing with_pair).0).1 ≡ null
unfolding acted with_pair
removed_reads_null = refl

store_ends : (conduct p.store_page (p.get (codes "/p")) (null ∷ pair ∷ null ∷ null ∷ [])).ending ≡ answers (codes "xtrue") [] 19
unfolding pair digits
store_ends = refl

-- ---- dice show any number below the bound

dice_wants : (conduct p.dice_page (p.get (codes "/d")) []).ending ≡ Wants (record { object = dice; act = roll (pos 6) })
dice_wants = refl

five_is_plausible : plausible (roll (pos 6)) (Number (pos 5)) none ≡ true
unfolding plausible
five_is_plausible = refl

six_is_not : plausible (roll (pos 6)) (Number (pos 6)) none ≡ false
unfolding plausible
six_is_not = refl

dice_ends : (conduct p.dice_page (p.get (codes "/d")) (number (pos 5) ∷ [])).ending ≡ answers (codes "5") [] 3
unfolding digits
dice_ends = refl
