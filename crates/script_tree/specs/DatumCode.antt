-- How a proof stores a value, and a list of values.
use Rattle.std.specs.Prelude.{◌≡◌, ℕ, zero, suc, ℤ, pos, negsuc, List, [], ◌∷◌, true, false, refl}
use Rattle.std.specs.Coded.{Coded, code_by}
use Rattle.std.proofs.Common.{ap}
use Rattle.script_tree.specs.Datum.{Datum, null, bool, number, text, list, Data, none, more, members, data_of, members-data_of}
use base.Stored.{Gv, gnil, gnum, gcons}

-- a text as it is stored
abbrev bytes_code : List ℕ → Gv
bytes_code [] = gnil
bytes_code (b ∷ bs) = gcons (gnum b) (bytes_code bs)

abbrev mutual
  -- a value as it is stored, each kind in a shape of its own
  datum_code : Datum → Gv
  datum_code null = gnil
  datum_code (bool true) = gnum 1
  datum_code (bool false) = gnum 0
  datum_code (number (pos n)) = gcons gnil (gnum n)
  datum_code (number (negsuc n)) = gcons gnil (gcons gnil (gnum n))
  datum_code (text bs) = gcons (gnum 0) (bytes_code bs)
  datum_code (list ds) = gcons (gcons gnil gnil) (data_code ds)

  -- members of a list as they are stored
  data_code : Data → Gv
  data_code none = gnil
  data_code (more d ds) = gcons (datum_code d) (data_code ds)

-- the text that is stored so
abbrev bytes_back : Gv → List ℕ
bytes_back gnil = []
bytes_back (gnum n) = []
bytes_back (gcons gnil g) = []
bytes_back (gcons (gnum b) g) = b ∷ bytes_back g
bytes_back (gcons (gcons a b) g) = []

-- the number that is stored so, behind what says that it is one
abbrev number_back : Gv → ℤ
number_back gnil = pos 0
number_back (gnum n) = pos n
number_back (gcons a gnil) = pos 0
number_back (gcons a (gnum n)) = negsuc n
number_back (gcons a (gcons b c)) = pos 0

abbrev mutual
  -- the value that is stored so
  datum_back : Gv → Datum
  datum_back gnil = null
  datum_back (gnum zero) = bool false
  datum_back (gnum (suc n)) = bool true
  datum_back (gcons gnil g) = number (number_back g)
  datum_back (gcons (gnum n) g) = text (bytes_back g)
  datum_back (gcons (gcons a b) g) = list (data_back g)

  -- the members that are stored so
  data_back : Gv → Data
  data_back gnil = none
  data_back (gnum n) = none
  data_back (gcons a g) = more (datum_back a) (data_back g)

-- A text that is stored comes back.
bytes_again : (bs : List ℕ) → bytes_back (bytes_code bs) ≡ bs
bytes_again [] = refl
bytes_again (b ∷ bs) = ap (λ x. b ∷ x) (bytes_again bs)

mutual
  -- A value that is stored comes back.
  pub datum_again : (d : Datum) → datum_back (datum_code d) ≡ d
  datum_again null = refl
  datum_again (bool true) = refl
  datum_again (bool false) = refl
  datum_again (number (pos n)) = refl
  datum_again (number (negsuc n)) = refl
  datum_again (text bs) = ap text (bytes_again bs)
  datum_again (list ds) = ap list (data_again ds)

  -- Members that are stored come back.
  pub data_again : (ds : Data) → data_back (data_code ds) ≡ ds
  data_again none = refl
  data_again (more d ds) = λ i. more (datum_again d i) (data_again ds i)

-- what is stored is its own code
abbrev coded_gv : Coded Gv
coded_gv = record { code = λ g. g; inj = λ x y p. p }

-- how a value is stored
abbrev pub coded_datum : Coded Datum
coded_datum = code_by Gv coded_gv datum_code datum_back datum_again

-- how a list of values is stored
abbrev pub coded_data : Coded (List Datum)
coded_data = code_by Data (code_by Gv coded_gv data_code data_back data_again) data_of members members-data_of
