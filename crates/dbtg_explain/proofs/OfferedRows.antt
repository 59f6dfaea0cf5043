-- Worked rows: the names that are offered in place of a word.
use Rattle.std.proofs.Common.{◌≡◌, List, ℕ, [], ◌∷◌, ◌++◌, refl, replicate}
use Rattle.std.specs.Prelude.{codes}
use Rattle.dbtg_script.specs.Tokens.{into, onto, tokens}
use Rattle.dbtg_explain.specs.Offered.{listed, names_in, type_wanted}
use Rattle.dbtg_explain.specs.Saying.{type_text}

-- HOW NAMES ARE LISTED

no_name : listed [] ≡ []
no_name = refl

two_names : listed (codes "CNO" ∷ codes "CNAME" ∷ []) ≡ codes "CNO, CNAME"
two_names = refl

eight_names : listed (replicate 8 (codes "A")) ≡ codes "A, A, A, A, A, A, A, A"
eight_names = refl

nine_names : listed (replicate 9 (codes "A")) ≡ codes "A, A, A, A, A, A, A, A, .."
nine_names = refl

-- THE RECORD TYPE WHOSE ITEMS A LINE NAMES

stored : type_text (codes "STORE CUSTOMER CNAM = \"ADA\"") ≡ codes "CUSTOMER"
unfolding tokens onto into
stored = refl

found : type_text (codes "FIND CALC CUSTOMER RECORD USING CNAM = 7") ≡ codes "CUSTOMER"
unfolding tokens onto into
found = refl

alone : type_text (codes "GET") ≡ []
unfolding tokens onto into
alone = refl

-- A SCHEMA'S TEXT, FROM ITS WORDS

-- two areas, and two record types
abbrev declared : List (List ℕ)
declared = codes "SCHEMA" ∷ codes "NAME" ∷ codes "CARD" ∷ codes "." ∷ codes "AREA" ∷ codes "NAME" ∷ codes "MAIN" ∷ codes "." ∷ codes "AREA" ∷ codes "NAME" ∷ codes "SIDE" ∷ codes "." ∷ codes "RECORD" ∷ codes "NAME"
    ∷ codes "A" ∷ codes "WITHIN" ∷ codes "MAIN" ∷ codes "." ∷ codes "02" ∷ codes "N" ∷ codes "PIC" ∷ codes "9" ∷ codes "." ∷ codes "02" ∷ codes "T" ∷ codes "PIC" ∷ codes "X" ∷ codes "." ∷ codes "RECORD" ∷ codes "NAME"
    ∷ codes "B" ∷ codes "WITHIN" ∷ codes "SIDE" ∷ codes "." ∷ codes "02" ∷ codes "M" ∷ codes "PIC" ∷ codes "9" ∷ codes "." ∷ []

-- a set, with a member whose key is wanted
abbrev a_member : List (List ℕ)
a_member = codes "SET" ∷ codes "NAME" ∷ codes "S" ∷ codes "." ∷ codes "OWNER" ∷ codes "A" ∷ codes "." ∷ codes "MEMBER" ∷ codes "A" ∷ codes "KEY" ∷ []

areas : names_in 7 [] declared declared ≡ codes "MAIN" ∷ codes "SIDE" ∷ []
areas = refl

types : names_in 8 [] declared declared ≡ codes "A" ∷ codes "B" ∷ []
types = refl

sets : names_in 10 [] (declared ++ a_member) declared ≡ codes "S" ∷ []
sets = refl

items : names_in 9 (codes "A") (declared ++ a_member) declared ≡ codes "N" ∷ codes "T" ∷ []
items = refl

-- after a member's KEY the record type is the member's; for a CALC item it is the one declared last
for_a_key : type_wanted (declared ++ a_member) ≡ codes "A"
for_a_key = refl

for_an_item : type_wanted declared ≡ codes "B"
for_an_item = refl
