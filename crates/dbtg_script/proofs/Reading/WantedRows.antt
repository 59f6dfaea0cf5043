-- Worked rows: what the grammar wants where a line stops, by the profile's page on scripts.
use Rattle.std.proofs.Common.{◌≡◌, None, refl}
use Rattle.std.specs.Prelude.{[], ◌∷◌, codes}
use Rattle.dbtg_schema.specs.Lists.{Lists}
use Rattle.dbtg_schema.specs.declared.shape.Picture.TheVariants.{Number, Text}
use Rattle.dbtg_script.specs.Tokens.{into, onto, tokens}
use Rattle.dbtg_script.specs.Wanted.{wanted_in_line}

-- a record type with a number and a text
abbrev one_type : Lists
one_type = record {
  name = codes "ONE";
  areas = record { name = codes "MAIN" } ∷ [];
  types = record {
    name = codes "CUSTOMER";
    area = 0;
    items = record { name = codes "CNO"; picture = Number 4 } ∷ record { name = codes "CNAME"; picture = Text 8 } ∷ [];
    calc = None;
  } ∷ [];
  sets = [];
}

-- a word in the place of another
another_word : wanted_in_line one_type (codes "OPEN MAIN") ≡ codes "AREA" ∷ []
unfolding tokens onto into
another_word = refl

-- a line that ends too early
too_short : wanted_in_line one_type (codes "OPEN AREA") ≡ codes "an area" ∷ []
unfolding tokens onto into
too_short = refl

-- a line that could end here: the end is wanted too
could_end : wanted_in_line one_type (codes "GET =") ≡ codes "a record type" ∷ codes "the line's end" ∷ []
unfolding tokens onto into
could_end = refl

-- a word that is left over: nothing but the end is wanted
left_over : wanted_in_line one_type (codes "KEEP ALL") ≡ codes "the line's end" ∷ []
unfolding tokens onto into
left_over = refl

-- if the item is not known yet, either is wanted
a_value : wanted_in_line one_type (codes "FIND SORTED KEY") ≡ codes "a number or a text in double quotes" ∷ []
unfolding tokens onto into
a_value = refl

-- a name by what it names, a kind by all that there are
a_name : wanted_in_line one_type (codes "FIND CALC =") ≡ codes "a record type" ∷ []
unfolding tokens onto into
a_name = refl

a_kind : wanted_in_line one_type (codes "FIND CURRENT OF MAIN") ≡ codes "RECORD" ∷ codes "SET" ∷ codes "AREA" ∷ []
unfolding tokens onto into
a_kind = refl
