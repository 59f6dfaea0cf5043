-- Worked rows: what the grammar wants where a text stops, by the profile's page on schemas.
use Rattle.std.proofs.Common.{◌≡◌, [], ◌∷◌, refl, codes}
use Rattle.dbtg_schema.specs.Texts.Wanted.{wanted_in_schema}
use Rattle.dbtg_schema.specs.Texts.Words.{onto, words}

-- the empty text
at_the_front : wanted_in_schema [] ≡ codes "SCHEMA" ∷ []
unfolding words onto
at_the_front = refl

-- a period that is missing
no_period : wanted_in_schema (codes "SCHEMA NAME A AREA") ≡ codes "a period" ∷ []
unfolding words onto
no_period = refl
