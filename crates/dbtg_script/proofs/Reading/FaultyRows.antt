-- Worked rows: the words that faults are about, by a schema that has no names.
use Rattle.std.proofs.Common.{◌≡◌, Some, None, refl}
use Rattle.std.specs.Prelude.{[], codes}
use Rattle.dbtg_schema.specs.Lists.{Lists}
use Rattle.dbtg_script.specs.FaultyWord.{faulty_word}
use Rattle.dbtg_script.specs.Tokens.{into, onto, plain, tokens}

abbrev bare : Lists
bare = record { name = codes "BARE"; areas = []; types = []; sets = [] }

-- a word that begins no statement
no_statement : faulty_word bare (codes "OPN AREA SIDE") ≡ Some (plain (codes "OPN"))
unfolding tokens onto into
no_statement = refl

-- the name of an unknown area
no_area : faulty_word bare (codes "OPEN AREA SIED USAGE-MODE IS UPDATE") ≡ Some (plain (codes "SIED"))
unfolding tokens onto into
no_area = refl

-- the name of an unknown set is reported, and not the word SET, at which its kind is known
no_set : faulty_word bare (codes "FIND CURRENT OF HSA SET") ≡ Some (plain (codes "HSA"))
unfolding tokens onto into
no_set = refl

-- so is the name of an unknown record type, and not the word RECORD
no_type : faulty_word bare (codes "FIND CALC CUSTOMR RECORD USING CNO = 7") ≡ Some (plain (codes "CUSTOMR"))
unfolding tokens onto into
no_type = refl

-- a line that ends too early
too_short : faulty_word bare (codes "OPEN AREA") ≡ None
unfolding tokens onto into
too_short = refl
