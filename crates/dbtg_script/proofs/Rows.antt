-- The worked rows: statements in which a word can be a keyword or a name. It is a keyword where one fits, else a name. At the end, notes
-- below answers, and a text that is appended.
-- May use: all definitions, and the law that a line is read with keywords taken.
-- Promises: each row is a theorem.
use Rattle.std.proofs.Common.{◌≡◌, ℕ, false, List, [], ◌∷◌, Err, arith, inl, inr, length, refl, codes, vec_capacity}
use Rattle.std.specs.Global.{Vec}
use Rattle.std.proofs.lemmas.Bool.{false≢true}
use Rattle.dbtg_schema.specs.Texts.Forms.{labelled, Derives}
use Rattle.dbtg_script.specs.declared.role.Role.{Role}
use Rattle.dbtg_script.specs.declared.role.Role.TheVariants as role
use Rattle.dbtg_script.specs.Printing.Appending.{Appends}
use Rattle.dbtg_script.specs.Printing.Echo.{note_line, note_of}
use Rattle.dbtg_script.specs.Derivations.{Derivation, TakesKeywords}
use Rattle.dbtg_script.specs.StatementGrammar.{Labelled, currents, fits, statement, suppress}
use Rattle.dbtg_script.specs.Tokens.{into, onto, plain, tokens}
use Rattle.dbtg_script.proofs.Reading.Derived.{takes_keywords}
use Rattle.dbtg_script.proofs.Reading.NoFault.{statement_first}

-- STORE CUSTOMER SUPPRESS RECORD

-- the last word is the keyword RECORD, or the name of a set
abbrev with_last : Role → List Labelled
with_last r =
    labelled role.Store (plain (codes "STORE")) ∷ labelled role.TypeName (plain (codes "CUSTOMER")) ∷ labelled role.Plain (plain (codes "SUPPRESS"))
    ∷ labelled r (plain (codes "RECORD")) ∷ []

with_last_derived : (r : Role) → Derives fits currents (labelled r (plain (codes "RECORD")) ∷ []) → Derives fits statement (with_last r)
with_last_derived r last =
    let suppressed : Derives fits suppress (labelled role.Plain (plain (codes "SUPPRESS")) ∷ labelled r (plain (codes "RECORD")) ∷ []) =
    (labelled role.Plain (plain (codes "SUPPRESS")) ∷ [], labelled r (plain (codes "RECORD")) ∷ [], refl, (plain (codes "SUPPRESS"), refl, refl), inr (labelled r (plain (codes "RECORD")) ∷ [], [], refl, last, ([], refl, tt))) in
    inr (inr (inr (inr (inl (
      labelled role.Store (plain (codes "STORE")) ∷ [],
      labelled role.TypeName (plain (codes "CUSTOMER")) ∷ labelled role.Plain (plain (codes "SUPPRESS")) ∷ labelled r (plain (codes "RECORD")) ∷ [],
      refl,
      (plain (codes "STORE"), refl, refl),
      (
        labelled role.TypeName (plain (codes "CUSTOMER")) ∷ [],
        labelled role.Plain (plain (codes "SUPPRESS")) ∷ labelled r (plain (codes "RECORD")) ∷ [],
        refl,
        (plain (codes "CUSTOMER"), refl, refl),
        ([], labelled role.Plain (plain (codes "SUPPRESS")) ∷ labelled r (plain (codes "RECORD")) ∷ [], refl, ([], refl, tt), inl suppressed),
      ),
    )))))

-- both are derived by the grammar
as_a_keyword : Derives fits statement (with_last role.SuppressTypes)
as_a_keyword = with_last_derived role.SuppressTypes (inl (plain (codes "RECORD"), refl, refl))

as_a_name : Derives fits statement (with_last role.SuppressSet)
as_a_name = with_last_derived role.SuppressSet (inr (inr (plain (codes "RECORD"), refl, refl)))

-- with the name no keyword is taken where one fits
a_name_in_the_place_of_a_keyword : TakesKeywords statement (with_last role.SuppressSet) → ⊥
a_name_in_the_place_of_a_keyword h =
    false≢true (h
    (labelled role.Store (plain (codes "STORE")) ∷ labelled role.TypeName (plain (codes "CUSTOMER")) ∷ labelled role.Plain (plain (codes "SUPPRESS")) ∷ [])
    (labelled role.SuppressSet (plain (codes "RECORD"))) [] role.SuppressTypes refl refl ([], as_a_keyword))

a_keyword_where_one_fits : (d : Derivation (codes "STORE CUSTOMER SUPPRESS RECORD")) × (d.words ≡ with_last role.SuppressTypes)
unfolding tokens onto into
a_keyword_where_one_fits = (
  record {
    closed = refl;
    words = with_last role.SuppressTypes;
    are_words = refl;
    derives = as_a_keyword;
    keywords = takes_keywords (tokens false (codes "STORE CUSTOMER SUPPRESS RECORD")) statement statement_first;
  },
  refl,
)

-- STORE SUPPRESS: after STORE stands the name of a record type, and no keyword fits

abbrev named_suppress : List Labelled
named_suppress = labelled role.Store (plain (codes "STORE")) ∷ labelled role.TypeName (plain (codes "SUPPRESS")) ∷ []

named_suppress_derived : Derives fits statement named_suppress
named_suppress_derived =
    inr (inr (inr (inr (inl (
      labelled role.Store (plain (codes "STORE")) ∷ [],
      labelled role.TypeName (plain (codes "SUPPRESS")) ∷ [],
      refl,
      (plain (codes "STORE"), refl, refl),
      (labelled role.TypeName (plain (codes "SUPPRESS")) ∷ [], [], refl, (plain (codes "SUPPRESS"), refl, refl), ([], [], refl, ([], refl, tt), inr refl)),
    )))))

a_name_where_no_keyword_fits : (d : Derivation (codes "STORE SUPPRESS")) × (d.words ≡ named_suppress)
unfolding tokens onto into
a_name_where_no_keyword_fits = (
  record {
    closed = refl;
    words = named_suppress;
    are_words = refl;
    derives = named_suppress_derived;
    keywords = takes_keywords (tokens false (codes "STORE SUPPRESS")) statement statement_first;
  },
  refl,
)

-- NOTES BELOW ANSWERS

noted : note_line (note_of ([] ∷ codes "area MAIN is not open" ∷ []) 1) ≡ codes "    area MAIN is not open\n"
noted = refl

not_noted : note_line (note_of ([] ∷ codes "area MAIN is not open" ∷ []) 0) ≡ []
not_noted = refl

beyond_the_last_note : note_line (note_of ([] ∷ codes "area MAIN is not open" ∷ []) 2) ≡ []
beyond_the_last_note = refl

-- A TEXT IS APPENDED

-- behind 3 of 8 bytes there is room for 5 more
module _ (old new : Vec ℕ) (short : length old.items ≡ 3) (room : vec_capacity old ≡ 8) where
  five_more_are_appended : Appends {E = ℕ} (codes "0000\n") old (Err 0) new → ⊥
  five_more_are_appended told = let full = told.full in omega (arith, full, short, room)

  six_more_may_fail : vec_capacity new ≡ 8 → Appends {E = ℕ} (codes "10000\n") old (Err 0) new
  six_more_may_fail kept = record { items = tt; full = omega (arith, short, room); capacity = omega (arith, kept, room) }
