-- Laws of the definition of reading.
use Rattle.std.specs.Prelude.{◌≡◌, ℕ, Bool, true, false, List, map, None}
use Rattle.std.specs.List.{list_any}
use Rattle.dbtg_schema.specs.declared.fault.Cause.{Cause}
use Rattle.dbtg_schema.specs.declared.fault.Cause.TheVariants.{ByteNotAllowed, UnexpectedWord, NotAName, NotAPicture}
use Rattle.dbtg_schema.specs.Texts.Words.{text_words}
use Rattle.dbtg_schema.specs.Texts.Forms.{labels, Derives}
use Rattle.dbtg_schema.specs.Texts.SchemaGrammar.{Labelled, fits, schema}
use Rattle.dbtg_schema.specs.Texts.SchemaFaults.{faults, refusal}

-- a derivation of a text: its words, each with a role, and how the grammar derives them with these roles
abbrev pub Derivation : List ℕ → Type 0
Derivation text = (ws : List Labelled) × (map (λ l. l.word) ws ≡ text_words text) × Derives fits schema ws

-- an accepted text has exactly one derivation, which gives its words the roles that they are read with
abbrev pub AcceptedIsDerivedOnce : Type 0
AcceptedIsDerivedOnce =
    (text : List ℕ) → refusal text ≡ None → (d : Derivation text) × (d.0 ≡ labels fits schema (text_words text)) × ((e : Derivation text) → e ≡ d)

-- the causes of faults at a word, or an end, that the grammar does not want
abbrev pub is_of_grammar : Cause → Bool
is_of_grammar ByteNotAllowed = true
is_of_grammar UnexpectedWord = true
is_of_grammar NotAName = true
is_of_grammar NotAPicture = true
is_of_grammar _ = false

-- a text that the grammar derives has no such fault
abbrev pub DerivedHasNoFaultOfGrammar : Type 0
DerivedHasNoFaultOfGrammar = (text : List ℕ) → Derivation text → list_any (λ f. is_of_grammar f.cause) (faults text) ≡ false
