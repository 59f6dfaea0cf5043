-- The words that the grammar sees, from here on.
use Rattle.std.proofs.Common.{◌≡◌, ℕ, ◌≤◌, true, false, List, [], ◌∷◌, length, Some, refl, ap}
use Rattle.std.specs.Prelude.{filter, not}
use Rattle.std.proofs.lemmas.Bool.{le-ltb}
use Rattle.std.proofs.lemmas.List.{append-nil}
use Rattle.dbtg_schema.specs.declared.limits.TheConstants.{SCHEMA_BYTES}
use Rattle.dbtg_schema.specs.declared.fault.Fault.{Fault}
use Rattle.dbtg_schema.specs.Lookups.{first}
use Rattle.dbtg_schema.specs.Texts.Words.{is_noise, last_line, text_words, Word, words}
use Rattle.dbtg_schema.specs.Texts.SchemaGrammar.{Form, Labelled, schema}
use Rattle.dbtg_schema.specs.Texts.SchemaFaults.{at_end, refusal}
use Rattle.dbtg_schema.specs.Texts.Reading.{faults_at}
use Rattle.dbtg_schema.specs.Inside.Reading.{verdict}

abbrev pub seen : ℕ → List ℕ → List Word
seen line rest = filter (λ w. not (is_noise w)) (words line rest)

pub seen_word : (line line2 : ℕ) (rest rest2 : List ℕ) (w : Word) → words line rest ≡ w ∷ words line2 rest2 → is_noise w ≡ false → seen line rest ≡ w ∷ seen line2 rest2
seen_word line line2 rest rest2 w e h = rw (e, h) refl

pub seen_noise : (line line2 : ℕ) (rest rest2 : List ℕ) (w : Word) → words line rest ≡ w ∷ words line2 rest2 → is_noise w ≡ true → seen line rest ≡ seen line2 rest2
seen_noise line line2 rest rest2 w e h = rw (e, h) refl

pub seen_end : (line : ℕ) (rest : List ℕ) → words line rest ≡ [] → seen line rest ≡ []
seen_end line rest e = rw e refl

pub short_text : (text : List ℕ) → length text ≤ SCHEMA_BYTES → refusal text ≡ verdict (last_line text) [] schema (text_words text)
unfolding verdict
short_text text le = rw (le-ltb SCHEMA_BYTES (length text) le) refl

pub at_the_end : (end : ℕ) (ws : List Labelled) (f : Form) → verdict end ws f [] ≡ first (at_end end ws f)
unfolding verdict
at_the_end end ws f = ap first (append-nil (at_end end ws f))

-- the word that is met first is the text's first word, so what is wrong with that is wrong with it
pub first_word : (ws : List Labelled) (f : Form) (w v : Word) (after before seen : List Word) (fault : Fault) → before ≡ w ∷ after → first (faults_at [] schema w) ≡ Some fault → (ws ≡ []) × (f ≡ schema) × (seen ≡ before) → (rest : List Word) → seen ≡ v ∷ rest
    → first (faults_at ws f v) ≡ Some fault
first_word ws f w v after before seen fault e h at rest is = let same : v ≡ w = cc (e, at.2, is) in rw (at.0, at.1, same) h

-- a text with a word does not end before it
pub not_at_end : (w : Word) (after before seen : List Word) → before ≡ w ∷ after → seen ≡ before → seen ≡ [] → ⊥
not_at_end w after before seen e at is = cc (e, at, is)
