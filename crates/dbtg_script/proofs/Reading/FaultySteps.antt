-- One word further, on the way to the word that a fault is about.
use Rattle.std.proofs.Common.{◌≡◌, List, [], ◌∷◌, ◌++◌, Some, None, refl}
use Rattle.dbtg_schema.specs.Lists.{Lists}
use Rattle.dbtg_schema.specs.Lookups.{first}
use Rattle.dbtg_schema.specs.Texts.Forms.{labelled, start_with, starts}
use Rattle.dbtg_script.specs.declared.fault.Cause.{Cause}
use Rattle.dbtg_script.specs.FaultyWord.{about, faulty_from}
use Rattle.dbtg_script.specs.Tokens.{Token}
use Rattle.dbtg_script.specs.StatementGrammar.{fits, Form, Labelled}
use Rattle.dbtg_script.specs.Inside.StatementGrammar.{Start}
use Rattle.dbtg_script.specs.StatementFaults.{said}

-- a word that the grammar wants, with no fault
pub faulty_behind : (schema : Lists) (ws : List Labelled) (f : Form) (t : Token) (left : List Token) (s : Start) → start_with fits t (starts f) ≡ Some s → first (said schema ws t s.role) ≡ None
    → faulty_from schema ws f (t ∷ left) ≡ faulty_from schema (ws ++ labelled s.role t ∷ []) s.rest left
faulty_behind schema ws f t left s e none = rw (e, none) refl

-- a word that the grammar wants, with a fault
pub faulty_here : (schema : Lists) (ws : List Labelled) (f : Form) (t : Token) (left : List Token) (s : Start) (cause : Cause) → start_with fits t (starts f) ≡ Some s → first (said schema ws t s.role) ≡ Some cause
    → faulty_from schema ws f (t ∷ left) ≡ about ws t s.role
faulty_here schema ws f t left s cause e some = rw (e, some) refl

-- a word that the grammar does not want
pub faulty_other : (schema : Lists) (ws : List Labelled) (f : Form) (t : Token) (left : List Token) → start_with fits t (starts f) ≡ None → faulty_from schema ws f (t ∷ left) ≡ Some t
faulty_other schema ws f t left e = rw e refl
