-- One word further.
use Rattle.std.proofs.Common.{◌≡◌, List, [], ◌∷◌, ◌++◌, Some, None, refl, sym, subst, ◌∙◌, append_assoc}
use Rattle.dbtg_schema.specs.Lists.{Lists}
use Rattle.dbtg_schema.specs.Lookups.{first}
use Rattle.dbtg_schema.specs.Texts.Forms.{labelled, labels, start_with, starts}
use Rattle.dbtg_script.specs.declared.fault.Cause.{Cause}
use Rattle.dbtg_script.specs.Tokens.{Token}
use Rattle.dbtg_script.specs.StatementGrammar.{fits, Form, Labelled, statement}
use Rattle.dbtg_script.specs.Inside.StatementGrammar.{Start}
use Rattle.dbtg_script.specs.StatementFaults.{at_other, said}
use Rattle.dbtg_script.specs.Reading.{faults_at, first_word_faults, verdict}
use Rattle.dbtg_script.proofs.Reading.Firsts.{first_then, first_else}

-- a word that the grammar wants, with no fault
pub goes_on : (schema : Lists) (ws : List Labelled) (f : Form) (t : Token) (left : List Token) (s : Start) → start_with fits t (starts f) ≡ Some s → first (said schema ws t s.role) ≡ None
    → verdict schema ws f (t ∷ left) ≡ verdict schema (ws ++ labelled s.role t ∷ []) s.rest left
unfolding verdict
goes_on schema ws f t left s e none = rw e (first_else (said schema ws t s.role) _ none)

-- a word that the grammar wants, with a fault
pub stops_at : (schema : Lists) (ws : List Labelled) (f : Form) (t : Token) (left : List Token) (s : Start) (cause : Cause) → start_with fits t (starts f) ≡ Some s → first (said schema ws t s.role) ≡ Some cause
    → verdict schema ws f (t ∷ left) ≡ Some cause
unfolding verdict
stops_at schema ws f t left s cause e some = rw e (first_then (said schema ws t s.role) _ cause some)

-- a word that the grammar does not want
pub stops_other : (schema : Lists) (ws : List Labelled) (f : Form) (t : Token) (left : List Token) → start_with fits t (starts f) ≡ None
    → verdict schema ws f (t ∷ left) ≡ Some (at_other ws)
unfolding verdict
stops_other schema ws f t left e = rw e refl

pub labels_go_on : (ws : List Labelled) (f : Form) (t : Token) (left : List Token) (s : Start) → start_with fits t (starts f) ≡ Some s
    → ws ++ labels fits f (t ∷ left) ≡ (ws ++ labelled s.role t ∷ []) ++ labels fits s.rest left
labels_go_on ws f t left s e = rw e (sym (append_assoc ws (labelled s.role t ∷ []) (labels fits s.rest left)))

-- the word that is met first is the line's first word, so what is wrong with that is wrong with it
pub first_word : (schema now : Lists) (ws : List Labelled) (f : Form) (t : Token) (all left rest : List Token) (c : Cause) → first (first_word_faults schema all) ≡ Some c → now ≡ schema → (ws ≡ []) × (f ≡ statement) × (left ≡ all) → left ≡ t ∷ rest
    → first (faults_at now ws f t) ≡ Some c
first_word schema now ws f t all left rest c h same at is = rw (same, at.0, at.1) (subst (λ (z : List Token). first (first_word_faults schema z) ≡ Some c) (sym at.2 ∙ is) h)

-- a line whose first word is at fault does not end before it
pub not_at_end : (schema : Lists) (all left : List Token) (c : Cause) → first (first_word_faults schema all) ≡ Some c → left ≡ all → left ≡ [] → ⊥
not_at_end schema all left c h at is = let none = subst (λ (z : List Token). first (first_word_faults schema z) ≡ Some c) (sym at ∙ is) h in cc
