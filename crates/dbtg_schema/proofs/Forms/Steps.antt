-- One word further.
use Rattle.std.proofs.Common.{◌≡◌, ℕ, List, [], ◌∷◌, ◌++◌, Some, None, sym, append_assoc}
use Rattle.dbtg_schema.specs.Lookups.{first}
use Rattle.dbtg_schema.specs.Texts.Forms.{labelled, labels, start_with, starts}
use Rattle.dbtg_schema.specs.Texts.SchemaGrammar.{fits, Form, Start, Labelled}
use Rattle.dbtg_schema.specs.Texts.SchemaFaults.{at_other, at_word}
use Rattle.dbtg_schema.specs.declared.fault.Fault.{Fault}
use Rattle.dbtg_schema.specs.Texts.Words.{Word}
use Rattle.dbtg_schema.specs.Inside.Reading.{verdict}
use Rattle.dbtg_schema.proofs.Forms.Firsts.{first_then, first_else}

-- a word that the grammar wants, with no fault
pub goes_on : (end : ℕ) (ws : List Labelled) (f : Form) (w : Word) (left : List Word) (s : Start) → start_with fits w (starts f) ≡ Some s → first (at_word ws (labelled s.role w)) ≡ None
    → verdict end ws f (w ∷ left) ≡ verdict end (ws ++ labelled s.role w ∷ []) s.rest left
unfolding verdict
goes_on end ws f w left s e none = rw e (first_else (at_word ws (labelled s.role w)) _ none)

-- a word that the grammar wants, with a fault
pub stops_at : (end : ℕ) (ws : List Labelled) (f : Form) (w : Word) (left : List Word) (s : Start) (fault : Fault) → start_with fits w (starts f) ≡ Some s → first (at_word ws (labelled s.role w)) ≡ Some fault
    → verdict end ws f (w ∷ left) ≡ Some fault
unfolding verdict
stops_at end ws f w left s fault e some = rw e (first_then (at_word ws (labelled s.role w)) _ fault some)

-- a word that the grammar does not want
pub stops_other : (end : ℕ) (ws : List Labelled) (f : Form) (w : Word) (left : List Word) (fault : Fault) → start_with fits w (starts f) ≡ None → first (at_other ws (starts f) w) ≡ Some fault
    → verdict end ws f (w ∷ left) ≡ Some fault
unfolding verdict
stops_other end ws f w left fault e some = rw e (first_then (at_other ws (starts f) w) [] fault some)

pub labels_go_on : (ws : List Labelled) (f : Form) (w : Word) (left : List Word) (s : Start) → start_with fits w (starts f) ≡ Some s
    → ws ++ labels fits f (w ∷ left) ≡ (ws ++ labelled s.role w ∷ []) ++ labels fits s.rest left
labels_go_on ws f w left s e = rw e (sym (append_assoc ws (labelled s.role w ∷ []) (labels fits s.rest left)))
