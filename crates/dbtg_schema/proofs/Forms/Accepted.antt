-- What is read to its end with no fault is derived by the grammar.
use Rattle.std.proofs.Common.{◌≡◌, ℕ, Bool, true, false, cond, List, [], ◌∷◌, ◌++◌, Option, Some, None, refl}
use Rattle.std.proofs.lemmas.List.{append-nil}
use Rattle.std.specs.List.{flat_map}
use Rattle.dbtg_schema.specs.declared.fault.Fault.{Fault}
use Rattle.dbtg_schema.specs.declared.fault.Cause.TheVariants.{UnexpectedWord}
use Rattle.dbtg_schema.specs.Lookups.{first}
use Rattle.dbtg_schema.specs.Texts.Words.{Word}
use Rattle.dbtg_schema.specs.Texts.Forms.{starts, may_end, labelled, start_with, by_start, labels, Derives}
use Rattle.dbtg_schema.specs.Texts.SchemaGrammar.{Form, Start, Labelled, fits}
use Rattle.dbtg_schema.specs.Texts.SchemaFaults.{at_word, at_other, places, fault, record_end, open_record, unknown_vias}
use Rattle.dbtg_schema.specs.Inside.Reading.{verdict}
use Rattle.dbtg_schema.proofs.Forms.Derived.{derives_nothing, starts_derive, start_found}

pub none_rest : (xs ys : List Fault) → first (xs ++ ys) ≡ None → first ys ≡ None
none_rest [] ys h = h
none_rest (x ∷ xs) ys h = absurd cc

pub never : (xs zs : List Fault) (y : Fault) → first ((xs ++ y ∷ []) ++ zs) ≡ None → ⊥
never [] zs y h = cc
never (x ∷ xs) zs y h = cc

pub may_stop : (b : Bool) (xs : List Fault) (y : Fault) → first (cond b xs (y ∷ [])) ≡ None → b ≡ true
may_stop true xs y h = refl
may_stop false xs y h = absurd cc

by_case : (w : Word) (left : List Word) (end : ℕ) (ws : List Labelled) (f : Form) (o : Option Start) → start_with fits w (starts f) ≡ o
    → ((s : Start) → first (flat_map (λ here. here) (places end (ws ++ labelled s.role w ∷ []) s.rest left)) ≡ None → Derives fits s.rest (labels fits s.rest left))
    → first (flat_map (λ here. here) (by_start o (λ s. at_word ws (labelled s.role w) ∷ places end (ws ++ labelled s.role w ∷ []) s.rest left) (at_other ws (starts f) w ∷ []))) ≡ None
    → Derives fits f (by_start o (λ s. labelled s.role w ∷ labels fits s.rest left) [])
by_case w left end ws f None e rest h = absurd (never _ [] _ h)
by_case w left end ws f (Some s) e rest h =
    let d = rest s (none_rest (at_word ws (labelled s.role w)) (flat_map (λ here. here) (places end (ws ++ labelled s.role w ∷ []) s.rest left)) h) in
    let m = start_found fits w (starts f) s e in
    starts_derive fits f s w (labels fits s.rest left) m.0 m.1 d

-- what is read to its end with no fault is derived
pub derived : (left : List Word) (end : ℕ) (ws : List Labelled) (f : Form) → verdict end ws f left ≡ None → Derives fits f (labels fits f left)
unfolding verdict
derived [] end ws f h = derives_nothing fits f (may_stop (may_end f) (record_end (open_record ws) ++ unknown_vias ws ws) (fault UnexpectedWord end) (rw append-nil at h))
derived (w ∷ left) end ws f h = by_case w left end ws f (start_with fits w (starts f)) refl (λ s. derived left end (ws ++ labelled s.role w ∷ []) s.rest) h
