-- In a text without faults nothing is wrong at the end of a record type.
use Rattle.std.proofs.Common.{◌≡◌, ℕ, Bool, true, false, cond, List, [], ◌∷◌, ◌++◌, Option, Some, None, refl, sym, ap, subst, ◌∙◌, append_assoc, inl, inr}
use Rattle.std.specs.List.{flat_map, list_any, AllByRecursion}
use Rattle.std.proofs.lemmas.List.{append-nil}
use Rattle.std.proofs.lemmas.Bool.{cases_Bool}
use Rattle.dbtg_schema.specs.declared.fault.Fault.{Fault}
use Rattle.dbtg_schema.specs.declared.fault.Cause.TheVariants.{UnexpectedWord}
use Rattle.dbtg_schema.specs.declared.role.Role.{Role}
use Rattle.dbtg_schema.specs.declared.role.Role.TheVariants as role
use Rattle.dbtg_schema.specs.Lookups.{first}
use Rattle.dbtg_schema.specs.Texts.Words.{Word}
use Rattle.dbtg_schema.specs.Texts.Forms.{starts, may_end, labelled, start_with, by_start, labels}
use Rattle.dbtg_schema.specs.Texts.SchemaGrammar.{Form, Start, Labelled, fits}
use Rattle.dbtg_schema.specs.Texts.Labels.{is, until, entries}
use Rattle.dbtg_schema.specs.Texts.SchemaFaults.{at_word, at_other, ended, fault, places, record_end, open_record, unknown_vias}
use Rattle.dbtg_schema.specs.Inside.Reading.{verdict}
use Rattle.dbtg_schema.proofs.Forms.Accepted.{none_rest, never}
use Rattle.dbtg_schema.proofs.Forms.Roles.{role_is}
use Rattle.dbtg_schema.proofs.Forms.Walks.{EachClean, since_last, any_snoc, none_here}
use Rattle.dbtg_schema.proofs.Sound.Limits.{at_word_parts}

abbrev Ends : List Labelled → Type 0
Ends ws = record_end (open_record ws) ≡ []

end_by : (w : Word) (left : List Word) (end : ℕ) (ws : List Labelled) (f : Form) (o : Option Start)
    → ((s : Start) → first (flat_map (λ here. here) (places end (ws ++ labelled s.role w ∷ []) s.rest left)) ≡ None → Ends ((ws ++ labelled s.role w ∷ []) ++ labels fits s.rest left))
    → first (flat_map (λ here. here) (by_start o (λ s. at_word ws (labelled s.role w) ∷ places end (ws ++ labelled s.role w ∷ []) s.rest left) (at_other ws (starts f) w ∷ []))) ≡ None
    → Ends (ws ++ by_start o (λ s. labelled s.role w ∷ labels fits s.rest left) [])
end_by w left end ws f None rest h = absurd (never _ [] _ h)
end_by w left end ws f (Some s) rest h =
    subst Ends (append_assoc ws (labelled s.role w ∷ []) (labels fits s.rest left))
    (rest s (none_rest (at_word ws (labelled s.role w)) (flat_map (λ here. here) (places end (ws ++ labelled s.role w ∷ []) s.rest left)) h))

at_the_stop : (b : Bool) (xs ys : List Fault) (y : Fault) → first (cond b (xs ++ ys) (y ∷ [])) ≡ None → xs ≡ []
at_the_stop true xs ys y h = none_here xs ys h
at_the_stop false xs ys y h = absurd cc

-- nor at the end of the text
pub ends_well : (left : List Word) (end : ℕ) (ws : List Labelled) (f : Form) → verdict end ws f left ≡ None → Ends (ws ++ labels fits f left)
unfolding verdict
ends_well [] end ws f h = subst Ends (sym (append-nil ws)) (at_the_stop (may_end f) (record_end (open_record ws)) (unknown_vias ws ws) (fault UnexpectedWord end) (rw append-nil at h))
ends_well (w ∷ left) end ws f h = end_by w left end ws f (start_with fits w (starts f)) (λ s. ends_well left end (ws ++ labelled s.role w ∷ []) s.rest) h

-- the open record type is the last one
open_last : (before : List Labelled) (w : Labelled) (p : List Labelled) → is role.RecordEntry w ≡ true → list_any (is role.RecordEntry) p ≡ false → list_any (is role.SetEntry) (before ++ w ∷ p) ≡ false
    → open_record (before ++ w ∷ p) ≡ w ∷ p
open_last before w p h none no_set = rw no_set (since_last role.RecordEntry before w p h none)

ended_by : (ws : List Labelled) (l : Labelled) (r : Role) → at_word ws l ≡ [] → is r l ≡ true → ended ws r ≡ []
ended_by ws l r c t = subst (λ (q : Role). ended ws q ≡ []) (role_is r l t) (at_word_parts ws l c).0

closing : (before : List Labelled) (w : Labelled) (p ls : List Labelled) → is role.RecordEntry w ≡ true → list_any (is role.RecordEntry) p ≡ false → list_any (is role.SetEntry) (before ++ w ∷ p) ≡ false
    → EachClean (before ++ w ∷ p) ls → Ends ((before ++ w ∷ p) ++ ls) → record_end ((w ∷ p) ++ until role.RecordEntry (until role.SetEntry ls)) ≡ []
closing before w p [] h none no_set c e =
    let opened = open_last before w p h none no_set in
    subst (λ (z : List Labelled). record_end z ≡ []) (sym (append-nil (w ∷ p))) (subst (λ (z : List Labelled). record_end z ≡ []) opened (subst Ends (append-nil (before ++ w ∷ p)) e))
closing before w p (l ∷ ls) h none no_set c e =
    let opened = open_last before w p h none no_set in
    elim (cases_Bool (is role.SetEntry l)) [
      | inl t ↦
          let here = subst (λ (z : List Labelled). record_end z ≡ []) opened (ended_by (before ++ w ∷ p) l role.SetEntry c.0 t) in
          subst (λ (b : Bool). record_end ((w ∷ p) ++ until role.RecordEntry (cond b [] (l ∷ until role.SetEntry ls))) ≡ []) (sym t) (subst (λ (z : List Labelled). record_end z ≡ []) (sym (append-nil (w ∷ p))) here)
      | inr n ↦ subst (λ (b : Bool). record_end ((w ∷ p) ++ until role.RecordEntry (cond b [] (l ∷ until role.SetEntry ls))) ≡ []) (sym n) (elim (cases_Bool (is role.RecordEntry l)) [
        | inl t ↦
            let here = subst (λ (z : List Labelled). record_end z ≡ []) opened (ended_by (before ++ w ∷ p) l role.RecordEntry c.0 t) in
            subst (λ (b : Bool). record_end ((w ∷ p) ++ cond b [] (l ∷ until role.RecordEntry (until role.SetEntry ls))) ≡ []) (sym t) (subst (λ (z : List Labelled). record_end z ≡ []) (sym (append-nil (w ∷ p))) here)
        | inr m ↦
            let c2 = subst (λ (z : List Labelled). EachClean z ls) (append_assoc before (w ∷ p) (l ∷ [])) c.1 in
            let e2 = subst (λ (z : List Labelled). Ends z) (sym (append_assoc (before ++ w ∷ p) (l ∷ []) ls) ∙ ap (λ (z : List Labelled). z ++ ls) (append_assoc before (w ∷ p) (l ∷ []))) e in
            let s2 = subst (λ (z : List Labelled). list_any (is role.SetEntry) z ≡ false) (append_assoc before (w ∷ p) (l ∷ [])) (any_snoc role.SetEntry (before ++ w ∷ p) l no_set n) in
            let more = closing before w (p ++ l ∷ []) ls h (any_snoc role.RecordEntry p l none m) s2 c2 e2 in
            subst (λ (b : Bool). record_end ((w ∷ p) ++ cond b [] (l ∷ until role.RecordEntry (until role.SetEntry ls))) ≡ []) (sym m)
            (subst (λ (z : List Labelled). record_end (w ∷ z) ≡ []) (append_assoc p (l ∷ []) (until role.RecordEntry (until role.SetEntry ls))) more)
      ])
    ]

-- a record type at whose end nothing is wrong
abbrev pub Closed : List Labelled → Type 0
Closed [] = ⊥
Closed (w ∷ ws) = record_end (w ∷ ws) ≡ []

-- nothing is wrong at the end of each record type
pub each_ends : (before ls : List Labelled) → list_any (is role.SetEntry) before ≡ false → EachClean before ls → Ends (before ++ ls) → AllByRecursion Closed (entries role.RecordEntry (until role.SetEntry ls))
each_ends before [] no_set c e = tt
each_ends before (l ∷ ls) no_set c e = elim (cases_Bool (is role.SetEntry l)) [
  | inl t ↦ subst (λ (b : Bool). AllByRecursion Closed (entries role.RecordEntry (cond b [] (l ∷ until role.SetEntry ls)))) (sym t) tt
  | inr n ↦
      let s2 = any_snoc role.SetEntry before l no_set n in
      let rest = each_ends (before ++ l ∷ []) ls s2 c.1 (subst Ends (sym (append_assoc before (l ∷ []) ls)) e) in
      subst (λ (b : Bool). AllByRecursion Closed (entries role.RecordEntry (cond b [] (l ∷ until role.SetEntry ls)))) (sym n) (elim (cases_Bool (is role.RecordEntry l)) [
        | inl t ↦
            let here = closing before l [] ls t refl s2 c.1 (subst Ends (sym (append_assoc before (l ∷ []) ls)) e) in
            subst (λ (b : Bool). AllByRecursion Closed (cond b ((l ∷ until role.RecordEntry (until role.SetEntry ls)) ∷ entries role.RecordEntry (until role.SetEntry ls)) (entries role.RecordEntry (until role.SetEntry ls)))) (sym t) (here, rest)
        | inr m ↦
            subst (λ (b : Bool). AllByRecursion Closed (cond b ((l ∷ until role.RecordEntry (until role.SetEntry ls)) ∷ entries role.RecordEntry (until role.SetEntry ls)) (entries role.RecordEntry (until role.SetEntry ls)))) (sym m) rest
      ])
]
