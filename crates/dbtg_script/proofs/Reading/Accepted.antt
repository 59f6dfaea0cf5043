-- A line that is read to its end with no fault is derived by the grammar.
use Rattle.std.proofs.Common.{◌≡◌, ℕ, Bool, true, false, cond, List, [], ◌∷◌, ◌++◌, Option, Some, None, refl}
use Rattle.dbtg_schema.specs.Lists.{Lists}
use Rattle.dbtg_schema.specs.Lookups.{first}
use Rattle.dbtg_schema.specs.Texts.Forms.{starts, may_end, labelled, start_with, by_start, labels, Derives}
use Rattle.dbtg_schema.proofs.Public.{derives_nothing, start_found, starts_derive}
use Rattle.dbtg_script.specs.declared.fault.Cause.{Cause}
use Rattle.dbtg_script.specs.declared.fault.Cause.TheVariants.{UnexpectedWord}
use Rattle.dbtg_script.specs.Lines.{ends_in_text}
use Rattle.dbtg_script.specs.Tokens.{Token, tokens}
use Rattle.dbtg_script.specs.StatementGrammar.{Form, Labelled, fits, statement}
use Rattle.dbtg_script.specs.Inside.StatementGrammar.{Start}
use Rattle.dbtg_script.specs.StatementFaults.{at_other, end_faults, faults_from, said, statement_faults, when}

pub none_rest : (xs ys : List Cause) → first (xs ++ ys) ≡ None → first ys ≡ None
none_rest [] ys h = h
none_rest (x ∷ xs) ys h = absurd cc

may_stop : (b : Bool) (xs : List Cause) → first (cond b xs (UnexpectedWord ∷ [])) ≡ None → b ≡ true
may_stop true xs h = refl
may_stop false xs h = absurd cc

by_case : (schema : Lists) (t : Token) (left : List Token) (ws : List Labelled) (f : Form) (o : Option Start) → start_with fits t (starts f) ≡ o
    → ((s : Start) → first (faults_from schema (ws ++ labelled s.role t ∷ []) s.rest left) ≡ None → Derives fits s.rest (labels fits s.rest left))
    → first (by_start o (λ s. said schema ws t s.role ++ faults_from schema (ws ++ labelled s.role t ∷ []) s.rest left) (at_other ws ∷ [])) ≡ None
    → Derives fits f (by_start o (λ s. labelled s.role t ∷ labels fits s.rest left) [])
by_case schema t left ws f None e rest h = absurd cc
by_case schema t left ws f (Some s) e rest h =
    let d = rest s (none_rest (said schema ws t s.role) (faults_from schema (ws ++ labelled s.role t ∷ []) s.rest left) h) in
    let m = start_found fits t (starts f) s e in
    starts_derive fits f s t (labels fits s.rest left) m.0 m.1 d

derived : (left : List Token) (schema : Lists) (ws : List Labelled) (f : Form) → first (faults_from schema ws f left) ≡ None → Derives fits f (labels fits f left)
derived [] schema ws f h = derives_nothing fits f (may_stop (may_end f) (end_faults schema ws) h)
derived (t ∷ left) schema ws f h = by_case schema t left ws f (start_with fits t (starts f)) refl (λ s. derived left schema (ws ++ labelled s.role t ∷ []) s.rest) h

pub derived_line : (schema : Lists) (line : List ℕ) → first (statement_faults schema line) ≡ None → Derives fits statement (labels fits statement (tokens false line))
derived_line schema line h = derived (tokens false line) schema [] statement (none_rest (when (ends_in_text false line) UnexpectedWord) (faults_from schema [] statement (tokens false line)) h)
