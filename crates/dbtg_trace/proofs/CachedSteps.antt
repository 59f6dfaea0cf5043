-- Parts of lines that were read before, as lines of scripts.
use Rattle.std.proofs.Common.{◌≡◌, ℕ, zero, suc, ◌<◌, true, List, [], ◌∷◌, ◌++◌, length, Option, Some, None, slice_get, sym, ap, subst, ◌∙◌, arith}
use Rattle.std.specs.Prelude.{option_map, OnErr, Result, Ok, Err}
use Rattle.std.proofs.lemmas.List.{length-map}
use Rattle.dbtg_schema.specs.Lists.{Lists}
use Rattle.dbtg_schema.specs.Lookups.{first}
use Rattle.dbtg_schema.specs.Sound.{IsSound}
use Rattle.dbtg_cells.proofs.Public.{get_behind}
use Rattle.dbtg_unit.specs.declared.limits.TheConstants.{MOST_STATEMENTS}
use Rattle.dbtg_unit.specs.declared.statement.Statement.{Statement}
use Rattle.dbtg_unit.specs.Database.Statements.Fits.{fits}
use Rattle.dbtg_script.specs.LineCache.{IsRead}
use Rattle.dbtg_script.specs.Lines.{trimmed}
use Rattle.dbtg_script.specs.StatementFaults.{line_faults}
use Rattle.dbtg_script.specs.Statements.{line_statement}
use Rattle.dbtg_script.proofs.Public.{line_read_fits, new_read, not_at_once}
use Rattle.dbtg_trace.specs.declared.fault.TraceCause.{TraceCause}
use Rattle.dbtg_trace.specs.declared.fault.TraceCause.TheVariants.{AsInScript}
use Rattle.dbtg_trace.specs.declared.traced.Traced.{Traced}
use Rattle.dbtg_trace.specs.Inside.Reading.{part_verdict, statements_in}
use Rattle.dbtg_trace.specs.Reading.{part_faults_at_once}
use Rattle.dbtg_trace.proofs.EntrySteps.{at_once_of_line, of_line}

few : 0 < MOST_STATEMENTS
few = omega arith

-- what holds in any case holds where there is an error
pub on_err : {A E : Type 0} (r : Result A E) (X : Type 0) → X → OnErr r X
on_err (Ok a) X x = tt
on_err (Err e) X x = x

-- A LINE THAT WAS READ

asked_at : (ts : List Traced) (at : ℕ) (t : Traced) → slice_get ts at ≡ Some t → slice_get (statements_in ts) at ≡ Some t.statement
asked_at [] at t e = absurd cc
asked_at (x ∷ ts) zero t e = ap (option_map (λ (y : Traced). y.statement)) e
asked_at (x ∷ ts) (suc at) t e = asked_at ts at t e

-- a line that was read with an entry says its statement
pub read_again : (schema : Lists) (ts : List Traced) (line : List ℕ) (at : ℕ) (t : Traced) → IsRead schema (statements_in ts) line at → slice_get ts at ≡ Some t → IsRead schema (t.statement ∷ []) line 0
read_again schema ts line at t h e = record { holds_one = h.holds_one; faultless = h.faultless; said = sym (asked_at ts at t e) ∙ h.said }

-- so does a line that is read anew
pub read_alone : (schema : Lists) (line : List ℕ) (s : Statement) → first (line_faults schema 0 line) ≡ None → line_statement schema line ≡ Some s → IsRead schema (s ∷ []) line 0
read_alone schema line s h e = new_read schema [] s line (record { faultless = h; said = e })

-- it is the line of the next entry
pub read_next : (schema : Lists) (ts : List Traced) (line : List ℕ) (s : Statement) → IsRead schema (s ∷ []) line 0 → IsRead schema (statements_in ts ++ s ∷ []) line (length ts)
read_next schema ts line s h =
    subst (IsRead schema (statements_in ts ++ s ∷ []) line) (length-map ts (λ (t : Traced). t.statement))
    (record { holds_one = h.holds_one; faultless = h.faultless; said = get_behind (statements_in ts) s [] ∙ h.said })

-- A PART THAT IS SUCH A LINE

pub known_passes : (schema : Lists) (part : List ℕ) (s : Statement) → IsRead schema (s ∷ []) (trimmed part) 0 → part_verdict schema part ≡ None
known_passes schema part s h = of_line schema part h.holds_one ∙ ap (option_map AsInScript) (h.faultless 0 few)

pub known_fits : (schema : Lists) → IsSound schema → (part : List ℕ) (s : Statement) → IsRead schema (s ∷ []) (trimmed part) 0 → fits schema s ≡ true
known_fits schema sound part s h = line_read_fits schema sound 0 (trimmed part) (Ok (Some s)) (h.faultless 0 few) h.said

pub known_at_once : (schema : Lists) (part : List ℕ) (s : Statement) (c : TraceCause) → IsRead schema (s ∷ []) (trimmed part) 0 → first (part_faults_at_once schema part) ≡ Some c → ⊥
known_at_once schema part s c h wrong =
    let k = at_once_of_line schema part c h.holds_one wrong in
    not_at_once schema 0 (trimmed part) k.0 (h.faultless 0 few) k.1
