use Rattle.std.proofs.Common.{rules, ◌≡◌, ◌∷◌, ◌++◌, ◌∙◌, [], List, Some, ap, arith, false, length, subst, sym, true, ℕ}
use Rattle.std.specs.Prelude.{option_map}
use Rattle.dbtg_script.specs.Lines.{is_statement, trimmed}
use Rattle.dbtg_script.specs.LineCache.{IsRead}
use Rattle.dbtg_script.specs.Statements.{line_statement}
use Rattle.dbtg_script.proofs.Public.{still_cached}
use Rattle.dbtg_trace.specs.declared.fault.TraceCause.TheVariants.{AsInScript}
use Rattle.dbtg_trace.specs.Inside.Reading.{statements_in}
use Rattle.dbtg_trace.proofs.CachedSteps.{read_alone, read_next}
use Rattle.dbtg_trace.proofs.EntrySteps.{at_once_of_line, no_statement, of_line, part_refused, part_told}
use Rattle.dbtg_trace.proofs.reader.read_new.Goals as goal

pub returns-then-not-is_statement-clause-refused : goal.returns-then-not-is_statement-clause-refused
returns-then-not-is_statement-clause-refused c =
    let none : is_statement (trimmed c.args.part.now) ≡ false = search rules in
    no_statement c.args.schema.now c.args.part.now none

pub returns-in-Ok-Some-clause-accepted : goal.returns-in-Ok-Some-clause-accepted
returns-in-Ok-Some-clause-accepted c =
    let one : is_statement (trimmed c.args.part.now) ≡ true = search rules in
    of_line c.args.schema.now c.args.part.now one ∙ ap (option_map AsInScript) c.in-Ok-Some.ensures.accepted

pub returns-in-Err-clause-refused : goal.returns-in-Err-clause-refused
returns-in-Err-clause-refused c =
    let one : is_statement (trimmed c.args.part.now) ≡ true = search rules in
    rw c.in_entry.ensures (part_refused c.args.schema.now c.args.part.now c.in-Err.fault one c.in-Err.ensures.refused)

pub returns-in-Err-clause-at_once : goal.returns-in-Err-clause-at_once
returns-in-Err-clause-at_once c = λ cause wrong.
    let one : is_statement (trimmed c.args.part.now) ≡ true = search rules in
    rw c.in_entry.ensures (part_told c.args.schema.now c.args.part.now c.in-Err.fault cause one c.in-Err.ensures.at_once wrong)

pub returns-in-Ok-Some-clause-at_once : goal.returns-in-Ok-Some-clause-at_once
returns-in-Ok-Some-clause-at_once c = λ cause wrong.
    let one : is_statement (trimmed c.args.part.now) ≡ true = search rules in
    let k = at_once_of_line c.args.schema.now c.args.part.now cause one wrong in
    c.in-Ok-Some.ensures.at_once k.0 k.1

pub returns-in-Ok-Some-clause-cache : goal.returns-in-Ok-Some-clause-cache
returns-in-Ok-Some-clause-cache c =
    let schema = c.args.schema.now in
    let ts = c.args.so_far.now.entries.items in
    let s = c.in-Ok-Some.statement in
    let line = trimmed c.args.part.now in
    let says : line_statement schema line ≡ Some s = search rules in
    let read = read_next schema ts line s (read_alone schema line s c.in-Ok-Some.ensures.accepted says) in
    let at : length ts ≡ c.len.result = omega arith in
    let ss = statements_in ts ++ s ∷ [] in
    let here = subst (λ (n : ℕ). IsRead schema ss line n) at read in
    let kept = subst (λ (l : List ℕ). IsRead schema ss l c.len.result) (sym c.trimmed-in-Ok-Some.ensures) here in
    c.note.ensures schema ss (still_cached schema (statements_in ts) s c.args.so_far.now.cache.places c.requires) kept
