use Rattle.std.proofs.Common.{rules, ◌≡◌, ◌∷◌, ◌++◌, [], List, None, Option, Some, ap, arith, length, subst, sym, ℕ}
use Rattle.std.proofs.lemmas.Result.{err_from_is_err_and}
use Rattle.dbtg_trace.specs.Answers.{answer_in}
use Rattle.dbtg_trace.specs.Parts.{halves, unit_named}
use Rattle.dbtg_script.specs.declared.line_cache.Seen.{Seen}
use Rattle.dbtg_trace.specs.declared.traced.Traced.{Traced}
use Rattle.dbtg_trace.specs.Inside.AnswerCache.{AreSaid, IsSaid}
use Rattle.dbtg_trace.proofs.CachedAnswers.{said_next, still_said}
use Rattle.dbtg_trace.proofs.EntrySteps.{all_said, entry_refused, no_answer, no_arrow, no_unit}
use Rattle.dbtg_trace.proofs.reader.read_entry.Goals as goal

pub returns-in_default-clause-refused : goal.returns-in_default-clause-refused
returns-in_default-clause-refused c =
    let none : unit_named c.args.units c.args.line.text.now ≡ None = search rules in
    no_unit c.args.schema.now c.args.units c.args.line.text.now none

pub returns-in_default-halves-clause-refused : goal.returns-in_default-halves-clause-refused
returns-in_default-halves-clause-refused c =
    let line = c.args.line.text.now in
    let unit : unit_named c.args.units line ≡ Some c.in-Some.unit = search rules in
    let none : halves line ≡ None = search rules in
    no_arrow c.args.schema.now c.args.units c.in-Some.unit line unit none

pub returns-in_err-statement-clause-refused : goal.returns-in_err-statement-clause-refused
returns-in_err-statement-clause-refused c =
    let line = c.args.line.text.now in
    let unit : unit_named c.args.units line ≡ Some c.in-Some.unit = search rules in
    let parts : halves line ≡ Some (c.in-Some-halves.part.now, c.in-Some-halves.answer.now) = search rules in
    let p = err_from_is_err_and c.from_residual.result c.from_residual.ensures.1 in
    rw (p.1, p.2) (entry_refused c.args.schema.now c.args.units c.in-Some.unit line (c.in-Some-halves.part.now, c.in-Some-halves.answer.now) c.in_err-statement.field-0.0 (unit, parts) c.in_err-statement.ensures.refused)

pub returns-in-None-clause-refused : goal.returns-in-None-clause-refused
returns-in-None-clause-refused c =
    let line = c.args.line.text.now in
    let unit : unit_named c.args.units line ≡ Some c.in-Some.unit = search rules in
    let parts : halves line ≡ Some (c.in-Some-halves.part.now, c.in-Some-halves.answer.now) = search rules in
    let none : answer_in c.args.schema.now c.in-Some-halves.answer.now ≡ None = search rules in
    no_answer c.args.schema.now c.args.units c.in-Some.unit line (c.in-Some-halves.part.now, c.in-Some-halves.answer.now) (unit, parts) c.in_ok-statement.ensures.accepted none

pub returns-in-Some-2-clause-accepted : goal.returns-in-Some-2-clause-accepted
returns-in-Some-2-clause-accepted c =
    let line = c.args.line.text.now in
    let unit : unit_named c.args.units line ≡ Some c.in-Some.unit = search rules in
    let parts : halves line ≡ Some (c.in-Some-halves.part.now, c.in-Some-halves.answer.now) = search rules in
    let said : answer_in c.args.schema.now c.in-Some-halves.answer.now ≡ Some c.in-Some-2.said = search rules in
    all_said c.args.schema.now c.args.units c.in-Some.unit line (c.in-Some-halves.part.now, c.in-Some-halves.answer.now) c.in-Some-2.said (unit, parts) c.in_ok-statement.ensures.accepted said

pub returns-in-Some-2-clause-said : goal.returns-in-Some-2-clause-said
returns-in-Some-2-clause-said c =
    let schema = c.args.schema.now in
    let ts = c.args.so_far.now.entries.items in
    let answer = c.in-Some-halves.answer.now in
    let t : Traced = record { line = c.args.line.number; unit = c.in-Some.unit; statement = c.in_ok-statement.statement; said = c.in-Some-2.said } in
    let said : answer_in schema answer ≡ Some c.in-Some-2.said = search rules in
    let same = ap (λ (xs : List Traced). length xs) c.in_ok-statement.ensures.entries in
    let at : length ts ≡ c.len.result = omega (arith, same) in
    let next = subst (λ (n : ℕ). IsSaid schema (ts ++ t ∷ []) answer n) at (said_next schema ts t answer said) in
    let kept = subst (λ (ps : List (Option Seen)). AreSaid schema (ts ++ t ∷ []) ps) (sym c.in_ok-statement.ensures.answers) (still_said schema ts t c.args.so_far.now.answers.places c.requires.said) in
    c.note.ensures schema (ts ++ t ∷ []) kept next
