use Rattle.std.proofs.Common.{rules, ◌≡◌, ◌∙◌, None, Some, ap, false, length, subst, sym, true}
use Rattle.dbtg_schema.specs.Lookups.{first}
use Rattle.dbtg_script.specs.Lines.{is_statement}
use Rattle.dbtg_trace.specs.declared.fault.EntryFault.TheVariants as entry
use Rattle.dbtg_trace.specs.declared.fault.TraceCause.{TraceCause}
use Rattle.dbtg_trace.specs.Faults.{whole_faults}
use Rattle.dbtg_trace.specs.Inside.Reading.{Refuses}
use Rattle.dbtg_trace.proofs.TraceSteps.{entry_at_once, entry_decides, note_passes, whole_at_once, whole_stops}
use Rattle.dbtg_trace.proofs.reader.take_line.Goals as goal

pub returns-in-Some-clause-refused : goal.returns-in-Some-clause-refused
returns-in-Some-clause-refused c =
    let n = length c.args.so_far.now.entries.items in
    let whole : first (whole_faults n c.args.line.text.now) ≡ Some c.in-Some.cause = search rules in
    whole_stops c.args.schema.now c.args.units n c.args.line.text.now c.in-Some.cause whole

pub returns-in-Some-clause-at_once : goal.returns-in-Some-clause-at_once
returns-in-Some-clause-at_once c = λ d wrong.
    let n = length c.args.so_far.now.entries.items in
    let whole : first (whole_faults n c.args.line.text.now) ≡ Some c.in-Some.cause = search rules in
    ap (λ (x : TraceCause). entry.Refused x) (whole_at_once c.args.schema.now c.args.units n c.args.line.text.now c.in-Some.cause d whole wrong)

pub returns-then-not-is_statement-clause-accepted : goal.returns-then-not-is_statement-clause-accepted
returns-then-not-is_statement-clause-accepted c =
    let n = length c.args.so_far.now.entries.items in
    let whole : first (whole_faults n c.args.line.text.now) ≡ None = search rules in
    let note : is_statement c.args.line.text.now ≡ false = search rules in
    note_passes c.args.schema.now c.args.units n c.args.line.text.now whole note

pub returns-in-Err-clause-refused : goal.returns-in-Err-clause-refused
returns-in-Err-clause-refused c =
    let n = length c.args.so_far.now.entries.items in
    let whole : first (whole_faults n c.args.line.text.now) ≡ None = search rules in
    let one : is_statement c.args.line.text.now ≡ true = search rules in
    subst (Refuses c.in-Err.fault) (sym (entry_decides c.args.schema.now c.args.units n c.args.line.text.now whole one)) c.in-Err.ensures.refused

pub returns-in_ok-push-in-Ok-clause-accepted : goal.returns-in_ok-push-in-Ok-clause-accepted
returns-in_ok-push-in-Ok-clause-accepted c =
    let n = length c.args.so_far.now.entries.items in
    let whole : first (whole_faults n c.args.line.text.now) ≡ None = search rules in
    let one : is_statement c.args.line.text.now ≡ true = search rules in
    entry_decides c.args.schema.now c.args.units n c.args.line.text.now whole one ∙ c.in-Ok.ensures.accepted

pub returns-in-Err-clause-at_once : goal.returns-in-Err-clause-at_once
returns-in-Err-clause-at_once c = λ d wrong.
    let n = length c.args.so_far.now.entries.items in
    let whole : first (whole_faults n c.args.line.text.now) ≡ None = search rules in
    let one : is_statement c.args.line.text.now ≡ true = search rules in
    c.in-Err.ensures.at_once d (entry_at_once c.args.schema.now c.args.units n c.args.line.text.now d whole one wrong)
