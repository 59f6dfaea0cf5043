use Rattle.std.proofs.Common.{◌≡◌, ℕ, None, true, ap, length, sym, ◌∙◌}
use Rattle.dbtg_script.specs.Lines.{is_statement}
use Rattle.dbtg_program.specs.Inside.Reading.{whole_verdict}
use Rattle.dbtg_program.proofs.Judged.{note_passes, sentence_judged, whole_refused}
use Rattle.dbtg_program.proofs.reader.take_line.Goals as goal

pub returns-in-Some-clause-refused : goal.returns-in-Some-clause-refused
returns-in-Some-clause-refused c l stands =
    let line = c.args.line.now in
    whole_refused c.args.text.now (length c.args.lines.now.items) line l c.in-Some.cause (ap (λ (n : ℕ). whole_verdict n line) (sym c.count.ensures) ∙ sym c.whole_fault.ensures ∙ c.in-Some.is)

pub returns-then-is_statement-clause-accepted : goal.returns-then-is_statement-clause-accepted
returns-then-is_statement-clause-accepted c l stands =
    let line = c.args.line.now in
    let at = length c.args.lines.now.items in
    let whole : whole_verdict at line ≡ None = ap (λ (n : ℕ). whole_verdict n line) (sym c.count.ensures) ∙ sym c.whole_fault.ensures ∙ c.in_default.is in
    let holds : is_statement line ≡ true = sym c.is_statement.ensures ∙ c.if-is_statement.true in
    rw (sentence_judged c.args.text.now at line l whole holds) (c.take_sentence.ensures.accepted l (stands holds))

pub returns-then-is_statement-clause-refused : goal.returns-then-is_statement-clause-refused
returns-then-is_statement-clause-refused c l stands =
    let line = c.args.line.now in
    let at = length c.args.lines.now.items in
    let whole : whole_verdict at line ≡ None = ap (λ (n : ℕ). whole_verdict n line) (sym c.count.ensures) ∙ sym c.whole_fault.ensures ∙ c.in_default.is in
    let holds : is_statement line ≡ true = sym c.is_statement.ensures ∙ c.if-is_statement.true in
    rw (sentence_judged c.args.text.now at line l whole holds) (c.take_sentence.ensures.refused l (stands holds))

pub returns-clause-accepted : goal.returns-clause-accepted
returns-clause-accepted c l stands =
    let line = c.args.line.now in
    let at = length c.args.lines.now.items in
    let whole : whole_verdict at line ≡ None = ap (λ (n : ℕ). whole_verdict n line) (sym c.count.ensures) ∙ sym c.whole_fault.ensures ∙ c.in_default.is in
    note_passes c.args.text.now at line l whole (sym c.is_statement.ensures ∙ c.if-is_statement.false)
