use Rattle.std.proofs.Common.{◌≡◌, ◌∙◌, ◌+◌, ◌++◌, refl, sym, ap, subst, List, ℕ, Option, Some, arith, length}
use Rattle.std.specs.List.{list_all}
use Rattle.std.proofs.lemmas.List.{append-nil}
use Rattle.dbtg_schema.specs.Lookups.{first}
use Rattle.dbtg_unit.specs.Database.Statements.Fits.{fits as statement_fits}
use Rattle.dbtg_unit.specs.declared.statement.Statement.{Statement}
use Rattle.dbtg_script.specs.declared.fault.Fault.{Fault}
use Rattle.dbtg_script.specs.Lines.{lines, trimmed}
use Rattle.dbtg_script.specs.Inside.Reading.{lines_verdict, at_line}
use Rattle.dbtg_script.specs.Reading.{RefusesScript, lines_faults_at_once}
use Rattle.dbtg_script.specs.Statements.{line_statement, script, statements_of}
use Rattle.dbtg_script.proofs.Fitting.FittingStatements.{script_fits}
use Rattle.dbtg_script.proofs.Reading.AtOnce.{behind_line, line_told, long_told, none_at_once, none_kept, over, short_told}
use Rattle.dbtg_script.proofs.Reading.ScriptSteps.{line_passes, line_refused, counted, one_more, short_script, no_lines}
use Rattle.dbtg_script.proofs.reader.read_script.Goals as goal

pub returns-in-Err-clause-refused : goal.returns-in-Err-clause-refused
returns-in-Err-clause-refused c =
    let schema = c.args.schema.now in
    let n = length c.loop-line.statements.items in
    let number = c.loop-line.number in
    let line = c.in-Some.line.now in
    let after = lines c.next.new.self.rest.now in
    let whole = short_script schema c.args.text.now (omega arith) ∙ sym c.loop-line.invariant.reached ∙ ap (λ (ls : List (List ℕ)). lines_verdict schema n number ls) c.in-Some.ensures.found in
    let refused = rw (c.trimmed.ensures, c.loop-line.invariant.same) at c.in-Err.ensures.refused in
    rw c.at_line.ensures (subst (λ (v : Option Fault). RefusesScript (at_line number c.in-Err.fault) v) (sym whole) (line_refused schema n number line after c.in-Err.fault refused))

pub returns-in-Err-clause-at_once : goal.returns-in-Err-clause-at_once
returns-in-Err-clause-at_once c = λ f wrong.
    let schema = c.args.schema.now in
    let number = c.loop-line.number in
    let line = c.in-Some.line.now in
    let now = c.loop-line.invariant.at_once f wrong in
    let left = subst (λ (ls : List (List ℕ)). first (lines_faults_at_once schema number ls) ≡ Some f) c.in-Some.ensures.found now.1 in
    let told = rw (c.trimmed.ensures, c.loop-line.invariant.same, now.0) at c.in-Err.ensures.at_once in
    let note = rw c.trimmed.ensures at c.in-Err.ensures.note in
    let refused = rw (c.trimmed.ensures, c.loop-line.invariant.same, now.0) at c.in-Err.ensures.refused in
    rw c.at_line.ensures (line_told schema number line (lines c.next.new.self.rest.now) c.in-Err.fault f told note refused left)

pub returns-then-text-gt-SCRIPT_BYTES-clause-at_once : goal.returns-then-text-gt-SCRIPT_BYTES-clause-at_once
returns-then-text-gt-SCRIPT_BYTES-clause-at_once c = λ f wrong. long_told c.args.schema.now c.args.text.now f (omega arith) wrong

pub loop-line-init : goal.loop-line-init
loop-line-init c =
    let none = c.new-statements.ensures.items in
    record {
      same = rw c.new-words.ensures refl;
      reached = rw none refl;
      said = rw none refl;
      cache = c.none-cache.ensures c.args.schema.now c.new-statements.result.items;
      at_once = λ f wrong. (none, subst (λ (fs : List Fault). first fs ≡ Some f) (short_told c.args.schema.now c.args.text.now (omega arith)) wrong);
      in_range = omega arith;
    }

pub loop-line-preserved : goal.loop-line-preserved
loop-line-preserved c =
    let schema = c.args.schema.now in
    let ss = c.loop-line.statements.items in
    let number = c.loop-line.number in
    let line = c.in-Some.line.now in
    let after = lines c.next.new.self.rest.now in
    let found = c.in-Some.ensures.found in
    let same = c.loop-line.invariant.same in
    let accepted = rw (c.trimmed.ensures, same) at c.in_default-take_line.ensures.accepted in
    let taken = rw (c.trimmed.ensures, same) at c.in_default-take_line.ensures.taken in
    record {
      same = c.in_default-take_line.ensures.schema ∙ same;
      reached = ap (λ (n : ℕ). lines_verdict schema n (number + 1) after) (ap length taken ∙ counted schema ss (trimmed line))
          ∙ sym (line_passes schema (length ss) number line after accepted)
          ∙ ap (λ (ls : List (List ℕ)). lines_verdict schema (length ss) number ls) (sym found) ∙ c.loop-line.invariant.reached;
      said = ap (λ (xs : List Statement). xs ++ statements_of schema after) taken ∙ one_more (line_statement schema (trimmed line)) ss (statements_of schema after)
          ∙ ap (λ (ls : List (List ℕ)). ss ++ statements_of schema ls) (sym found) ∙ c.loop-line.invariant.said;
      cache = rw same at c.in_default-take_line.ensures.cache;
      at_once = λ f wrong.
          let now = c.loop-line.invariant.at_once f wrong in
          let left = subst (λ (ls : List (List ℕ)). first (lines_faults_at_once schema number ls) ≡ Some f) found now.1 in
          let clean = none_at_once schema 0 (trimmed line) (rw now.0 at accepted) in
          let b = behind_line schema number line after f clean left in
          (taken ∙ none_kept schema (trimmed line) ss b.0 now.0, b.1);
      in_range = omega (arith, c.in-Some.ensures.shorter);
    }

pub returns-clause-accepted : goal.returns-clause-accepted
returns-clause-accepted c =
    let schema = c.args.schema.now in
    short_script schema c.args.text.now (omega arith) ∙ sym c.loop-line.invariant.reached
    ∙ no_lines schema (length c.loop-line.statements.items) c.loop-line.number (lines c.loop-line.left.rest.now) c.in_default.ensures.found

pub returns-clause-at_once : goal.returns-clause-at_once
returns-clause-at_once c = λ f wrong.
    over c.args.schema.now c.loop-line.number (lines c.loop-line.left.rest.now) f c.in_default.ensures.found (c.loop-line.invariant.at_once f wrong).1

pub returns-clause-fitting : goal.returns-clause-fitting
returns-clause-fitting c sound =
    let schema = c.args.schema.now in
    let ss = c.loop-line.statements.items in
    let all : ss ≡ script schema c.args.text.now =
    sym (append-nil ss) ∙ ap (λ (ls : List (List ℕ)). ss ++ statements_of schema ls) (sym c.in_default.ensures.found) ∙ c.loop-line.invariant.said in
    ap (list_all (statement_fits schema)) all ∙ script_fits schema sound c.args.text.now (returns-clause-accepted c)
