use Rattle.std.proofs.Common.{◌≡◌, ◌∙◌, ◌+◌, ◌++◌, [], List, ℕ, Option, Some, ap, append_assoc, arith, length, refl, subst, sym}
use Rattle.std.specs.List.{list_all}
use Rattle.dbtg_schema.specs.Lookups.{first}
use Rattle.dbtg_script.specs.Lines.{lines, trimmed}
use Rattle.dbtg_trace.specs.declared.fault.Fault.{Fault}
use Rattle.dbtg_trace.specs.declared.traced.Traced.{Traced}
use Rattle.dbtg_unit.specs.Database.Statements.Fits.{fits}
use Rattle.dbtg_trace.specs.Inside.Reading.{at_line, lines_verdict}
use Rattle.dbtg_trace.specs.Parts.{is_unit}
use Rattle.dbtg_trace.specs.Reading.{RefusesTrace, lines_faults_at_once}
use Rattle.dbtg_trace.specs.Traces.{entries_of, line_entry}
use Rattle.dbtg_trace.proofs.TraceSteps.{behind_line, both_pass, line_passes, line_refused, line_told, long_told, no_lines, none_kept, none_told, over, short_told, short_trace}
use Rattle.dbtg_trace.proofs.reader.read_trace.Goals as goal

pub returns-in-Err-clause-refused : goal.returns-in-Err-clause-refused
returns-in-Err-clause-refused c =
    let schema = c.args.schema.now in
    let units = c.args.units in
    let n = length c.loop-line.so_far.entries.items in
    let number = c.loop-line.number in
    let line = c.in-Some.line.now in
    let after = lines c.next.new.self.rest.now in
    let whole = short_trace schema units c.args.text.now (omega arith) ∙ sym c.loop-line.invariant.reached ∙ ap (λ (ls : List (List ℕ)). lines_verdict schema units n number ls) c.in-Some.ensures.found in
    let refused = rw c.trimmed.ensures at c.in-Err.ensures.refused in
    rw c.at_line.ensures (subst (λ (v : Option Fault). RefusesTrace (at_line number c.in-Err.fault) v) (sym whole) (line_refused schema units n number line after c.in-Err.fault refused))

pub returns-in-Err-clause-at_once : goal.returns-in-Err-clause-at_once
returns-in-Err-clause-at_once c = λ f wrong.
    let schema = c.args.schema.now in
    let units = c.args.units in
    let number = c.loop-line.number in
    let line = c.in-Some.line.now in
    let now = c.loop-line.invariant.at_once f wrong in
    let left = subst (λ (ls : List (List ℕ)). first (lines_faults_at_once schema units number ls) ≡ Some f) c.in-Some.ensures.found now.1 in
    let told = rw (c.trimmed.ensures, now.0) at c.in-Err.ensures.at_once in
    let note = rw c.trimmed.ensures at c.in-Err.ensures.note in
    let refused = rw (c.trimmed.ensures, now.0) at c.in-Err.ensures.refused in
    rw c.at_line.ensures (line_told schema units number line (lines c.next.new.self.rest.now) c.in-Err.fault f told note refused left)

pub returns-then-text-gt-BYTES-clause-at_once : goal.returns-then-text-gt-BYTES-clause-at_once
returns-then-text-gt-BYTES-clause-at_once c = λ f wrong. long_told c.args.schema.now c.args.units c.args.text.now f (omega arith) wrong

pub loop-line-init : goal.loop-line-init
loop-line-init c =
    let none = c.new.ensures.items in
    record {
      reached = rw none refl;
      said = rw none refl;
      fitting = λ sound. rw none refl;
      named = rw none refl;
      at_once = λ f wrong. (none, subst (λ (fs : List Fault). first fs ≡ Some f) (short_told c.args.schema.now c.args.units c.args.text.now (omega arith)) wrong);
      kept = rw none (record { cache = c.none.ensures c.args.schema.now []; said = c.none-2.ensures c.args.schema.now [] });
      in_range = omega arith;
    }

pub loop-line-preserved : goal.loop-line-preserved
loop-line-preserved c =
    let schema = c.args.schema.now in
    let units = c.args.units in
    let es = c.loop-line.so_far.entries.items in
    let number = c.loop-line.number in
    let line = c.in-Some.line.now in
    let after = lines c.next.new.self.rest.now in
    let found = c.in-Some.ensures.found in
    let accepted = rw c.trimmed.ensures at c.in_default-take_line.ensures.accepted in
    let taken = rw c.trimmed.ensures at c.in_default-take_line.ensures.taken in
    let counted = rw c.trimmed.ensures at c.in_default-take_line.ensures.counted in
    let here = line_entry schema units number (trimmed line) in
    record {
      reached = ap (λ (n : ℕ). lines_verdict schema units n (number + 1) after) counted
          ∙ sym (line_passes schema units (length es) number line after accepted)
          ∙ ap (λ (ls : List (List ℕ)). lines_verdict schema units (length es) number ls) (sym found) ∙ c.loop-line.invariant.reached;
      said = ap (λ (xs : List Traced). xs ++ entries_of schema units (number + 1) after) taken ∙ append_assoc es here (entries_of schema units (number + 1) after)
          ∙ ap (λ (ls : List (List ℕ)). es ++ entries_of schema units number ls) (sym found) ∙ c.loop-line.invariant.said;
      fitting = λ sound.
          let p = λ (t : Traced). fits schema t.statement in
          let new = rw c.trimmed.ensures at c.in_default-take_line.ensures.fitting sound in
          ap (list_all p) taken ∙ both_pass p es here (c.loop-line.invariant.fitting sound) new;
      named =
          let p = λ (t : Traced). is_unit units t.unit in
          let new = rw c.trimmed.ensures at c.in_default-take_line.ensures.units in
          ap (list_all p) taken ∙ both_pass p es here c.loop-line.invariant.named new;
      at_once = λ f wrong.
          let now = c.loop-line.invariant.at_once f wrong in
          let left = subst (λ (ls : List (List ℕ)). first (lines_faults_at_once schema units number ls) ≡ Some f) found now.1 in
          let told = rw (c.trimmed.ensures, now.0) at c.in_default-take_line.ensures.at_once in
          let b = behind_line schema units number line after f (none_told _ told) left in
          (taken ∙ none_kept schema units number (trimmed line) es b.0 now.0, b.1);
      kept = c.in_default-take_line.ensures.kept;
      in_range = omega (arith, c.in-Some.ensures.shorter);
    }

pub returns-clause-accepted : goal.returns-clause-accepted
returns-clause-accepted c =
    let schema = c.args.schema.now in
    short_trace schema c.args.units c.args.text.now (omega arith) ∙ sym c.loop-line.invariant.reached
    ∙ no_lines schema c.args.units (length c.loop-line.so_far.entries.items) c.loop-line.number (lines c.loop-line.left.rest.now) c.in_default.ensures.found

pub returns-clause-at_once : goal.returns-clause-at_once
returns-clause-at_once c = λ f wrong.
    over c.args.schema.now c.args.units c.loop-line.number (lines c.loop-line.left.rest.now) f c.in_default.ensures.found (c.loop-line.invariant.at_once f wrong).1
