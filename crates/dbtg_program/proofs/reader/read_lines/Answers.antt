use Rattle.std.proofs.Common.{ℕ, ◌+◌, ◌++◌, List, ap, drop, length, map, refl, subst, sym, ◌∙◌, arith}
use Rattle.std.specs.Prelude.{Option}
use Rattle.std.proofs.lemmas.List.{append-nil}
use Rattle.dbtg_script.specs.Lines.{lines}
use Rattle.dbtg_program.specs.declared.fault.Fault.{Fault}
use Rattle.dbtg_program.specs.Reading.{RefusesProgram, line_of}
use Rattle.dbtg_program.specs.Sentences.{Holding, cut, cut_lines}
use Rattle.dbtg_program.specs.Inside.Reading.{at_line, lines_verdict}
use Rattle.dbtg_program.proofs.Judged.{counted, line_passes, line_refused, no_lines, said_further, stand_further, stands}
use Rattle.dbtg_program.proofs.reader.read_lines.Goals as goal

pub returns-in-Err-clause-refused : goal.returns-in-Err-clause-refused
returns-in-Err-clause-refused c =
    let text = c.args.text.now in
    let at = length c.loop-line.lines.items in
    let number = c.loop-line.number in
    let line = c.in-Some.line.now in
    let after = lines c.next.new.self.rest.now in
    let whole = sym c.loop-line.invariant.reached ∙ ap (λ (ls : List (List ℕ)). lines_verdict text at number ls) c.in-Some.ensures.found in
    let left = c.loop-line.invariant.stand ∙ ap (cut_lines number) c.in-Some.ensures.found in
    let refused = (rw c.trimmed.ensures at c.in-Err.ensures.refused) (cut number line) (stands text at number line after left) in
    rw c.at_line.ensures (subst (λ (v : Option Fault). RefusesProgram (at_line number c.in-Err.fault) v) (sym whole) (line_refused text at number line after c.in-Err.fault refused))

pub loop-line-init : goal.loop-line-init
loop-line-init c =
    let none = c.new-lines.ensures.items in
    record {
      reached = rw none refl;
      stand = rw none c.requires.sentences;
      said = rw none refl;
      in_range = omega arith;
    }

pub loop-line-preserved : goal.loop-line-preserved
loop-line-preserved c =
    let text = c.args.text.now in
    let old = c.loop-line.lines.items in
    let at = length old in
    let number = c.loop-line.number in
    let line = c.in-Some.line.now in
    let after = lines c.next.new.self.rest.now in
    let found = c.in-Some.ensures.found in
    let left = c.loop-line.invariant.stand ∙ ap (cut_lines number) found in
    let here = stands text at number line after left in
    let accepted = (rw c.trimmed.ensures at c.in_default-take_line.ensures.accepted) (cut number line) here in
    let taken = (rw c.trimmed.ensures at c.in_default-take_line.ensures.taken) (cut number line) here in
    let count = ap length taken ∙ counted text number line old in
    let further = ap (λ (n : ℕ). drop n text.sentences) count ∙ stand_further text at number line after left in
    record {
      reached = ap (λ (n : ℕ). lines_verdict text n (number + 1) after) count ∙ sym (line_passes text at number line after accepted)
          ∙ ap (λ (ls : List (List ℕ)). lines_verdict text at number ls) (sym found) ∙ c.loop-line.invariant.reached;
      stand = further;
      said = (λ i. taken i ++ map (line_of text) (further i)) ∙ said_further text number line after old
          ∙ ap (λ (hs : List Holding). old ++ map (line_of text) hs) (sym left) ∙ c.loop-line.invariant.said;
      in_range = omega (arith, c.in-Some.ensures.shorter);
    }

pub returns-clause-accepted : goal.returns-clause-accepted
returns-clause-accepted c =
    sym c.loop-line.invariant.reached ∙ no_lines c.args.text.now (length c.loop-line.lines.items) c.loop-line.number (lines c.loop-line.left.rest.now) c.in_default.ensures.found

pub returns-clause-lines : goal.returns-clause-lines
returns-clause-lines c =
    let text = c.args.text.now in
    let all = c.loop-line.lines.items in
    let none = c.loop-line.invariant.stand ∙ ap (cut_lines c.loop-line.number) c.in_default.ensures.found in
    sym (append-nil all) ∙ ap (λ (hs : List Holding). all ++ map (line_of text) hs) (sym none) ∙ c.loop-line.invariant.said
