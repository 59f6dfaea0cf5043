use Rattle.std.proofs.Common.{sym, ◌∙◌, arith}
use Rattle.std.proofs.lemmas.Bool.{ne_eqb}
use Rattle.dbtg_schema.proofs.Forms.Runs.{gap_step, period_step, run_step, none_left}
use Rattle.dbtg_schema.proofs.scanner.Scanner.scan.Goals as goal

pub loop-first-preserved : goal.loop-first-preserved
loop-first-preserved c = record {
  same = rw c.line_after-line.ensures (gap_step c.loop-first.self.rest.now c.in-Some.after.now c.in-Some.first.now c.loop-first.self.line c.in-Some.ensures.cases.0 (sym c.is_gap.ensures ∙ c.if-is_gap.true) ∙ c.loop-first.invariant.same);
  shorter = omega (arith, c.in-Some.ensures.cases.1);
}

pub returns-then-first-eq46-clause-found : goal.returns-then-first-eq46-clause-found
returns-then-first-eq46-clause-found c =
    sym c.loop-first.invariant.same ∙ period_step c.loop-first.self.rest.now c.in-Some.after.now c.in-Some.first.now c.loop-first.self.line c.in-Some.ensures.cases.0 (sym c.is_gap.ensures ∙ c.if-is_gap.false) c.if-first-eq46.true

pub returns-else-first-eq46-clause-found : goal.returns-else-first-eq46-clause-found
returns-else-first-eq46-clause-found c =
    let r = c.run_len.ensures in
    sym c.loop-first.invariant.same ∙ run_step c.loop-first.self.rest.now c.in-Some.after.now c.in-Some.first.now c.loop-first.self.line c.run_len.result c.split_at.result.0.now c.split_at.result.1.now c.in-Some.ensures.cases.0 (sym c.is_gap.ensures ∙ c.if-is_gap.false) (ne_eqb _ _ c.if-first-eq46.false) r.in_range r.letters r.stops c.split_at.ensures.front c.split_at.ensures.back

pub returns-clause-found : goal.returns-clause-found
returns-clause-found c = sym c.loop-first.invariant.same ∙ none_left c.loop-first.self.rest.now c.loop-first.self.line c.in_default.ensures.cases
