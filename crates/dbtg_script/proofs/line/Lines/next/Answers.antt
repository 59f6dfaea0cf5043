use Rattle.std.proofs.Common.{◌≡◌, length, arith}
use Rattle.std.proofs.lemmas.Bool.Decides.{nat_tests}
use Rattle.dbtg_script.proofs.Reading.LineSteps.{next_line, no_line}
use Rattle.dbtg_script.proofs.line.Lines.next.Goals as goal

pub returns-then-is_empty-clause-found : goal.returns-then-is_empty-clause-found
returns-then-is_empty-clause-found c =
    let h : length c.args.self.now.rest.now ≡ 0 = grind (arith, nat_tests) in
    no_line c.args.self.now.rest.now h

pub returns-clause-found : goal.returns-clause-found
returns-clause-found c =
    let r = c.line_len.ensures in
    let h : length c.args.self.now.rest.now ≡ 0 → ⊥ = grind (arith, nat_tests) in
    next_line c.line_len.result c.args.self.now.rest.now c.split_at.result.0.now c.split_at.result.1.now c.behind_first-self.result.now h r.in_range r.inside r.stops c.split_at.ensures.front c.split_at.ensures.back c.behind_first-self.ensures
