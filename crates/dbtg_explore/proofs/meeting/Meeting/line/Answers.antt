use Rattle.std.proofs.Common.{◌∙◌, ap, sym}
use Rattle.std.specs.Prelude.{option_map, unwrap_or}
use Rattle.dbtg_program.specs.declared.program.Program.{Program}
use Rattle.dbtg_explore.specs.Inside.Standing.{line_of, said}
use Rattle.dbtg_explore.specs.Orders.{Meeting}
use Rattle.dbtg_explore.proofs.Placed.{none_got, one_got}
use Rattle.dbtg_explore.proofs.meeting.Meeting.line.Goals as goal

pub returns-in-Some : goal.returns-in-Some
returns-in-Some c =
    let programs = ap (λ (m : Meeting). m.programs) c.self.view_is in
    let found = one_got c.args.self.now.programs c.self.inside.programs.now c.args.unit c.in-Some.program.now c.requires.numbered programs c.in-Some.ensures.lookup.0 c.in-Some.ensures.lookup.1 in
    c.line_of.ensures ∙ ap (line_of c.in-Some.program.now) c.said.ensures
    ∙ sym (ap (λ o. unwrap_or (option_map (λ (p : Program). line_of p (said c.args.numbers.now c.args.state c.args.unit 3)) o) 0) found)

pub returns-in-None : goal.returns-in-None
returns-in-None c =
    let programs = ap (λ (m : Meeting). m.programs) c.self.view_is in
    sym (ap (λ o. unwrap_or (option_map (λ (p : Program). line_of p (said c.args.numbers.now c.args.state c.args.unit 3)) o) 0)
    (none_got c.args.self.now.programs c.self.inside.programs.now c.args.unit c.requires.numbered programs c.in-None.ensures.lookup.0))
