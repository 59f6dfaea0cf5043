use Rattle.std.proofs.Common.{rules, ◌∙◌}
use Rattle.dbtg_exploring.proofs.MeetingsRead.{explores, gives_up}
use Rattle.dbtg_exploring.proofs.command.explore_known.Goals as goal

pub returns-clause-done : goal.returns-clause-done
returns-clause-done g c =
    let read = c.in_ok-programs.ensures.read in
    let held = explores (g.S.Source.holds c.args.source.now) (g.S.Source.count c.args.source.now) (g.S.Source.order c.args.source.now) c.args.known.now c.as_slice.result.now c.in_ok-turns.turns c.told_of.result.now c.requires.counted c.requires.schema read.0 (c.as_slice.ensures.value ∙ read.1) c.in_ok-turns.ensures.read c.told_of.ensures c.args.asked c.in_ok-programs.programs.texts.items in
    search (rules, held, read.2)

pub returns-clause-refused : goal.returns-clause-refused
returns-clause-refused g c =
    let read = c.in_ok-programs.ensures.read in
    let over = gives_up (g.S.Source.holds c.args.source.now) (g.S.Source.count c.args.source.now) (g.S.Source.order c.args.source.now) c.args.known.now c.as_slice.result.now c.in_ok-turns.turns c.told_of.result.now c.requires.counted c.requires.schema read.0 (c.as_slice.ensures.value ∙ read.1) c.in_ok-turns.ensures.read c.told_of.ensures (g.S.Source.fails c.args.source.now) c.args.asked in
    search (rules, over)
