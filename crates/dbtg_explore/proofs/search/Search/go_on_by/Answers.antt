use Rattle.std.proofs.Common.{◌∙◌, [], sym, get_or}
use Rattle.dbtg_explore.specs.Orders.{history_of}
use Rattle.dbtg_explore.proofs.Numbered.{numbered_low, state_at}
use Rattle.dbtg_explore.proofs.Said.{turns_is}
use Rattle.dbtg_explore.proofs.Steps.{stays}
use Rattle.dbtg_explore.proofs.search.Search.go_on_by.Goals as goal

pub number-state-requires : goal.number-state-requires
number-state-requires c = numbered_low c.args.meeting.now c.args.self.now.numbers c.args.self.now.found.keys c.args.self.now.found.orders c.args.place c.requires.at.known c.requires.within

pub can_turn-requires-clause-array : goal.can_turn-requires-clause-array
can_turn-requires-clause-array c =
    (state_at c.args.meeting.now c.args.self.now.numbers c.args.self.now.found.keys c.args.self.now.found.orders c.args.place c.number-state.result c.requires.at.known c.requires.within c.number-state.ensures).number.is_array

pub returns-then-not-can_turn-clause-goes : goal.returns-then-not-can_turn-clause-goes
returns-then-not-can_turn-clause-goes c =
    let m = c.args.meeting.now in
    let s = c.args.self.now in
    let at = state_at m s.numbers s.found.keys s.found.orders c.args.place c.number-state.result c.requires.at.known c.requires.within c.number-state.ensures in
    stays m s c.args.place c.args.unit c.requires.within c.requires.at
    (sym (turns_is m s.numbers (history_of m (get_or s.found.orders c.args.place [])) c.number-state.result at c.args.unit) ∙ sym c.can_turn.ensures ∙ c.if-not-can_turn.true)

pub take_turn-requires-clause-turn : goal.take_turn-requires-clause-turn
take_turn-requires-clause-turn c =
    let m = c.args.meeting.now in
    let s = c.args.self.now in
    let at = state_at m s.numbers s.found.keys s.found.orders c.args.place c.number-state.result c.requires.at.known c.requires.within c.number-state.ensures in
    sym (turns_is m s.numbers (history_of m (get_or s.found.orders c.args.place [])) c.number-state.result at c.args.unit) ∙ sym c.can_turn.ensures ∙ c.if-not-can_turn.false
