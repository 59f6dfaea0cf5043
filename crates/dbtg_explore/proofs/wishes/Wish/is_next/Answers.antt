use Rattle.std.proofs.Common.{◌∙◌, ◌&&◌, [], ap, sym, get_or}
use Rattle.std.specs.Prelude.{◌==◌}
use Rattle.dbtg_explore.specs.Inside.Standing.{line_in}
use Rattle.dbtg_explore.specs.Orders.{history_of}
use Rattle.dbtg_explore.proofs.Numbered.{numbered_low, state_at}
use Rattle.dbtg_explore.proofs.Placed.{turn_numbered}
use Rattle.dbtg_explore.proofs.Said.{turns_is}
use Rattle.dbtg_explore.proofs.Judging.{next_is}
use Rattle.dbtg_explore.proofs.wishes.Wish.is_next.Goals as goal

pub number-state-requires : goal.number-state-requires
number-state-requires c = let s = c.args.search.now in numbered_low c.args.meeting.now s.numbers s.found.keys s.found.orders c.args.place c.requires.at.1.known c.requires.within

pub can_turn-requires-clause-array : goal.can_turn-requires-clause-array
can_turn-requires-clause-array c =
    let s = c.args.search.now in
    let at = state_at c.args.meeting.now s.numbers s.found.keys s.found.orders c.args.place c.number-state.result c.requires.at.1.known c.requires.within c.number-state.ensures in
    at.number.is_array

pub line-requires-clause-array : goal.line-requires-clause-array
line-requires-clause-array c =
    let s = c.args.search.now in
    let at = state_at c.args.meeting.now s.numbers s.found.keys s.found.orders c.args.place c.number-state.result c.requires.at.1.known c.requires.within c.number-state.ensures in
    at.number.is_array

pub line-requires-clause-numbered : goal.line-requires-clause-numbered
line-requires-clause-numbered c =
    let m = c.args.meeting.now in
    let s = c.args.search.now in
    let h = history_of m (get_or s.found.orders c.args.place []) in
    let at = state_at m s.numbers s.found.keys s.found.orders c.args.place c.number-state.result c.requires.at.1.known c.requires.within c.number-state.ensures in
    turn_numbered m h c.args.self.unit (sym (turns_is m s.numbers h c.number-state.result at c.args.self.unit) ∙ (sym c.can_turn.ensures ∙ c.if-can_turn.true))

pub returns-then-can_turn : goal.returns-then-can_turn
returns-then-can_turn c =
    let m = c.args.meeting.now in
    let s = c.args.search.now in
    let w = c.args.self in
    let n = c.number-state.result in
    let at = state_at m s.numbers s.found.keys s.found.orders c.args.place n c.requires.at.1.known c.requires.within c.number-state.ensures in
    ap (λ l. l == w.line) c.line.ensures
    ∙ ap (λ b. b && line_in m s.numbers n w.unit == w.line) (sym c.if-can_turn.true ∙ c.can_turn.ensures)
    ∙ next_is m s.numbers (history_of m (get_or s.found.orders c.args.place [])) n at w

pub returns-else-can_turn : goal.returns-else-can_turn
returns-else-can_turn c =
    let m = c.args.meeting.now in
    let s = c.args.search.now in
    let w = c.args.self in
    let n = c.number-state.result in
    let at = state_at m s.numbers s.found.keys s.found.orders c.args.place n c.requires.at.1.known c.requires.within c.number-state.ensures in
    c.if-can_turn.false ∙ ap (λ b. b && line_in m s.numbers n w.unit == w.line) (sym c.if-can_turn.false ∙ c.can_turn.ensures)
    ∙ next_is m s.numbers (history_of m (get_or s.found.orders c.args.place [])) n at w
