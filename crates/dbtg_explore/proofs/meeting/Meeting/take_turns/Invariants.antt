use Rattle.std.proofs.Common.{◌≡◌, ◌++◌, take}
use Rattle.dbtg_explore.specs.Inside.Links.{units_of}
use Rattle.dbtg_explore.specs.Inside.Walks.{StandsAt, links_of, order_of}
use Rattle.dbtg_explore.proofs.meeting.Meeting.take_turns.Given as goal

abbrev pub invariant-loop-turn : goal.invariant-loop-turn
invariant-loop-turn l =
    StandsAt l.self (order_of l.initial.walk.turns.items ++ take l.turn-index (units_of l.turns)) l.walk
    × (links_of l.walk.turns.items ≡ links_of l.initial.walk.turns.items ++ take l.turn-index l.turns)
