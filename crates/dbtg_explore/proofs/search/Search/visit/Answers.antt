use Rattle.std.proofs.Common.{[], refl, get_or}
use Rattle.std.proofs.lemmas.Result.{on_ok_weaker}
use Rattle.dbtg_explore.proofs.Visiting.{visited_more}
use Rattle.dbtg_explore.proofs.search.Search.visit.Goals as goal

pub returns-clause-visited : goal.returns-clause-visited
returns-clause-visited c =
    on_ok_weaker c.go_on.result
    (λ goes. visited_more c.args.meeting.now c.args.place c.args.self.now c.go_on.new.self c.args.ends.now c.note.new.ends (get_or c.args.self.now.found.orders c.args.place []) c.requires.within c.requires.visited goes refl c.in_ok-note.ensures.notes) c.go_on.ensures.goes
