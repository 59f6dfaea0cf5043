use Rattle.std.proofs.Common.{rules, ◌≡◌}
use Rattle.dbtg_trace.proofs.CachedAnswers.{found}
use Rattle.dbtg_trace.proofs.answer_cache.AnswerCache.find.Goals as goal

pub returns-then-eq : goal.returns-then-eq
returns-then-eq c = λ schema ts h.
    let same : c.in-Some.seen.line.now ≡ c.args.answer.now = search rules in
    found schema ts c.args.self.now.places c.place_of.result c.in-Some.seen c.args.answer.now h c.in-Some.is same
