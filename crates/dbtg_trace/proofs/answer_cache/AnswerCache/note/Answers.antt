use Rattle.dbtg_trace.proofs.CachedAnswers.{kept_with}
use Rattle.dbtg_trace.proofs.answer_cache.AnswerCache.note.Goals as goal

pub returns : goal.returns
returns c = λ schema ts h g. kept_with schema ts c.args.self.now.places c.place_of.result _ h g
