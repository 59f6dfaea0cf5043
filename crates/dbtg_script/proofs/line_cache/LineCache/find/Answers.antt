use Rattle.dbtg_script.proofs.Reading.CachedLines.{found}
use Rattle.dbtg_script.proofs.line_cache.LineCache.find.Goals as goal

pub returns-in-Some : goal.returns-in-Some
returns-in-Some c = λ schema ss h.
    found schema ss c.args.self.now.places c.place_of.result c.in-Some.seen c.args.line.now c.place_in.result h c.in-Some.is c.place_in.ensures.at c.place_in.ensures.same
