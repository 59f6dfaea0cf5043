use Rattle.dbtg_script.proofs.Reading.CachedLines.{known_with}
use Rattle.dbtg_script.proofs.line_cache.LineCache.note.Goals as goal

pub returns : goal.returns
returns c = λ schema ss h g. known_with schema ss c.args.self.now.places c.place_of.result _ h g
