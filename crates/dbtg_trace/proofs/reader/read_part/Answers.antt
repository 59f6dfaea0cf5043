use Rattle.std.proofs.Common.{◌∷◌, [], sym}
use Rattle.dbtg_script.specs.LineCache.{IsRead}
use Rattle.dbtg_script.specs.Lines.{trimmed}
use Rattle.dbtg_script.proofs.Public.{still_cached}
use Rattle.dbtg_trace.specs.Inside.Reading.{statements_in}
use Rattle.dbtg_trace.proofs.CachedSteps.{known_at_once, known_fits, known_passes}
use Rattle.dbtg_trace.proofs.reader.read_part.Goals as goal

read : (c : goal.In-Some) → IsRead c.args.schema.now (c.in-Some.again ∷ []) (trimmed c.args.part.now) 0
read c =
    let found = rw (c.in-Some.is, c.trimmed.ensures) at c.in_ok-again.ensures.says in
    found c.args.schema.now c.requires

pub returns-in_err-again-clause-at_once : goal.returns-in_err-again-clause-at_once
returns-in_err-again-clause-at_once c = λ cause wrong.
    let told = rw c.trimmed.ensures at c.in_err-again.ensures.memory in
    let line = told c.args.schema.now c.requires in
    absurd (known_at_once c.args.schema.now c.args.part.now line.0 cause line.1 wrong)

pub returns-in-Some-clause-accepted : goal.returns-in-Some-clause-accepted
returns-in-Some-clause-accepted c = known_passes c.args.schema.now c.args.part.now c.in-Some.again (read c)

pub returns-in-Some-clause-statement : goal.returns-in-Some-clause-statement
returns-in-Some-clause-statement c = let line = read c in sym line.said

pub returns-in-Some-clause-cache : goal.returns-in-Some-clause-cache
returns-in-Some-clause-cache c = still_cached c.args.schema.now (statements_in c.args.so_far.now.entries.items) c.in-Some.again c.args.so_far.now.cache.places c.requires

pub returns-in-Some-clause-fitting : goal.returns-in-Some-clause-fitting
returns-in-Some-clause-fitting c sound = known_fits c.args.schema.now sound c.args.part.now c.in-Some.again (read c)

pub returns-in-Some-clause-at_once : goal.returns-in-Some-clause-at_once
returns-in-Some-clause-at_once c = λ cause wrong. known_at_once c.args.schema.now c.args.part.now c.in-Some.again cause (read c) wrong
