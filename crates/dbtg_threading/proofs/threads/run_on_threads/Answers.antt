use Rattle.std.proofs.Common.{length, map, subst}
use Rattle.std.specs.Prelude.{◌≡◌, ⊤}
use Rattle.std.proofs.lemmas.Option.{MatchOption-at_some}
use Rattle.dbtg_unit.specs.declared.unit.Entry.{Entry}
use Rattle.dbtg_threading.specs.Inside.Between.{AreBetween}
use Rattle.dbtg_threading.specs.Inside.Gone.{IsHistoryOfAll}
use Rattle.dbtg_threading.proofs.Around.{run_on_threads}
use Rattle.dbtg_threading.proofs.threads.run_on_threads.Goals as goal

pub settled_of-requires-clause-sound : goal.settled_of-requires-clause-sound
settled_of-requires-clause-sound g c κs within = rw c.in_ok-own.ensures c.requires.sound

pub returns-in-Some-2 : goal.returns-in-Some-2
returns-in-Some-2 g c =
    let schema = c.args.schema.now in
    let programs = c.args.lineup.programs.now in
    let around = c.args.lineup.around in
    let settled = c.in_ok-settled.settled in
    let members = c.in_ok-settled.members.items in
    let turns = c.in-Some-2.turns in
    let given = c.in_ok-given.ensures in
    let all = subst (λ s. IsHistoryOfAll s c.args.capacity programs settled members) c.in_ok-own.ensures c.in_ok-settled.ensures in
    let found = MatchOption-at_some ⊤ (λ turns. AreBetween around (length programs) (map (λ (e : Entry). e.unit) c.as_slice-history.result.now) turns.items) turns c.in-Some-2.is c.in_ok-turns.ensures.found in
    let between = subst (λ es. AreBetween around (length programs) (map (λ (e : Entry). e.unit) es) turns.items) c.as_slice-history.ensures found in
    run_on_threads schema c.args.capacity programs around turns.items settled members c.in_ok-given.given all between given.results given.history given.image given.units given.programs
