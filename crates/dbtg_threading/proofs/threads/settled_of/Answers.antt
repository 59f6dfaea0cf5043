use Rattle.std.proofs.Common.{sym, length, subst, arith}
use Rattle.std.proofs.lemmas.Result.{IfOk-at_ok}
use Rattle.dbtg_threading.specs.Inside.Gone.{AreFresh, HaveGone, IsHistoryOfAll}
use Rattle.dbtg_threading.proofs.Gone.{all_fresh, all_made}
use Rattle.dbtg_threading.proofs.threads.settled_of.Goals as goal

pub run_around-units-requires-clause-fresh : goal.run_around-units-requires-clause-fresh
run_around-units-requires-clause-fresh g c κs within =
    subst AreFresh (sym c.in_ok-db.ensures.units) (all_fresh c.in_ok-db.db (length c.args.lineup.programs.now))

pub run_around-units-requires-clause-programs : goal.run_around-units-requires-clause-programs
run_around-units-requires-clause-programs g c κs within = let e = c.in_ok-db.ensures.count in omega (arith, e)

pub returns-in-Ok : goal.returns-in-Ok
returns-in-Ok g c =
    let db = c.in_ok-db.db in
    let programs = c.args.lineup.programs.now in
    let after = c.run_around-units.result.0.items in
    let members = c.in_ok-members.members.items in
    let settled = c.in-Ok.settled in
    let gone = IfOk-at_ok (λ members. HaveGone db.schema programs c.in_ok-db.units.items after members.items) c.in_ok-members.was c.run_around-units.ensures.gone in
    let made = all_made db programs after members settled c.in_ok-db.ensures.database.2 (subst (λ us. HaveGone db.schema programs us after members) c.in_ok-db.ensures.units gone) c.in-Ok.ensures.ok in
    subst (λ n. IsHistoryOfAll c.args.schema n programs settled members) c.in_ok-db.ensures.database.1 (subst (λ s. IsHistoryOfAll s db.about.capacity programs settled members) c.in_ok-db.ensures.database.0 made)
