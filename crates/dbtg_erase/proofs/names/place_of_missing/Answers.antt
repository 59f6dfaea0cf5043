use Rattle.std.proofs.Common.{sym, ap, ◌∙◌, not}
use Rattle.dbtg_erase.specs.NextCell.{is_missing}
use Rattle.dbtg_erase.proofs.FirstNames.{first_there, none_further, none_there}
use Rattle.dbtg_erase.proofs.names.place_of_missing.Goals as goal

pub returns-then-not-holds-clause-first : goal.returns-then-not-holds-clause-first
returns-then-not-holds-clause-first c =
    first_there (is_missing c.args.held.now) c.args.names.now c.loop-place.place c.index-names-place.result c.loop-place-test.true c.index-names-place.is c.loop-place.invariant
    (ap not (sym c.holds.ensures ∙ c.if-not-holds.true))

pub loop-place-preserved : goal.loop-place-preserved
loop-place-preserved c =
    none_further (is_missing c.args.held.now) c.args.names.now c.loop-place.place c.index-names-place.result c.loop-place-test.true c.index-names-place.is c.loop-place.invariant
    (ap not (sym c.holds.ensures ∙ c.if-not-holds.false))

pub returns-clause-first : goal.returns-clause-first
returns-clause-first c = none_there (is_missing c.args.held.now) c.args.names.now c.loop-place.place c.loop-place-test.false c.loop-place.invariant
