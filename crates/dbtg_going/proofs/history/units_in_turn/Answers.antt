use Rattle.std.proofs.Common.{rules}
use Rattle.std.proofs.lemmas.Iterator.{items_from_collect, YieldsList-from_map, YieldsList-from_slice}
use Rattle.std.proofs.lemmas.Iterator.Consumers.{YieldsList-at}
use Rattle.dbtg_unit.specs.declared.unit.Entry.{Entry}
use Rattle.dbtg_going.proofs.history.units_in_turn.Goals as goal

pub returns : goal.returns
returns c =
    items_from_collect c.collect.result c.collect.ensures.ran
    (YieldsList-from_map _ (λ (e : Entry). e.unit) (YieldsList-at c.map.ensures.source (YieldsList-from_slice c.args.history.now c.iter.ensures.rest)) c.map.ensures.closure (λ x r q k. search rules))
