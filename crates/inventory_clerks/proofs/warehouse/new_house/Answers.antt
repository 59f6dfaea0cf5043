use Rattle.std.proofs.Common.{◌≡◌, Result, Ok, Err, IfOk, sym, subst}
use Rattle.dbtg_schema.specs.Lists.{Lists}
use Rattle.dbtg_schema.specs.Sound.{IsSound}
use Rattle.inventory_clerks.specs.declared.order.Stop.{Stop}
use Rattle.inventory_clerks.specs.declared.warehouse.Warehouse.{Warehouse}
use Rattle.inventory_clerks.proofs.warehouse.new_house.Goals as goal

of_schema : (schema : Lists) → IsSound schema → (made : Result Warehouse Stop) → IfOk made (λ house. house.db.schema ≡ schema) → IfOk made (λ house. IsSound house.db.schema)
of_schema schema sound (Ok house) same = subst IsSound (sym same) sound
of_schema schema sound (Err stop) same = tt

pub returns-in-Ok-clause-sound : goal.returns-in-Ok-clause-sound
returns-in-Ok-clause-sound c = of_schema c.in-Ok.schema c.in-Ok.ensures.sound c.make_house.result c.make_house.ensures.schema
