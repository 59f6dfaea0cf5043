-- The order of cells is strict.
use Rattle.std.proofs.Common.{ℕ}
use Rattle.std.proofs.lemmas.Bool.{false_from_ne_true}
use Rattle.dbtg_schema.specs.Lists.{Lists}
use Rattle.dbtg_cells.specs.Names.{name_below}
use Rattle.dbtg_step.specs.Inside.NeverStuck.{IsStrictOrder}
use Rattle.dbtg_step.specs.Machine.Network.{network}
pub use Rattle.dbtg_unit.proofs.Public.{name_chain, name_never, name_total, number_chain, number_never, number_total}

pub names_are_ordered : {schema : Lists} {capacity : ℕ} → IsStrictOrder (network schema capacity) name_below
names_are_ordered = record { never = λ c. false_from_ne_true _ (name_never c); chain = name_chain }
