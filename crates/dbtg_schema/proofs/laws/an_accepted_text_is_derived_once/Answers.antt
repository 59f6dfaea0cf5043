use Rattle.dbtg_schema.proofs.Forms.OneReading.{accepted_once}
use Rattle.dbtg_schema.proofs.laws.an_accepted_text_is_derived_once.Goals as goal

pub returns : goal.returns
returns c = accepted_once
