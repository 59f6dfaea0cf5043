use Rattle.inventory_clerks.specs.declared.TheConstants.{CAPACITY, UNITS}
use Rattle.inventory_clerks.proofs.Audited.{text_is_audited}
use Rattle.inventory_clerks.proofs.audited_text.Goals as goal

pub returns : goal.returns
returns c = text_is_audited (λ out. out.items) c.args.schema.now CAPACITY UNITS c.args.history.now c.in_ok-found.found c.found_text.result c.in_ok-found.ensures.audited c.found_text.ensures
