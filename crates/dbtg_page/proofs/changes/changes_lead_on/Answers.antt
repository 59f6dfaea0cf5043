use Rattle.dbtg_page.proofs.ChangesLead.{changes_lead}
use Rattle.dbtg_page.proofs.changes.changes_lead_on.Goals as goal

pub returns : goal.returns
returns c = changes_lead
