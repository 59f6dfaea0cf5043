use Rattle.std.proofs.Common.{List, ◌∙◌, ap, length, subst, sym}
use Rattle.dbtg_unit.specs.declared.unit.Entry.{Entry}
use Rattle.dbtg_step.specs.Core.Audit.{LeadsTo}
use Rattle.dbtg_step.specs.Core.Bare.{Bare, StandsAfter}
use Rattle.dbtg_step.proofs.MadeWhole.Bares.{leads}
use Rattle.dbtg_step.proofs.bare.BareDatabase.into_image_and_units.Goals as goal

pub returns : goal.returns
returns c =
    subst (λ (k : Bare). (history : List Entry) → StandsAfter k history → LeadsTo k.schema k.capacity (length k.units) history c.in_ok-image.image c.into_units.result) c.self.view_is
    (leads (record { schema = c.self.inside.schema.now; capacity = c.self.inside.capacity; hands = c.self.inside.held; units = c.self.inside.units.items; count = c.self.inside.count }) c.in_ok-image.image c.into_units.result c.in_ok-image.ensures (c.into_units.ensures ∙ ap (λ (k : Bare). k.units) (sym c.self.view_is)))
