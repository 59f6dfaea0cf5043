use Rattle.std.proofs.Common.{◌∙◌, ap, take, slice_set}
use Rattle.std.proofs.Math.Seq.{take-set-lt}
use Rattle.dbtg_cells.proofs.owners.Owners.set.Goals as goal

pub returns-then-set-self : goal.returns-then-set-self
returns-then-set-self c =
    ap (take c.self.inside.len) (c.set_entry.ensures ∙ ap (slice_set c.self.inside.entries c.args.set) c.of.ensures)
    ∙ take-set-lt c.self.inside.len c.self.inside.entries c.args.set c.args.owner c.if-set-self.true
    ∙ ap (λ l. slice_set l c.args.set c.args.owner) c.self.view_is
