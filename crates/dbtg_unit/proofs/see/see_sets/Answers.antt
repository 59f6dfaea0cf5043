use Rattle.std.proofs.Common.{◌∙◌, ap}
use Rattle.std.specs.Prelude.{map}
use Rattle.std.specs.List.{enumerate_from}
use Rattle.dbtg_unit.specs.Inside.Seen.{seen_as_owner}
use Rattle.dbtg_unit.proofs.Database.Records.SetsSeen.{seen_both}
use Rattle.dbtg_unit.proofs.see.see_sets.Goals as goal

pub returns : goal.returns
returns c =
    c.see_owned.ensures ∙ ap (λ sets. map (seen_as_owner c.args.schema.now c.args.key.now c.args.suppress.now) (enumerate_from 0 sets)) c.see_each_list.ensures
    ∙ seen_both c.args.schema.now c.args.key.now c.args.owners.now c.args.suppress.now _
