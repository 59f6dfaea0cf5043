use Rattle.std.proofs.Common.{◌∙◌, ap, sym}
use Rattle.dbtg_step.specs.Core.Whole.{state_now}
use Rattle.dbtg_explore.specs.Inside.Versions.{shows_version}
use Rattle.dbtg_explore.proofs.Versions.Images.{none_own, own_shown}
use Rattle.dbtg_explore.proofs.unversioned.is_own.Goals as goal

pub returns-in-Some : goal.returns-in-Some
returns-in-Some c =
    let d = c.args.database.now in
    c.has_version.ensures ∙ ap (λ v. shows_version v c.args.entry.now) c.in-Some.ensures.shows ∙ own_shown d.schema d.capacity (state_now d).database c.requires c.args.entry.now

pub returns-in-None : goal.returns-in-None
returns-in-None c =
    let d = c.args.database.now in
    sym (none_own d.schema d.capacity (state_now d).database c.requires c.args.entry.now (sym c.in-None.ensures.there))
