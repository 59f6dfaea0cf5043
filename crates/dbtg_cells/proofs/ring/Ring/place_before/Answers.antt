use Rattle.std.proofs.Common.{sym, ap, ◌∙◌, option_map}
use Rattle.dbtg_cells.specs.Placed.{Before, placed}
use Rattle.dbtg_cells.specs.Members.{has_key}
use Rattle.dbtg_cells.specs.Inside.MemberLists.{members_of}
use Rattle.dbtg_cells.proofs.Occurrences.{changed, shown_as}
use Rattle.dbtg_cells.proofs.ring.Ring.place_before.Goals as goal

pub returns-clause-occurrence : goal.returns-clause-occurrence
returns-clause-occurrence c =
    let shown = ap (λ l. shown_as c.self.inside.owner (members_of (option_map (λ b. b.value) l))) (sym c.in-Some.is) ∙ ap (λ v. v.occurrence) c.self.view_is in
    let change = placed (Before (has_key c.args.other)) (c.args.key, c.args.sort) in
    changed c.self.inside.owner _ _ _ change shown (c.place_before.ensures.members ∙ ap (λ l. change l.members) c.deref_mut.ensures.value)
