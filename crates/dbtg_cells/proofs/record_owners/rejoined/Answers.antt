use Rattle.std.proofs.Common.{◌∙◌, not, sym, ap, slice_set, is_some}
use Rattle.dbtg_cells.specs.Inside.RecordOwners.{alone, owners_in}
use Rattle.dbtg_cells.proofs.OwnersAlone.{first_there, same_set}
use Rattle.dbtg_cells.proofs.record_owners.rejoined.Goals as goal
use Rattle.dbtg_cells.proofs.record_owners.rejoined.Goals.{then-own-set-via-then-own-set, then-own-set-via-else-own-set+then-is_none}

pub returns-then-own-set : goal.returns-then-own-set
returns-then-own-set c =
    let sets = c.in-Alone.sets in
    let own = c.in-Alone.own in
    let owner = c.in-Alone.owner in
    let set = c.args.set in
    let new = c.args.new in
    ap (alone sets set) c.owner-owner.ensures
    ∙ elim c.then-own-set.branch [
      | then-own-set-via-then-own-set w ↦ sym (same_set sets set owner new) ∙ ap (λ k. slice_set (alone sets k owner) set new) (sym w.if-own-set.true)
      | then-own-set-via-else-own-set+then-is_none w ↦ first_there sets own set owner new (ap is_some (sym w.get.ensures) ∙ w.is_none.ensures ∙ ap not w.if-is_none.true)
    ]
    ∙ ap (λ joined. slice_set (owners_in joined) set new) (sym c.in-Alone.is)
