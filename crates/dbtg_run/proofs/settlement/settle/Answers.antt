use Rattle.std.proofs.Common.{List, length, replicate, refl, sym, ap, ◌∙◌, subst}
use Rattle.dbtg_unit.specs.declared.unit.Entry.{Entry}
use Rattle.dbtg_step.specs.Core.Audit.{IsAudited}
use Rattle.dbtg_run.specs.UnitView.{UnitView}
use Rattle.dbtg_run.specs.Inside.Settling.{all_entries, blank, by_ticket}
use Rattle.dbtg_run.proofs.Together.Closed.{audited, journal_is, not_refused, unit_is}
use Rattle.dbtg_run.proofs.Together.Merged.{merged_is_history, moved_is_history}
use Rattle.dbtg_run.proofs.settlement.settle.Goals as goal

pub unreachable-requires : goal.unreachable-requires
unreachable-requires c =
    let db = c.args.db in let all = c.learn_all-history.ensures.all in let us = c.args.units.items in
    let a = subst (λ (us : List UnitView). IsAudited db.schema db.about.capacity db.about.units (by_ticket (all_entries us)) c.in-Ok.found) c.as_slice-2.ensures.value c.in-Ok.ensures.audited in
    not_refused db.about db.schema db.same us all (by_ticket (all_entries us)) (merged_is_history db.about us all) c.in-Ok.found a c.in_default.is

pub returns-in-Some-clause-ok : goal.returns-in-Some-clause-ok
returns-in-Some-clause-ok c =
    let db = c.args.db in let e = c.in-Ok.ensures in let learnt = c.learn_all-history.ensures in let all = learnt.all in let us = c.args.units.items in
    let merged = merged_is_history db.about us all in
    let slots = e.slots ∙ ap (λ (us : List UnitView). replicate (length (all_entries us)) blank) c.as_slice-2.ensures.value in
    let is = c.of.ensures ∙ (learnt.placed ∙ moved_is_history db.about us all c.in-Ok.slots.items slots) in
    let a = subst (λ (us : List UnitView). IsAudited db.schema db.about.capacity db.about.units (by_ticket (all_entries us)) c.in-Ok.found) c.as_slice-2.ensures.value e.audited in
    let found = subst (λ (h : List Entry). IsAudited db.schema db.about.capacity db.about.units h c.in-Ok.found) (merged ∙ sym is) a in
    let leads = audited db.about db.schema db.same us all c.of.result is c.in-Ok.found c.in-Some.image c.in-Some.units found c.in-Some.is in record {
      schema = refl;
      leads = leads;
      journal = journal_is db.about db.schema db.same us all c.of.result is;
      unit = unit_is db.about db.schema db.same us all c.of.result is c.in-Some.image c.in-Some.units leads;
      once = all.once;
      count = all.count;
    }
