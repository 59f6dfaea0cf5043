use Rattle.std.proofs.Common.{◌+◌, ◌++◌, ◌∙◌, ap, sym, append_assoc, arith, take}
use Rattle.dbtg_states.specs.Named.{list_facts}
use Rattle.dbtg_states.proofs.Naming.{next_set, of_set}
use Rattle.dbtg_states.proofs.facts.push_lists.Goals as goal

pub loop-of_set-preserved : goal.loop-of_set-preserved
loop-of_set-preserved c =
    let stored = c.args.stored.now in
    let i = c.loop-of_set.of_set-index in
    let lists = c.of_set-item.result in
    let old = c.args.facts.now in
    let before = list_facts stored 0 (take i c.args.lists.now) in
    record {
      set = ap (λ n. n + 1) c.loop-of_set.invariant.set;
      facts = c.in_ok-push_each.ensures
          ∙ (λ k. c.loop-of_set.invariant.facts k ++ of_set stored (c.loop-of_set.invariant.set k) (c.as_slice.ensures k))
          ∙ append_assoc old before (of_set stored i lists)
          ∙ ap (λ l. old ++ l) (sym (next_set stored c.args.lists.now i lists (omega (arith, c.loop-of_set-test.true)) c.of_set-item.is));
    }
