use Rattle.std.proofs.Common.{◌≡◌, None, sym, ◌∙◌, ap, ◌+◌, ◌<◌, length, arith}
use Rattle.std.proofs.lemmas.List.{length-set}
use Rattle.std.proofs.lemmas.Option.{slice_get-get_or}
use Rattle.dbtg_schema.specs.Lookups.{at}
use Rattle.dbtg_unit.specs.Inside.Seen.{seen_in_list}
use Rattle.dbtg_unit.proofs.Lists.Numbered.{rewritten, rewritten_all, rewritten_next}
use Rattle.dbtg_unit.proofs.see.see_each_list.Goals as goal

pub loop-set-preserved : goal.loop-set-preserved
loop-set-preserved c =
    let f = seen_in_list c.args.key.now c.args.owners.now c.args.suppress.now in
    let sets = c.loop-set.sets in
    let set = c.loop-set.set in
    let within : set < length sets = omega (arith, c.len-set-end.ensures, c.loop-set.invariant.as_long, c.loop-set-test.true) in
    record {
      finishes =
          ap (rewritten f 0 (set + 1)) c.see_list.ensures ∙ rewritten_next f set sets (at sets set) (slice_get-get_or sets set None within) ∙ c.loop-set.invariant.finishes;
      as_long = ap length c.see_list.ensures ∙ length-set sets set (f (set, at sets set)) ∙ c.loop-set.invariant.as_long;
    }

pub returns : goal.returns
returns c =
    let f = seen_in_list c.args.key.now c.args.owners.now c.args.suppress.now in
    let end : length c.loop-set.sets ≡ c.loop-set.set = omega (arith, c.len-set-end.ensures, c.loop-set.invariant.as_long) in
    sym (rewritten_all f 0 c.loop-set.sets) ∙ ap (λ i. rewritten f 0 i c.loop-set.sets) end ∙ c.loop-set.invariant.finishes
