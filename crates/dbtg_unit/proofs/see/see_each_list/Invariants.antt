use Rattle.std.proofs.Common.{◌≡◌, length, map}
use Rattle.std.specs.List.{enumerate_from}
use Rattle.dbtg_unit.specs.Inside.Seen.{seen_in_list}
use Rattle.dbtg_unit.proofs.Lists.Numbered.{rewritten}
use Rattle.dbtg_unit.proofs.see.see_each_list.Given as goal

abbrev pub invariant-loop-set : goal.invariant-loop-set
invariant-loop-set l =
    record {
      finishes : rewritten (seen_in_list l.key l.owners l.suppress) 0 l.set l.sets ≡ map (seen_in_list l.key l.owners l.suppress) (enumerate_from 0 l.initial.sets);
      as_long : length l.sets ≡ length l.initial.sets;
    }
