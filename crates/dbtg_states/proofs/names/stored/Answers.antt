use Rattle.std.specs.Prelude.{option_to_list}
use Rattle.std.specs.List.{flat_map}
use Rattle.dbtg_unit.specs.Database.Laws.Replay.{entries_of}
use Rattle.dbtg_states.specs.Named.{stored_by}
use Rattle.dbtg_states.proofs.Ranges.{flat_more_range}
use Rattle.dbtg_states.proofs.names.stored.Goals as goal

pub loop-before-preserved : goal.loop-before-preserved
loop-before-preserved c =
    flat_more_range (λ u. flat_map (λ e. stored_by e.statement (option_to_list e.answer.key)) (entries_of u c.args.history.now)) c.loop-before.before c.loop-before.keys.items c.push_stored.new.keys.items c.loop-before.invariant c.in_ok-push_stored.ensures
