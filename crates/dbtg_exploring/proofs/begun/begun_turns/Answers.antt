use Rattle.std.proofs.Common.{rules, length, Some, ◌≡◌, List, ℕ, []}
use Rattle.dbtg_going.specs.Turns.{after_turns, turns_before}
use Rattle.dbtg_exploring.proofs.LeftOut.{begins_after, units}
use Rattle.dbtg_exploring.proofs.begun.begun_turns.Goals as goal

pub returns : goal.returns
returns c =
    let schema = c.args.setting.now.schema.now in
    let asked = c.args.setting.now.asked in
    let programs = c.args.setting.now.programs.now in
    let history = c.args.before.now.run.history in
    let turns = turns_before asked.around (length programs) (Some c.args.setting.now.told.now) in
    let after : (begun : List ℕ) → begun ≡ units history → after_turns schema asked.capacity programs [] begun ≡ after_turns schema asked.capacity programs [] turns
    = λ begun are. begins_after schema asked.capacity programs turns history begun c.requires.run.history_is are in
    search (rules, after, c.units_in_turn.ensures, c.as_slice.ensures)
