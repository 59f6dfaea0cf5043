use Rattle.std.proofs.Common.{◌≡◌, ℕ, ◌<◌, ◌≤◌, ◌++◌, [], length, get_or, map, take, drop}
use Rattle.dbtg_unit.specs.Database.Laws.Replay.{entries_of}
use Rattle.dbtg_script.specs.Printing.Echo.{lines_beside}
use Rattle.dbtg_script.proofs.echo.lines_beside.Given as goal

abbrev pub invariant-loop-entry : goal.invariant-loop-entry
invariant-loop-entry l = record {
  counts : (u : ℕ) → u < 256 → get_or l.made u 0 ≡ length (entries_of u (take l.entry-index l.history));
  long : length l.made ≡ 256;
  few : (u : ℕ) → u < 256 → get_or l.made u 0 ≤ l.entry-index;
  beside : map (λ s. s.now) l.lines.items ++ lines_beside (map (map (λ s. s.now)) l.scripts) (take l.entry-index l.history) (drop l.entry-index l.history)
      ≡ lines_beside (map (map (λ s. s.now)) l.scripts) [] l.history;
}
