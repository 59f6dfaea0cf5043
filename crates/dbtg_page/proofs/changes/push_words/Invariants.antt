use Rattle.std.proofs.Common.{◌≡◌, ◌≤◌, ◌++◌, drop, length}
use Rattle.dbtg_page.specs.Inside.Telling.{words_left}
use Rattle.dbtg_page.proofs.changes.push_words.Given as goal

abbrev pub invariant-loop-i : goal.invariant-loop-i
invariant-loop-i l = record {
  text : l.out.items ++ words_left l.told l.both.before.now (drop l.i l.both.after.now) ≡ l.initial.out.items
      ++ words_left (record { stay = 0; at = 0 }) l.both.before.now l.both.after.now;
  at : l.told.at ≤ length l.both.before.now;
  stay : l.told.stay ≤ l.told.at;
}
