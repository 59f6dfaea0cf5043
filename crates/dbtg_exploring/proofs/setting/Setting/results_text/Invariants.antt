use Rattle.std.proofs.Common.{◌≡◌, take}
use Rattle.dbtg_states.specs.Brief.{none_before}
use Rattle.dbtg_exploring.specs.Texts.{AreResultTexts}
use Rattle.dbtg_exploring.proofs.setting.Setting.results_text.Given as goal

abbrev pub invariant-loop-order : goal.invariant-loop-order
invariant-loop-order l = record {
  number : l.number ≡ l.order-index;
  texts : AreResultTexts l.self.schema.now l.self.programs.now l.self.told.now l.self.asked (none_before l.self.asked.brief) l.before 1 (take l.order-index l.results) l.out.items;
}
