use Rattle.std.proofs.Common.{◌≡◌, sym, ◌∙◌, ap, ◌%◌, false, nat_lt, arith, eqb}
use Rattle.std.proofs.lemmas.Bool.Decides.{nat_tests}
use Rattle.dbtg_unit.proofs.Lists.BitsBelow16.{no_bit}
use Rattle.dbtg_unit.proofs.statement.Suppress.has_set.Goals as goal

pub returns-else-set-lt-MOST_SETS : goal.returns-else-set-lt-MOST_SETS
returns-else-set-lt-MOST_SETS c =
    let none = no_bit c.args.self.now.sets c.args.set (omega arith) (omega arith) in
    let above : nat_lt c.args.set 16 ≡ false = grind (arith, nat_tests) in
    above ∙ sym (ap (λ n. eqb (n % 2) 1) none)
