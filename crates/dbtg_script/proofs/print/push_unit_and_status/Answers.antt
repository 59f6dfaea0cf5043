use Rattle.std.proofs.Common.{rules, ℕ, ◌+◌, ◌<◌, List, ◌∷◌, ◌++◌, sym, subst, arith}
use Rattle.dbtg_script.specs.Printing.Appending.{Appends}
use Rattle.std.proofs.lemmas.Fmt.{decimal_digit}
use Rattle.dbtg_script.specs.Printing.Texts.{four_digits}
use Rattle.dbtg_script.proofs.print.push_unit_and_status.Goals as goal

pub returns-then-unit-lt10 : goal.returns-then-unit-lt10
returns-then-unit-lt10 c =
    let low : c.args.unit < 10 = omega arith in
    let digits = four_digits c.args.status in
    let pushed : Appends (32 ∷ (48 + c.args.unit) ∷ 32 ∷ digits) c.args.out.now c.extend_from_slice.result c.extend_from_slice.new.self = search rules in
    subst (λ (ds : List ℕ). Appends (32 ∷ ds ++ 32 ∷ digits) c.args.out.now c.extend_from_slice.result c.extend_from_slice.new.self) (sym (decimal_digit c.args.unit low)) pushed
