use Rattle.std.proofs.Common.{rules, ◌≡◌, ◌≤◌, true, get_or, arith}
use Rattle.std.proofs.lemmas.Bool.Decides.{nat_tests}
use Rattle.dbtg_schema.specs.Texts.Spelling.{is_digit}
use Rattle.dbtg_script.proofs.Reading.Numbers.{power_within}
use Rattle.dbtg_script.proofs.spelling.short_number.Goals as goal

pub overflow_mul-n : goal.overflow_mul-n
overflow_mul-n c = let room = power_within c.loop-b.b-index 17 (omega arith) in omega (arith, room, c.loop-b.invariant.below)

pub overflow_add-n : goal.overflow_add-n
overflow_add-n c =
    let room = power_within c.loop-b.b-index 17 (omega arith) in
    let digit : is_digit (get_or c.args.text.now c.loop-b.b-index 0) ≡ true = search rules in
    let low : get_or c.args.text.now c.loop-b.b-index 0 ≤ 57 = grind (arith, nat_tests, digit) in
    omega (arith, room, low, c.loop-b.invariant.below)
