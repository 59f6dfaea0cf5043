use Rattle.std.proofs.Common.{◌≡◌, sym, ap, ◌∙◌, ◌^◌, ◌≤◌, ◌<◌, true, nat_lt, nat_le, length, arith}
use Rattle.std.proofs.lemmas.Bool.Decides.{nat_tests}
use Rattle.std.proofs.Math.Pow.{pow_mono}
use Rattle.dbtg_unit.proofs.fits.suppress_fits.Goals as goal

pub returns-then-count-ge-MOST_SETS : goal.returns-then-count-ge-MOST_SETS
returns-then-count-ge-MOST_SETS c =
    let counted : length c.sets-count.result.now ≡ length c.args.schema.now.sets = ap length c.sets-count.ensures.sets in
    let many : 16 ≤ length c.args.schema.now.sets = omega arith in
    let power : 65536 ≤ 2 ^ length c.args.schema.now.sets = pow_mono {i = 16} {j = length c.args.schema.now.sets} many in
    let bits : c.args.suppress.now.sets < 65536 = omega arith in
    let below : nat_lt c.args.suppress.now.sets (2 ^ length c.args.schema.now.sets) ≡ true = grind (arith, nat_tests) in
    let above : nat_le 16 (length c.sets-count.result.now) ≡ true = grind (arith, nat_tests) in
    above ∙ sym below
