use Rattle.std.proofs.Common.{◌∷◌, [], ◌++◌, ◌+◌, ◌-◌, ◌∙◌, ap, arith, length, None, length-append}
use Rattle.std.proofs.lemmas.List.FromFn.{length-range_with_len}
use Rattle.std.specs.List.{range_with_len}
use Rattle.dbtg_cells.proofs.NumbersLeftOut.{entry_pushed, number_pushed}
use Rattle.dbtg_cells.proofs.extent.give_entries.Goals as goal

pub push_reserved-requires-in-loop-before : goal.push_reserved-requires-in-loop-before
push_reserved-requires-in-loop-before c =
    let entries = length c.args.numbers.now.items in
    let given = c.loop-before.before - entries in
    omega (arith, c.requires.free_room, c.loop-before-test.true, c.loop-before.auto.before, c.len-before.ensures, c.loop-before.invariant.4, ap length c.loop-before.invariant.1, length-append c.args.free.now.items (range_with_len (entries + 1) given), length-range_with_len (entries + 1) given)

pub loop-before-preserved : goal.loop-before-preserved
loop-before-preserved c =
    let I = c.loop-before.invariant in
    let n = c.loop-before.before in (
      c.push_reserved.ensures.items ∙ ap (λ l. l ++ record { last = 0; calc = None } ∷ []) I.0 ∙ entry_pushed c.args.numbers.now.items n (omega (arith, c.loop-before.auto.before, c.len-before.ensures)),
      c.push_reserved-in-loop-before.ensures.items ∙ ap (λ l. l ++ (n + 1) ∷ []) I.1 ∙ number_pushed c.args.free.now.items _ n (omega (arith, c.loop-before.auto.before, c.len-before.ensures)),
      omega (arith, c.loop-before-test.true),
      c.push_reserved.ensures.capacity ∙ I.3,
      c.push_reserved-in-loop-before.ensures.capacity ∙ I.4,
    )
