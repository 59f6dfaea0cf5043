use Rattle.std.proofs.Common.{arith}
use Rattle.dbtg_interned.proofs.Trees.{read_node, rest_less}
use Rattle.dbtg_interned.proofs.Changed.{branch_changed, branch_node, few_entered}
use Rattle.dbtg_interned.proofs.arrays.+with_changed_below.Goals as goal

pub with_changed_below-requires : goal.with_changed_below-requires
with_changed_below-requires t c = (
  omega (arith, rest_less c.args.place (omega (arith, c.if-place-lt-ELEMENTS.false)), c.decreases),
  (
    c.requires.sound,
    read_node c.args.nodes.now c.requires.sound _ c.numbers-below.result c.numbers-below.ensures.numbers,
  ),
)

pub returns-in_err-changed-clause-few : goal.returns-in_err-changed-clause-few
returns-in_err-changed-clause-few t c =
    few_entered c.args.place _ _ _ (omega (arith, c.if-place-lt-ELEMENTS.false)) c.in_ok-below.ensures.few c.enter.ensures.few

pub returns-clause-few : goal.returns-clause-few
returns-clause-few t c =
    few_entered c.args.place _ _ _ (omega (arith, c.if-place-lt-ELEMENTS.false)) c.in_ok-below.ensures.few c.enter.ensures.few

pub returns-clause-node : goal.returns-clause-node
returns-clause-node t c =
    let made = c.in_ok-below.ensures in
    branch_node c.args.nodes.now c.with_changed_below.new.nodes c.enter.new.self c.args.numbers c.numbers-below.result c.in_ok-below.below c.args.place c.args.element c.in_ok-changed.field-0
    c.requires.sound made.sound made.keeps c.in_ok-changed.ensures.keeps c.requires.node (omega (arith, c.if-place-lt-ELEMENTS.false)) c.numbers-below.ensures.numbers made.node made.elements c.in_ok-changed.ensures.number

pub returns-clause-elements : goal.returns-clause-elements
returns-clause-elements t c =
    let made = c.in_ok-below.ensures in
    branch_changed c.args.nodes.now c.with_changed_below.new.nodes c.enter.new.self c.args.numbers c.numbers-below.result c.in_ok-below.below c.args.place c.args.element c.in_ok-changed.field-0
    c.requires.sound made.sound made.keeps c.in_ok-changed.ensures.keeps c.requires.node (omega (arith, c.if-place-lt-ELEMENTS.false)) c.numbers-below.ensures.numbers made.node made.elements c.in_ok-changed.ensures.number
