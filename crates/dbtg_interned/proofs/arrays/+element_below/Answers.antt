use Rattle.std.proofs.Common.{◌∙◌, ap, arith, sym, ℕ, List, []}
use Rattle.std.proofs.lemmas.Option.{get_or_from_slice_get}
use Rattle.dbtg_interned.specs.Arrays.{tree_element}
use Rattle.dbtg_interned.proofs.Trees.{branch, branch_of, read_node, rest_less}
use Rattle.dbtg_interned.proofs.arrays.+element_below.Goals as goal

pub element_below-requires : goal.element_below-requires
element_below-requires t c = (
  omega (arith, rest_less c.args.place (omega (arith, c.if-place-lt-ELEMENTS.false)), c.decreases),
  (
    c.requires.sound,
    (read_node c.args.nodes.now c.requires.sound c.args.node c.numbers-numbers.result c.numbers-numbers.ensures.numbers).below (branch_of c.args.place) (omega arith),
  ),
)

pub returns : goal.returns
returns t c =
    let same = get_or_from_slice_get c.args.nodes.now c.args.node c.numbers-numbers.result [] c.numbers-numbers.ensures.numbers in
    sym
    (ap (λ (l : List ℕ). tree_element c.args.nodes.now l c.args.place) same
    ∙ branch c.args.nodes.now c.numbers-numbers.result c.args.place (omega (arith, c.if-place-lt-ELEMENTS.false))
    ∙ sym c.element_below.ensures)
