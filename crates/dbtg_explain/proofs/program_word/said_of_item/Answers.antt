use Rattle.dbtg_explain.proofs.program_word.said_of_item.Goals as goal

pub returns : goal.returns
returns c =
    rw (c.as_slice.ensures.value, c.in_ok-items.ensures, c.as_slice-2.ensures.value, c.in_ok-types.ensures, c.item_form.ensures, c.in_front-rtype.ensures, c.behind-item.ensures) at c.filled.ensures
