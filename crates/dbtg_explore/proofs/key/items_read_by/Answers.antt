use Rattle.std.proofs.Common.{◌∙◌, [], ap, sym, refl}
use Rattle.std.specs.Prelude.{unwrap_or}
use Rattle.dbtg_explore.proofs.Placed.{none_got, one_got}
use Rattle.dbtg_explore.proofs.key.items_read_by.Goals as goal

pub returns-in-Some : goal.returns-in-Some
returns-in-Some c =
    let reads = c.args.reads.now in
    let found = one_got reads reads c.args.unit c.in-Some.read.now c.requires refl c.in-Some.ensures.lookup.0 c.in-Some.ensures.lookup.1 in
    c.as_slice.ensures ∙ ap (λ o. unwrap_or o []) (sym found)

pub returns-in-None : goal.returns-in-None
returns-in-None c =
    let reads = c.args.reads.now in
    ap (λ o. unwrap_or o []) (sym (none_got reads reads c.args.unit c.requires refl c.in-None.ensures.lookup.0))
