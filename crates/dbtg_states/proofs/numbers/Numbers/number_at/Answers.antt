use Rattle.std.proofs.Common.{◌≡◌, None, arith, slice_get, sym, subst}
use Rattle.std.proofs.lemmas.Option.{slice_get_past}
use Rattle.dbtg_interned.specs.Arrays.{IsArray, elements}
use Rattle.dbtg_interned.proofs.Public.{elements_length}
use Rattle.dbtg_states.specs.Numbers.{Numbers}
use Rattle.dbtg_states.proofs.numbers.Numbers.number_at.Goals as goal

pub returns-else-place-len : goal.returns-else-place-len
returns-else-place-len c =
    let arrays = c.self.inside.arrays in
    let is = subst (λ (o : Numbers). IsArray o.arrays c.args.array) (sym c.self.view_is) c.requires in
    let long = elements_length arrays c.args.array c.each_node_stands_once.ensures is in
    let past = c.if-place-len.false in
    let size_is = c.len.ensures in
    sym (subst (λ (o : Numbers). slice_get (elements o.arrays c.args.array) c.args.place ≡ None) c.self.view_is (slice_get_past (elements arrays c.args.array) c.args.place (omega (arith, long, past, size_is))))
