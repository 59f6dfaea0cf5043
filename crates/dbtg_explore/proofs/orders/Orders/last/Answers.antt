use Rattle.std.proofs.Common.{◌<◌, ◌∙◌, [], List, ℕ, ap, get_or, length, sym, arith}
use Rattle.dbtg_explore.proofs.Links.{first_of, is_last, length_of}
use Rattle.dbtg_explore.proofs.orders.Orders.last.Goals as goal

pub returns-then-place-eq0-clause-none : goal.returns-then-place-eq0-clause-none
returns-then-place-eq0-clause-none c = λ _.
    ap (λ (i : ℕ). get_or c.args.self.now i []) c.if-place-eq0.true ∙ sym (ap (λ (os : List (List ℕ)). get_or os 0 []) c.self.view_is) ∙ first_of c.self.inside.links.items

pub index-requires : goal.index-requires
index-requires c =
    let long = ap (λ (os : List (List ℕ)). length os) c.self.view_is in
    omega (arith, long, length_of c.self.inside.links.items, c.requires, c.if-place-eq0.false)

pub returns-clause-last : goal.returns-clause-last
returns-clause-last c =
    let ls = c.self.inside.links.items in
    let long = ap (λ (os : List (List ℕ)). length os) c.self.view_is in
    let some : 0 < c.args.place = omega (arith, c.if-place-eq0.false) in
    is_last ls c.self.invariant c.args.place some (omega (arith, long, c.requires)) c.index.result.now c.index.ensures _ c.self.view_is
