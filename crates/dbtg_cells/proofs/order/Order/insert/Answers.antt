use Rattle.std.proofs.Common.{◌≡◌, ◌<◌, ◌∙◌, false, length, subst, sym, ap, arith, nat_lt}
use Rattle.std.proofs.lemmas.Bool.{lt-ltb}
use Rattle.dbtg_cells.specs.Inside.Ordered.{are_below, are_distinct, Fits}
use Rattle.dbtg_cells.proofs.Rising.{is_in}
use Rattle.dbtg_cells.proofs.PlacesOfNodes.{has_room, fitted, same_order, distinct, distinct_insert, all_insert, relabelled}
use Rattle.dbtg_cells.proofs.order.Order.insert.Goals as goal

pub insert_node-requires-clause-room : goal.insert_node-requires-clause-room
insert_node-requires-clause-room c =
    let within = subst (λ v. c.args.node < v.room) (sym c.self.view_is) c.requires.room in
    let other = subst (λ v. is_in c.args.node v.nodes ≡ false) (sym c.self.view_is) c.requires.new in
    has_room _ _ _ c.args.node c.self.invariant within other

pub insert_node-requires-clause-number : goal.insert_node-requires-clause-number
insert_node-requires-clause-number c = omega (arith, c.requires.room, ap (λ v. v.room) c.self.view_is, c.self.invariant.numbers)

pub insert_node-requires-in-None-clause-number : goal.insert_node-requires-in-None-clause-number
insert_node-requires-in-None-clause-number c = omega (arith, c.requires.room, ap (λ v. v.room) c.self.view_is, c.self.invariant.numbers)

pub invariant_of-self : goal.invariant_of-self
invariant_of-self c =
    let within = subst (λ v. c.args.node < v.room) (sym c.self.view_is) c.requires.room in
    let other = subst (λ v. is_in c.args.node v.nodes ≡ false) (sym c.self.view_is) c.requires.new in
    let nodes = c.self.inside.nodes.items in
    let labels = c.self.inside.labels.items in
    let fits = subst (λ ls. Fits nodes ls c.args.place c.in-Some.label) c.as_slice-2.ensures.value (subst (λ ns. Fits ns c.as_slice-2.result.now c.args.place c.in-Some.label) c.as_slice.ensures.value c.in-Some.ensures) in
    same_order _ _ _ _ _ _ c.insert_node.ensures.items c.set_label.ensures (omega (arith, c.insert_node.ensures.capacity)) (fitted nodes labels _ c.args.place c.args.node c.in-Some.label c.self.invariant within other fits)

pub insert_node-requires-in-None-clause-room : goal.insert_node-requires-in-None-clause-room
insert_node-requires-in-None-clause-room c =
    let within = subst (λ v. c.args.node < v.room) (sym c.self.view_is) c.requires.room in
    let other = subst (λ v. is_in c.args.node v.nodes ≡ false) (sym c.self.view_is) c.requires.new in
    has_room _ _ _ c.args.node c.self.invariant within other

pub relabel-requires-clause-distinct : goal.relabel-requires-clause-distinct
relabel-requires-clause-distinct c =
    let other = subst (λ v. is_in c.args.node v.nodes ≡ false) (sym c.self.view_is) c.requires.new in
    ap are_distinct (c.as_slice-in-None.ensures.value ∙ c.insert_node-in-None.ensures.items) ∙ distinct_insert c.self.inside.nodes.items c.args.place c.args.node (distinct c.self.inside.labels.items c.self.inside.nodes.items c.self.invariant.rising) other

pub relabel-requires-clause-below : goal.relabel-requires-clause-below
relabel-requires-clause-below c =
    let within = subst (λ v. c.args.node < v.room) (sym c.self.view_is) c.requires.room in
    let len = length c.self.inside.labels.items in
    ap (are_below len) (c.as_slice-in-None.ensures.value ∙ c.insert_node-in-None.ensures.items) ∙ all_insert (λ n. nat_lt n len) c.self.inside.nodes.items c.args.place c.args.node c.self.invariant.below (lt-ltb _ _ within)

pub invariant_of-self-in-None : goal.invariant_of-self-in-None
invariant_of-self-in-None c =
    let within = subst (λ v. c.args.node < v.room) (sym c.self.view_is) c.requires.room in
    let len = length c.self.inside.labels.items in
    let below = ap (are_below len) (c.as_slice-in-None.ensures.value ∙ c.insert_node-in-None.ensures.items) ∙ all_insert (λ n. nat_lt n len) c.self.inside.nodes.items c.args.place c.args.node c.self.invariant.below (lt-ltb _ _ within) in
    relabelled _ _ c.self.inside.labels.items _ _ _ c.as_slice-in-None.ensures.value c.relabel.ensures.rising c.relabel.ensures.len below c.self.invariant.room c.self.invariant.numbers c.insert_node-in-None.ensures.capacity
