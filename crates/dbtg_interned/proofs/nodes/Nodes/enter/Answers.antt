use Rattle.std.proofs.Common.{◌≡◌, refl, sym, subst, ℕ, List, Some, slice_get, map}
use Rattle.dbtg_interned.specs.Inside.Changed.{IsNode}
use Rattle.dbtg_interned.proofs.Entering.{at_number, more_are_nodes, stored_at}
use Rattle.dbtg_interned.proofs.nodes.Nodes.enter.Goals as goal

pub invariant_of-self-2 : goal.invariant_of-self-2
invariant_of-self-2 c =
    more_are_nodes (λ n. n.numbers) c.self.inside.nodes.keys (record { numbers = c.args.numbers }) c.insert_full.new.self.keys c.in_ok-at.ensures.keys c.self.invariant (subst (λ (l : List (List ℕ)). IsNode l c.args.numbers) (sym c.self.view_is) c.requires) c.in_ok-at.ensures.unique

pub returns-clause-sound : goal.returns-clause-sound
returns-clause-sound c =
    more_are_nodes (λ n. n.numbers) c.self.inside.nodes.keys (record { numbers = c.args.numbers }) c.insert_full.new.self.keys c.in_ok-at.ensures.keys c.self.invariant (subst (λ (l : List (List ℕ)). IsNode l c.args.numbers) (sym c.self.view_is) c.requires) c.in_ok-at.ensures.unique

pub returns-clause-number : goal.returns-clause-number
returns-clause-number c =
    at_number c.number.result c.in_ok-at.at (λ n. slice_get (map (λ m. m.numbers) c.insert_full.new.self.keys) n ≡ Some c.args.numbers) c.number.ensures
    (stored_at (λ n. n.numbers) c.insert_full.new.self.keys (record { numbers = c.args.numbers }) c.in_ok-at.at c.args.numbers refl c.in_ok-at.ensures.stored)
