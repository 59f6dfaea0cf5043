-- What the code writes into nodes.
use Rattle.std.specs.Prelude.{ℕ, true, false, Option, Some, None, slice_set}
use Rattle.std.specs.Option.{option_map}
use Rattle.dbtg_cells.specs.declared.links.Node.{Node}
use Rattle.dbtg_cells.specs.Members.{Entry}
use Rattle.dbtg_cells.specs.Inside.Chain.{Slots, slot}

-- the node at i, changed
abbrev pub put : ℕ → (Node → Node) → Slots → Slots
put i f s = slice_set s i (option_map f (slot s i))

-- the same, if there may be no node
abbrev pub put_if : Option ℕ → (Node → Node) → Slots → Slots
put_if None f s = s
put_if (Some i) f s = put i f s

-- a node with another next one
abbrev pub with_next : Option ℕ → Node → Node
with_next q n = record { member = n.member; linked = n.linked; next = q; prior = n.prior }

-- a node with another prior one
abbrev pub with_prior : Option ℕ → Node → Node
with_prior p n = record { member = n.member; linked = n.linked; next = n.next; prior = p }

-- a node that is linked, with its member
abbrev pub as_linked : Entry → Option ℕ → Option ℕ → Node → Node
as_linked m p q n = record { member = m; linked = true; next = q; prior = p }

-- a node that is only reserved
abbrev pub as_unlinked : Node → Node
as_unlinked n = record { member = n.member; linked = false; next = n.next; prior = n.prior }

-- x between p and q
abbrev pub linked_in : ℕ → Entry → Option ℕ → Option ℕ → Slots → Slots
linked_in x m p q s = put_if q (with_prior (Some x)) (put_if p (with_next (Some x)) (put x (as_linked m p q) s))

-- x taken out from between p and q
abbrev pub linked_out : ℕ → Option ℕ → Option ℕ → Slots → Slots
linked_out x p q s = put x as_unlinked (put_if q (with_prior p) (put_if p (with_next q) s))
