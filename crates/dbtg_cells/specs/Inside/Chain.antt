-- The nodes of a ring in order, and the links that join them.
use Rattle.std.specs.Prelude.{◌≡◌, ◌≢◌, ℕ, zero, suc, Bool, true, false, List, [], ◌∷◌, length, Option, Some, None, slice_index_or, ⊤, ◌⊎◌, if◌then◌else◌}
use Rattle.std.specs.Option.{option_map, option_map_or}
use Rattle.dbtg_cells.specs.declared.key.DbKey.{DbKey}
use Rattle.dbtg_cells.specs.declared.links.Direction.{Direction}
use Rattle.dbtg_cells.specs.declared.links.Direction.TheVariants.{Next, Prior}
use Rattle.dbtg_cells.specs.declared.links.Node.{Node}
use Rattle.dbtg_cells.specs.Members.{Entry}

-- the places of a ring in memory, each with a node or none
abbrev pub Slots : Type 0
Slots = List (Option Node)

-- a node that is linked: where it lies, and what it holds
pub record Link : Type 0 where
  pub at : ℕ
  pub member : Entry

-- the node at a place
abbrev pub slot : Slots → ℕ → Option Node
slot s i = slice_index_or s i None

-- the key of the node at a place
abbrev pub key_at : Slots → ℕ → Option DbKey
key_at s i = option_map (λ n. n.member.0) (slot s i)

-- the node at a place is linked, not only reserved
abbrev pub linked_at : Slots → ℕ → Bool
linked_at s i = option_map_or (λ n. n.linked) (slot s i) false

-- a linked node between two others
abbrev pub node_of : Link → Option ℕ → Option ℕ → Node
node_of e p q = record { member = e.member; linked = true; next = q; prior = p }

-- the place of the first of these links, or what follows them
abbrev pub head_at : List Link → Option ℕ → Option ℕ
head_at [] q = q
head_at (e ∷ es) q = Some e.at

-- the place of the last of these links, or what comes before them
abbrev pub last_at : Option ℕ → List Link → Option ℕ
last_at p [] = p
last_at p (e ∷ es) = last_at (Some e.at) es

-- the nodes lie in the slots and are linked both ways, from p before them to q after them
abbrev pub Seg : Slots → Option ℕ → List Link → Option ℕ → Type 0
Seg s p [] q = ⊤
Seg s p (e ∷ es) q = (slot s e.at ≡ Some (node_of e p (head_at es q))) × Seg s (Some e.at) es q

-- none of them lies at i
abbrev pub Avoids : ℕ → List Link → Type 0
Avoids i [] = ⊤
Avoids i (e ∷ es) = (e.at ≢ i) × Avoids i es

-- no two lie at one place
abbrev pub Apart : List Link → Type 0
Apart [] = ⊤
Apart (e ∷ es) = Avoids e.at es × Apart es

-- one of them lies at i
abbrev pub LiesAt : List Link → ℕ → Type 0
LiesAt [] i = ⊥
LiesAt (e ∷ es) i = (e.at ≡ i) ⊎ LiesAt es i

-- the place of the node beside this one
abbrev pub neighbour : Direction → Node → Option ℕ
neighbour Next n = n.next
neighbour Prior n = n.prior

-- the first n members from `at` on in this direction
abbrev pub read : Direction → ℕ → Slots → Option ℕ → List Entry
read direction zero s at = []
read direction (suc n) s None = []
read direction (suc n) s (Some i) = option_map_or (λ node. node.member ∷ read direction n s (neighbour direction node)) (slot s i) []

-- the members that are read by `next`
abbrev pub follow : ℕ → Slots → Option ℕ → List Entry
follow = read Next

-- the same by `prior`
abbrev pub follow_back : ℕ → Slots → Option ℕ → List Entry
follow_back = read Prior

-- the keys of the nodes that are not linked
abbrev pub unlinked_keys : Slots → List DbKey
unlinked_keys [] = []
unlinked_keys (None ∷ s) = unlinked_keys s
unlinked_keys (Some n ∷ s) = if n.linked then unlinked_keys s else n.member.0 ∷ unlinked_keys s

-- an end of the list, whether or not a node now lies at it
abbrev pub end_or : Option ℕ → Option ℕ → Option ℕ → Option ℕ
end_or None new old = new
end_or (Some i) new old = old

-- how the parts of a ring hang together
pub record IsRing (find : DbKey → Option ℕ) (s : Slots) (first last : Option ℕ) (len : ℕ) : Type 0 where
  -- the linked nodes, from the first to the last, are linked both ways
  pub chain : List Link
  pub links : Seg s None chain None
  -- the ring has its ends and their number
  pub starts : first ≡ head_at chain None
  pub ends : last ≡ last_at None chain
  pub counted : len ≡ length chain
  -- no two lie at one place, and no other node is marked as linked
  pub apart : Apart chain
  pub marked : (i : ℕ) → linked_at s i ≡ true → LiesAt chain i
  -- the index leads from each key just to its node
  pub found : (k : DbKey) (i : ℕ) → find k ≡ Some i → key_at s i ≡ Some k
  pub keyed : (k : DbKey) (i : ℕ) → key_at s i ≡ Some k → find k ≡ Some i
