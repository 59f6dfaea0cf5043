-- Graphs whose vertices have a label each and links in order, and when two are isomorphic.
-- x and y are vertices, by their places in the graph; there and back name the vertices of one graph by those of the other.
use Rattle.std.specs.Prelude.{ℕ, ◌≡◌, ◌<◌, Bool, true, ◌==◌, List, [], map, length, slice_get, unwrap_or, option_map}
use Rattle.std.specs.List.{list_any}
use Rattle.dbtg_forms.specs.declared.vertex.Vertex.{Vertex}

-- x is in the list
abbrev pub has : List ℕ → ℕ → Bool
has xs x = list_any (λ y. x == y) xs

-- the label of a vertex
abbrev pub label_of : List Vertex → ℕ → ℕ
label_of graph x = unwrap_or (option_map (λ v. v.label) (slice_get graph x)) 0

-- the vertices to which its links lead, in order
abbrev pub links_of : List Vertex → ℕ → List ℕ
links_of graph x = unwrap_or (option_map (λ v. v.links.items) (slice_get graph x)) []

-- links lead to vertices of the graph, and from each of these one leads back
pub record IsGraph (graph : List Vertex) : Type 0 where
  pub within : (x y : ℕ) → has (links_of graph x) y ≡ true → y < length graph
  pub both_ways : (x y : ℕ) → has (links_of graph x) y ≡ true → has (links_of graph y) x ≡ true

-- vertices go to vertices, one to one, with their labels and with their links in order
pub record IsIsomorphism (a b : List Vertex) (there back : ℕ → ℕ) : Type 0 where
  pub within : (x : ℕ) → x < length a → there x < length b
  pub back_within : (y : ℕ) → y < length b → back y < length a
  pub there_and_back : (x : ℕ) → x < length a → back (there x) ≡ x
  pub back_and_there : (y : ℕ) → y < length b → there (back y) ≡ y
  pub labels : (x : ℕ) → x < length a → label_of b (there x) ≡ label_of a x
  pub links : (x : ℕ) → x < length a → links_of b (there x) ≡ map there (links_of a x)

-- some renaming of the vertices makes the one graph the other
abbrev pub Isomorphic : List Vertex → List Vertex → Type 0
Isomorphic a b = (there : ℕ → ℕ) × (back : ℕ → ℕ) × IsIsomorphism a b there back
