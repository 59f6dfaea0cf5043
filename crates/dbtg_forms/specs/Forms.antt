-- The form of a graph: its components, each spelled from its roots, whatever its vertices are called.
-- links gives the vertices to which a vertex leads, order has the vertices that were reached so far.
use Rattle.std.specs.Prelude.{ℕ, zero, suc, ◌≡◌, Bool, List, [], ◌∷◌, ◌++◌, Some, filter, flat_map, if◌then◌else◌, length, map, nat_le, option_map, slice_get, unwrap_or, ◌==◌}
use Rattle.std.specs.List.{list_all, position_or_len, range_with_len}
use Rattle.std.specs.List.Sorted.{IsNonDecreasing, IsPermutation}
use Rattle.dbtg_interned.specs.Kept.{IsContents, Keeps}
use Rattle.dbtg_forms.specs.declared.vertex.Vertex.{Vertex}
use Rattle.dbtg_forms.specs.Graphs.{has, label_of, links_of}

-- SPELLINGS

-- behind what was reached, what is new among these
abbrev pub reached : List ℕ → List ℕ → List ℕ
reached order [] = order
reached order (x ∷ xs) = reached (if has order x then order else order ++ x ∷ []) xs

-- behind what was reached, what is new among the links of the vertex at a place of it
abbrev pub grown : (ℕ → List ℕ) → List ℕ → ℕ → List ℕ
grown links order at = reached order (unwrap_or (option_map links (slice_get order at)) [])

-- what is reached from a vertex by the links of the first n that are reached
abbrev pub reached_by : (ℕ → List ℕ) → ℕ → ℕ → List ℕ
reached_by links x zero = x ∷ []
reached_by links x (suc n) = grown links (reached_by links x n) n

-- all that hangs together with a vertex, in the order in which it is reached
abbrev pub component : List Vertex → ℕ → List ℕ
component graph x = reached_by (links_of graph) x (length graph)

-- where a vertex stands in an order
abbrev pub place : List ℕ → ℕ → ℕ
place order x = position_or_len (λ y. x == y) order

-- a vertex, with the places of those to which its links lead
abbrev pub vertex_numbers : List Vertex → List ℕ → ℕ → List ℕ
vertex_numbers graph order x = label_of graph x ∷ length (links_of graph x) ∷ map (place order) (links_of graph x)

-- the component of a vertex, seen from it
abbrev pub spelling : List Vertex → ℕ → List ℕ
spelling graph x = flat_map (vertex_numbers graph (component graph x)) (component graph x)

-- no vertex beside it has more links. Each component has such a one, and mostly few, so that few spellings tell it
abbrev pub is_root : List Vertex → ℕ → Bool
is_root graph x = list_all (λ y. nat_le (length (links_of graph y)) (length (links_of graph x))) (links_of graph x)

abbrev pub roots : List Vertex → List ℕ
roots graph = filter (is_root graph) (range_with_len 0 (length graph))

-- FORMS THAT ARE KEPT

-- spellings, each once, and forms, each once: a form has the numbers of the spellings of all roots
pub record KeptForms : Type 0 where
  pub spellings : List (List ℕ)
  pub forms : List (List ℕ)

pub record AreForms (kept : KeptForms) : Type 0 where
  pub spellings : IsContents kept.spellings
  pub forms : IsContents kept.forms

-- what was kept stays
pub record KeepsForms (old new : KeptForms) : Type 0 where
  pub spellings : Keeps old.spellings new.spellings
  pub forms : Keeps old.forms new.forms

-- these are the numbers of the spellings of all roots, in rising order
pub record IsForm (spellings : List (List ℕ)) (graph : List Vertex) (numbers : List ℕ) : Type 0 where
  pub rising : IsNonDecreasing numbers
  pub spelled : IsPermutation (map Some (map (spelling graph) (roots graph))) (map (slice_get spellings) numbers)

-- the graph has the form with this number
pub record HasNumber (kept : KeptForms) (graph : List Vertex) (number : ℕ) : Type 0 where
  pub numbers : List ℕ
  pub form : slice_get kept.forms number ≡ Some numbers
  pub is_form : IsForm kept.spellings graph numbers
