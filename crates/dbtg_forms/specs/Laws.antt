-- What numbers of forms say.
use Rattle.std.specs.Prelude.{ℕ, ◌≡◌, ◌↔◌, List}
use Rattle.dbtg_forms.specs.declared.vertex.Vertex.{Vertex}
use Rattle.dbtg_forms.specs.Graphs.{IsGraph, Isomorphic}
use Rattle.dbtg_forms.specs.Forms.{AreForms, HasNumber, KeepsForms, KeptForms}

-- two graphs have the same number just if they are isomorphic
abbrev pub NumbersTellApart : KeptForms → Type 0
NumbersTellApart kept =
    (a b : List Vertex) (m n : ℕ) → AreForms kept → IsGraph a → IsGraph b → HasNumber kept a m → HasNumber kept b n
    → ((m ≡ n) ↔ Isomorphic a b)

-- a graph keeps its number when others are entered
abbrev pub NumbersStay : KeptForms → KeptForms → Type 0
NumbersStay old new = (graph : List Vertex) (n : ℕ) → KeepsForms old new → HasNumber old graph n → HasNumber new graph n
