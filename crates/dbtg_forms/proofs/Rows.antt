-- The worked rows: what is reached in a ring and in two pairs, where it stands, and which graphs are isomorphic. Worked out by hand.
use Rattle.std.proofs.Common.{◌≡◌, refl, sym, ◌∙◌, ap, ℕ, zero, suc, ◌-◌, ◌<◌, arith, List, [], ◌∷◌, length}
use Rattle.std.specs.Prelude.{map, slice_index_or}
use Rattle.std.specs.Global.{Vec}
use Rattle.dbtg_forms.specs.declared.vertex.Vertex.{Vertex}
use Rattle.dbtg_forms.specs.Graphs.{IsIsomorphism, Isomorphic, label_of, links_of}
use Rattle.dbtg_forms.specs.Forms.{place, reached, reached_by}

-- four vertices in a ring, and the same four as two pairs: each vertex has two links in both, and only the rest of the component tells them apart
abbrev ring : ℕ → List ℕ
ring x = slice_index_or ((1 ∷ 3 ∷ []) ∷ (2 ∷ 0 ∷ []) ∷ (3 ∷ 1 ∷ []) ∷ (0 ∷ 2 ∷ []) ∷ []) x []

abbrev pairs : ℕ → List ℕ
pairs x = slice_index_or ((1 ∷ 1 ∷ []) ∷ (0 ∷ 0 ∷ []) ∷ (3 ∷ 3 ∷ []) ∷ (2 ∷ 2 ∷ []) ∷ []) x []

ring_reached : reached_by ring 0 4 ≡ 0 ∷ 1 ∷ 3 ∷ 2 ∷ []
ring_reached = refl

-- from another vertex it is the same ring, turned
ring_turned : reached_by ring 2 4 ≡ 2 ∷ 3 ∷ 1 ∷ 0 ∷ []
ring_turned = refl

pairs_reached : reached_by pairs 0 4 ≡ 0 ∷ 1 ∷ []
pairs_reached = refl

other_pair : reached_by pairs 3 4 ≡ 3 ∷ 2 ∷ []
other_pair = refl

-- what is there already is not appended again
reached_once : reached (5 ∷ 7 ∷ []) (7 ∷ 6 ∷ 6 ∷ 5 ∷ []) ≡ 5 ∷ 7 ∷ 6 ∷ []
reached_once = refl

places : map (place (0 ∷ 1 ∷ 3 ∷ 2 ∷ [])) (3 ∷ 0 ∷ 9 ∷ []) ≡ 2 ∷ 0 ∷ 4 ∷ []
places = refl

module _ (up down : Vec ℕ) (e : up.items ≡ 1 ∷ []) (f : down.items ≡ 0 ∷ []) where
  abbrev first : List Vertex
  first = record { label = 5; links = up } ∷ record { label = 7; links = down } ∷ []

  -- the two vertices exchanged
  abbrev exchanged : List Vertex
  exchanged = record { label = 7; links = up } ∷ record { label = 5; links = down } ∷ []

  abbrev other : ℕ → ℕ
  other x = 1 - x

  labels_go : (x : ℕ) → x < 2 → label_of exchanged (other x) ≡ label_of first x
  labels_go zero low = refl
  labels_go (suc zero) low = refl
  labels_go (suc (suc x)) low = absurd (omega (arith, low))

  links_go : (x : ℕ) → x < 2 → links_of exchanged (other x) ≡ map other (links_of first x)
  links_go zero low = f ∙ sym (ap (map other) e)
  links_go (suc zero) low = e ∙ sym (ap (map other) f)
  links_go (suc (suc x)) low = absurd (omega (arith, low))

  exchanged_is_isomorphic : Isomorphic first exchanged
  exchanged_is_isomorphic = (
    other,
    other,
    record {
      within = λ x low. omega arith;
      back_within = λ y low. omega arith;
      there_and_back = λ x low. omega (arith, low);
      back_and_there = λ y low. omega (arith, low);
      labels = labels_go;
      links = links_go;
    },
  )

  -- a vertex goes to one with its label
  other_label : Isomorphic (record { label = 5; links = up } ∷ []) (record { label = 6; links = up } ∷ []) → ⊥
  other_label i =
      let here : i.0 0 ≡ 0 = omega (arith, i.2.within 0 (omega arith)) in
      absurd (omega (arith, sym (ap (label_of (record { label = 6; links = up } ∷ [])) here) ∙ i.2.labels 0 (omega arith)))
