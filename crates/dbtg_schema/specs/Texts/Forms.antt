-- Grammars as values, over words of any sort. A form says which lists of words it has, and gives each word its role.
use Rattle.std.specs.Prelude.{◌≡◌, Bool, true, false, ◌&&◌, ◌||◌, List, [], ◌∷◌, ◌++◌, map, Option, Some, None, if◌then◌else◌, ◌⊎◌}
use Rattle.std.specs.List.{flat_map, AllByRecursion}

-- a form over kinds of words and the roles that words can have
pub data Form (K R : Type 0) : Type 0 where
  nothing : Form K R
  one : K → R → Form K R
  both : Form K R → Form K R → Form K R
  either : Form K R → Form K R → Form K R
  many : Form K R → Form K R

infixr 12 ◌▹◌
-- the first, then the second
abbrev pub ◌▹◌ : {K R : Type 0} → Form K R → Form K R → Form K R
f ▹ g = both f g

-- once or more
abbrev pub some : {K R : Type 0} → Form K R → Form K R
some f = f ▹ many f

-- a form or nothing
abbrev pub maybe : {K R : Type 0} → Form K R → Form K R
maybe f = either f nothing

-- may the form be nothing?
abbrev pub may_end : {K R : Type 0} → Form K R → Bool
may_end nothing = true
may_end (one k r) = false
may_end (both f g) = may_end f && may_end g
may_end (either f g) = may_end f || may_end g
may_end (many f) = true

-- one way to begin: with a word of this kind and role, and then the rest
pub record Start (K R : Type 0) : Type 0 where
  pub kind : K
  pub role : R
  pub rest : Form K R

-- the second after the first, which is left out if it is nothing
abbrev pub followed : {K R : Type 0} → Form K R → Form K R → Form K R
followed nothing g = g
followed (one k r) g = both (one k r) g
followed (both f h) g = both (both f h) g
followed (either f h) g = both (either f h) g
followed (many f) g = both (many f) g

-- a start, and what follows the form that it begins
abbrev pub followed_by : {K R : Type 0} → Form K R → Start K R → Start K R
followed_by g s = record s { rest = followed s.rest g }

-- the ways in which a form can begin
abbrev pub starts : {K R : Type 0} → Form K R → List (Start K R)
starts nothing = []
starts (one k r) = record { kind = k; role = r; rest = nothing } ∷ []
starts (both f g) = map (followed_by g) (starts f) ++ (if may_end f then starts g else [])
starts (either f g) = starts f ++ starts g
starts (many f) = map (followed_by (many f)) (starts f)

-- a word with its role
pub record Labelled (W R : Type 0) : Type 0 where
  pub role : R
  pub word : W

-- a word with its role
abbrev pub labelled : {W R : Type 0} → R → W → Labelled W R
labelled r w = record { role = r; word = w }

-- the first start that the word fits
abbrev pub start_with : {K R W : Type 0} → (K → W → Bool) → W → List (Start K R) → Option (Start K R)
start_with fits w [] = None
start_with fits w (s ∷ ss) = if fits s.kind w then Some s else start_with fits w ss

-- what is made of a start that fits; otherwise the other
abbrev pub by_start : {K R X : Type 0} → Option (Start K R) → (Start K R → X) → X → X
by_start (Some s) wanted other = wanted s
by_start None wanted other = other

-- the words with their roles, as far as the form wants them
abbrev pub labels : {K R W : Type 0} → (K → W → Bool) → Form K R → List W → List (Labelled W R)
labels fits wanted [] = []
labels fits wanted (w ∷ rest) = by_start (start_with fits w (starts wanted)) (λ s. labelled s.role w ∷ labels fits s.rest rest) []

-- what the form wants after the words that fit it: after all of them, or before the first that it does not want
abbrev pub left_behind : {K R W : Type 0} → (K → W → Bool) → Form K R → List W → Form K R
left_behind fits wanted [] = wanted
left_behind fits wanted (w ∷ rest) = by_start (start_with fits w (starts wanted)) (λ s. left_behind fits s.rest rest) wanted

-- these words with these roles are derived by the form
abbrev pub Derives : {K R W : Type 0} → (K → W → Bool) → Form K R → List (Labelled W R) → Type 0
Derives fits nothing ws = ws ≡ []
Derives {K} {R} {W} fits (one k r) ws = (w : W) × (ws ≡ labelled r w ∷ []) × (fits k w ≡ true)
Derives {K} {R} {W} fits (both f g) ws = (front : List (Labelled W R)) × (back : List (Labelled W R)) × (ws ≡ front ++ back) × Derives fits f front × Derives fits g back
Derives fits (either f g) ws = Derives fits f ws ⊎ Derives fits g ws
Derives {K} {R} {W} fits (many f) ws = (parts : List (List (Labelled W R))) × (ws ≡ flat_map (λ part. part) parts) × AllByRecursion (Derives fits f) parts
