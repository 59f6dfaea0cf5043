-- Looks that are found in an array.
-- l is a look, n the number of an array.
use Rattle.std.proofs.Common.{◌≡◌, refl, sym, ◌∙◌, ap, subst, ℕ, List, [], ◌∷◌, ◌++◌, Some, slice_get}
use Rattle.std.specs.Prelude.{◌-◌, All, OnOk, Result, map, slice_set}
use Rattle.std.proofs.lemmas.List.{map-append}
use Rattle.std.proofs.lemmas.List.Elements.{All-append, All-cons, All-nil}
use Rattle.dbtg_schema.specs.Lists.{Lists}
use Rattle.dbtg_interned.specs.Arrays.{elements, with_each}
use Rattle.dbtg_cells.specs.declared.name.CellName.{CellName}
use Rattle.dbtg_states.specs.declared.transitions.Look.{Look}
use Rattle.dbtg_states.specs.declared.transitions.Passage.{Passage}
use Rattle.dbtg_states.specs.declared.transitions.Transition.{Transition}
use Rattle.dbtg_states.specs.Numbers.{Numbers}
use Rattle.dbtg_states.specs.Transitions.{AddsPassage, AreLooks, cell_place, written}

-- PUT

-- what a look leaves, as a change of an array
abbrev pub change_of : Look → ℕ × ℕ
change_of l = (l.place, l.after)

pub changes_written : (looks : List Look) (es : List ℕ) → with_each (map change_of looks) es ≡ written looks es
changes_written [] es = refl
changes_written (l ∷ looks) es = changes_written looks (slice_set es l.place l.after)

-- ONE MORE

-- the looks at some cells, and the look at one more
pub one_more_look : (schema : Lists) (capacity units : ℕ) (kept : Numbers) (passage : Passage) (names : List CellName) (name : CellName) (looks : List Look) (l : Look) → AreLooks schema capacity units kept passage names looks → l.place ≡ cell_place schema capacity units name
    → slice_get (elements kept.arrays passage.before) l.place ≡ Some l.before → slice_get (elements kept.arrays passage.after) l.place ≡ Some l.after → AreLooks schema capacity units kept passage (names ++ name ∷ []) (looks ++ l ∷ [])
one_more_look schema capacity units kept passage names name looks l h place before after = record {
  had = All-append (λ k. slice_get (elements kept.arrays passage.before) k.place ≡ Some k.before) looks (l ∷ []) h.had (alone (λ k. slice_get (elements kept.arrays passage.before) k.place ≡ Some k.before) l before);
  has = All-append (λ k. slice_get (elements kept.arrays passage.after) k.place ≡ Some k.after) looks (l ∷ []) h.has (alone (λ k. slice_get (elements kept.arrays passage.after) k.place ≡ Some k.after) l after);
  places_are = map-append {B = ℕ} (λ (k : Look). k.place) looks (l ∷ []) ∙ (λ i. h.places_are i ++ place i ∷ []) ∙ ap (λ ps. (passage.unit - 1) ∷ ps) (sym (map-append {B = ℕ} (cell_place schema capacity units) names (name ∷ [])));
} where
  alone : (P : Look → Type 0) (k : Look) → P k → All P (k ∷ [])
  alone P k p = All-cons P k [] p (All-nil P)

-- the look at the unit's own part alone
pub own_look : (schema : Lists) (capacity units : ℕ) (kept : Numbers) (passage : Passage) (l : Look) → l.place ≡ passage.unit - 1
    → slice_get (elements kept.arrays passage.before) l.place ≡ Some l.before → slice_get (elements kept.arrays passage.after) l.place ≡ Some l.after → AreLooks schema capacity units kept passage [] (l ∷ [])
own_look schema capacity units kept passage l place before after = record {
  had = All-cons (λ k. slice_get (elements kept.arrays passage.before) k.place ≡ Some k.before) l [] before (All-nil (λ k. slice_get (elements kept.arrays passage.before) k.place ≡ Some k.before));
  has = All-cons (λ k. slice_get (elements kept.arrays passage.after) k.place ≡ Some k.after) l [] after (All-nil (λ k. slice_get (elements kept.arrays passage.after) k.place ≡ Some k.after));
  places_are = ap (λ i. i ∷ []) place;
}

-- PASSAGES

-- what is added for places of a schema is added for those of a schema that is the same
pub adds_there : {T E : Type 0} (r : Result T E) (one other : Lists) (capacity capacity' units units' : ℕ) (kept : Numbers) (passage : Passage) (names : List CellName) (old new : List Transition) → one ≡ other → capacity ≡ capacity' → units ≡ units'
    → OnOk r (AddsPassage one capacity units kept passage names old new) → OnOk r (AddsPassage other capacity' units' kept passage names old new)
adds_there r one other capacity capacity' units units' kept passage names old new s k n h =
    subst (λ (z : Lists). OnOk r (AddsPassage z capacity' units' kept passage names old new)) s
    (subst (λ (z : ℕ). OnOk r (AddsPassage one z units' kept passage names old new)) k
    (subst (λ (z : ℕ). OnOk r (AddsPassage one capacity z kept passage names old new)) n h))
