-- What looks write into the array of a state.
-- l and k are looks, i is a place in an array.
use Rattle.std.proofs.Common.{◌≡◌, refl, sym, ◌∙◌, ap, ℕ, zero, suc, ◌<◌, List, [], ◌∷◌, length, Some, inl, inr, ⊎_elim, arith, slice_get, slice_set}
use Rattle.std.proofs.lemmas.Bool.{cases_eq}
use Rattle.std.proofs.lemmas.Option.{slice_get_within}
use Rattle.dbtg_cells.proofs.Public.{get_set_other, get_set_same}
use Rattle.dbtg_unit.proofs.Public.{In}
use Rattle.dbtg_states.specs.declared.transitions.Look.{Look}
use Rattle.dbtg_states.specs.Transitions.{written}

as_long : (numbers : List ℕ) (i a : ℕ) → length (slice_set numbers i a) ≡ length numbers
as_long [] i a = refl
as_long (n ∷ numbers) zero a = refl
as_long (n ∷ numbers) (suc i) a = ap suc (as_long numbers i a)

-- what is written stays, where nothing else is written
pub written_stays : (looks : List Look) (numbers : List ℕ) (i a : ℕ) → slice_get numbers i ≡ Some a → ((l : Look) → In l looks → l.place ≡ i → l.after ≡ a) → slice_get (written looks numbers) i ≡ Some a
written_stays [] numbers i a e h = e
written_stays (l ∷ looks) numbers i a e h =
    written_stays looks (slice_set numbers l.place l.after) i a
    (elim (cases_eq i l.place) [
      | inl same ↦ ap (slice_get (slice_set numbers l.place l.after)) same ∙ get_set_same numbers l.place l.after (let low = slice_get_within numbers i a e in omega (arith, low, same)) ∙ ap Some (h l (inl refl) (sym same))
      | inr apart ↦ get_set_other numbers l.place i l.after apart ∙ e
    ])
    (λ k r same. h k (inr r) same)

pub written_has : (looks : List Look) (numbers : List ℕ) (l : Look) → l.place < length numbers → In l looks → ((k : Look) → In k looks → k.place ≡ l.place → k.after ≡ l.after) → slice_get (written looks numbers) l.place ≡ Some l.after
written_has [] numbers l low i h = absurd i
written_has (k ∷ looks) numbers l low i h =
    ⊎_elim
    (λ is.
    let place : k.place ≡ l.place = ap (λ (x : Look). x.place) is in
    let after : k.after ≡ l.after = ap (λ (x : Look). x.after) is in
    written_stays looks (slice_set numbers k.place k.after) l.place l.after
    (ap (slice_get (slice_set numbers k.place k.after)) (sym place) ∙ get_set_same numbers k.place k.after (omega (arith, low, place)) ∙ ap Some after)
    (λ g r same. h g (inr r) same))
    (λ r. written_has looks (slice_set numbers k.place k.after) l (let long = as_long numbers k.place k.after in omega (arith, low, long)) r (λ g s same. h g (inr s) same))
    i

pub written_other : (looks : List Look) (numbers : List ℕ) (i : ℕ) → ((l : Look) → In l looks → l.place ≡ i → ⊥) → slice_get (written looks numbers) i ≡ slice_get numbers i
written_other [] numbers i h = refl
written_other (l ∷ looks) numbers i h = written_other looks (slice_set numbers l.place l.after) i (λ k r. h k (inr r)) ∙ get_set_other numbers l.place i l.after (λ e. h l (inl refl) (sym e))
