use Rattle.std.proofs.Common.{◌∙◌, ap, subst, Some, ℕ, List, Option, map, slice_get}
use Rattle.std.specs.List.Sorted.{IsPermutation}
use Rattle.std.proofs.lemmas.List.Sorted.{IsNonDecreasingBy-from_sort, IsPermutation-map}
use Rattle.dbtg_forms.proofs.forms.Forms.enter.Goals as goal

pub returns-clause-number : goal.returns-clause-number
returns-clause-number c =
    let spellings : List (List ℕ) = c.spell_roots.new.spellings in
    let before = c.in_ok-numbers.numbers.items in
    let after = c.sort_unstable.new.self.items in
    record {
      numbers = after;
      form = c.in_ok-number.ensures.number ∙ ap Some c.as_slice.ensures.value;
      is_form = record {
        rising = IsNonDecreasingBy-from_sort (λ n. n) after c.sort_unstable.ensures.sorted;
        spelled = subst (λ (l : List (Option (List ℕ))). IsPermutation l (map (slice_get spellings) after)) c.in_ok-numbers.ensures.numbers
            (IsPermutation-map (slice_get spellings) before after c.sort_unstable.ensures.permutation);
      };
    }
