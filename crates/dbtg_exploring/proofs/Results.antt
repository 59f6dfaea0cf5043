-- The texts of results, one after another.
use Rattle.std.proofs.Common.{◌≡◌, ℕ, ◌+◌, ◌<◌, List, [], ◌∷◌, ◌++◌, take, length, Option, Some, refl, sym, ap, ◌∙◌, subst, arith, get_or}
use Rattle.std.proofs.lemmas.List.{append-nil, append_assoc, length-take-le, take_more}
use Rattle.dbtg_schema.specs.Lists.{Lists}
use Rattle.dbtg_program.specs.declared.program.Program.{Program}
use Rattle.dbtg_going.specs.declared.going.ProgramRun.{ProgramRun}
use Rattle.dbtg_going.specs.Turns.{IsRunOf, turns_of}
use Rattle.dbtg_states.specs.declared.brief.Told.{Told}
use Rattle.dbtg_exploring.specs.declared.setting.Exploring.{Exploring}
use Rattle.dbtg_exploring.specs.Inside.Shown.{IsShown}
use Rattle.dbtg_exploring.specs.Texts.{AreResultTexts, IsResultText, and_told, result_head, shown_text}

module _ (schema : Lists) (programs : List Program) (told : List ℕ) (asked : Exploring) where
  abbrev Texts : Option (List Told) → Option (List Told) → ℕ → List (List ℕ) → List ℕ → Type 0
  Texts = AreResultTexts schema programs told asked

  abbrev next : Option (List Told) → ProgramRun → Option (List Told)
  next = and_told schema programs

  -- the text is the same for an equal number, and after the same earlier results
  moved : (before others : Option (List Told)) (j k : ℕ) (order text : List ℕ) → (is : IsResultText schema programs told asked before j order text) → before ≡ others → j ≡ k
      → (of : IsResultText schema programs told asked others k order text) × (of.given ≡ is.given)
  moved before others j k order text is same number = (
    record {
      given = is.given;
      is_run = is.is_run;
      is_text = is.is_text ∙ (λ i. result_head (number i) (told ++ order) ++ shown_text schema programs (same i) is.given);
    },
    refl,
  )

  -- one more text after the others
  one_more : (before after : Option (List Told)) (k : ℕ) (orders : List (List ℕ)) (order out text : List ℕ) → Texts before after k orders out
      → (is : IsResultText schema programs told asked after (k + length orders) order text) → Texts before (next after is.given) k (orders ++ order ∷ []) (out ++ text)
  one_more before after k [] order out text are is =
      let of = moved after before (k + 0) k order text is are.1 (omega arith) in
      let last : next after is.given ≡ next before of.0.given = λ i. next (are.1 i) (sym of.1 i) in
      (text, [], ap (λ o. o ++ text) are.0 ∙ sym (append-nil text), of.0, (refl, last))
  one_more before after k (o ∷ orders) order out text are is =
      let of = moved after after (k + length (o ∷ orders)) (k + 1 + length orders) order text is refl (omega arith) in
      let rest = subst (λ (given : ProgramRun). Texts (next before are.3.given) (next after given) (k + 1) (orders ++ order ∷ []) (are.1 ++ text)) of.1
      (one_more (next before are.3.given) after (k + 1) orders order are.1 text are.4 of.0) in
      (are.0, are.1 ++ text, ap (λ t. t ++ text) are.2 ∙ append_assoc are.0 are.1 text, are.3, rest)

  -- the next result
  pub next_result : (results : List (List ℕ)) (i : ℕ) (order out new : List ℕ) (before after shown : Option (List Told)) (k : ℕ) → i < length results → order ≡ get_or results i order → k ≡ i + 1
      → Texts before after 1 (take i results) out → IsShown schema programs told asked k order out new after shown → Texts before shown 1 (take (i + 1) results) new
  next_result results i order out new before after shown k below at k_is are is =
      let taken = length-take-le i results (omega (arith, below)) in
      let many : k ≡ 1 + length (take i results) = omega (arith, taken, k_is) in
      let front : take i results ++ order ∷ [] ≡ take (i + 1) results = ap (λ (o : List ℕ). take i results ++ o ∷ []) at ∙ sym (take_more results i order below) in
      let of = moved after after k (1 + length (take i results)) order is.text is.is_text refl many in
      let last : next after of.0.given ≡ shown = ap (next after) of.1 ∙ sym is.after_is in
      subst (λ os. Texts before shown 1 os new) front
      (subst (Texts before shown 1 (take i results ++ order ∷ [])) (sym is.new_is)
      (subst (λ (s : Option (List Told)). Texts before s 1 (take i results ++ order ∷ []) (out ++ is.text)) last
      (one_more before after 1 (take i results) order out is.text are of.0)))

  -- the text of a result is appended to the others
  pub shown_of : (before after : Option (List Told)) (k : ℕ) (order old head new turns same : List ℕ) (given : ProgramRun) → turns ≡ told ++ order → same ≡ told ++ order
      → IsRunOf schema asked.capacity programs (turns_of schema asked.capacity programs asked.around (Some same)) given → head ≡ old ++ result_head k turns
      → new ≡ head ++ shown_text schema programs before given → after ≡ next before given → IsShown schema programs told asked k order old new before after
  shown_of before after k order old head new turns same given turns_are same_are run head_is new_is after_is =
      let shown : List ℕ = shown_text schema programs before given in
      record {
        text = result_head k (told ++ order) ++ shown;
        new_is = new_is ∙ ap (λ h. h ++ shown) (head_is ∙ ap (λ t. old ++ result_head k t) turns_are) ∙ append_assoc old (result_head k (told ++ order)) shown;
        is_text = record {
          given = given;
          is_run = subst (λ ts. IsRunOf schema asked.capacity programs (turns_of schema asked.capacity programs asked.around (Some ts)) given) same_are run;
          is_text = refl;
        };
        after_is = after_is;
      }

-- three texts after one
pub texts_behind : (old a b c : List ℕ) → old ++ a ++ b ++ c ≡ old ++ (a ++ b ++ c)
texts_behind old a b c = ap (λ x. x ++ c) (append_assoc old a b) ∙ append_assoc old (a ++ b) c
