-- If the next word always tells how a form goes on, words are derived in at most one way.
use Rattle.std.proofs.Common.{◌≡◌, Bool, true, false, not, ◌&&◌, List, [], ◌∷◌, ◌++◌, sym, ap, ◌∙◌, ◌⊎◌, inl, inr}
use mathlib.Core.HLevel.{×_prop, Σ_prop_path}
use Rattle.std.proofs.Math.Bool.{Bool-set}
use Rattle.std.specs.List.{AllByRecursion, AllByRecursion-prop}
use Rattle.std.proofs.lemmas.Bool.{and_parts, not-true}
use Rattle.std.proofs.lemmas.List.{append_cancel_left}
use Rattle.dbtg_schema.specs.Texts.Forms.{Form, nothing, one, both, either, many, may_end, Labelled, labelled, Derives}
use Rattle.dbtg_schema.proofs.Forms.Wanted.{ended}
use Rattle.dbtg_schema.proofs.Forms.OneWay.{is_told, all_apart, further, firsts, words_of, in_parts, meets, Apart, Alike, begins, joined, parts_alike, are_apart, alike}

module _ {K R W : Type 0} (fits : K → W → Bool) (are_set : IsSet (List (Labelled W R))) where
  -- what is derived by one word, after the word
  abbrev Word : K → R → List (Labelled W R) → W → Type 0
  Word k r ws w = (ws ≡ labelled r w ∷ []) × (fits k w ≡ true)

  one_prop : (k : K) (r : R) (ws : List (Labelled W R)) → IsProp (Derives fits (one k r) ws)
  one_prop k r ws d c =
      let word : d.0 ≡ c.0 = (let e = sym d.1 ∙ c.1 in let l : labelled r d.0 ≡ labelled r c.0 = cc in ap (λ (z : Labelled W R). z.word) l) in
      let same : ◌≡◌ {A = (w : W) × Word k r ws w} (d.0, (d.1, d.2)) (c.0, (c.1, c.2)) = Σ_prop_path (λ w. ×_prop (are_set ws (labelled r w ∷ [])) (Bool-set (fits k w) true)) word in
      λ i. ((same i).0, (same i).1.0, (same i).1.1)

  -- what is derived by two forms, after the words of the first
  abbrev Back : Form K R → Form K R → List (Labelled W R) → List (Labelled W R) → Type 0
  Back f g ws front = (back : List (Labelled W R)) × ((ws ≡ front ++ back) × (Derives fits f front × Derives fits g back))

  back_prop : (f g : Form K R) (ws front : List (Labelled W R)) → ((us : List (Labelled W R)) → IsProp (Derives fits f us)) → ((us : List (Labelled W R)) → IsProp (Derives fits g us)) → IsProp (Back f g ws front)
  back_prop f g ws front pf pg u v = Σ_prop_path (λ back. ×_prop (are_set ws (front ++ back)) (×_prop (pf front) (pg back))) (append_cancel_left front u.0 v.0 (sym u.1.0 ∙ v.1.0))

  -- where a part ends, the other begins
  no_further : (f g : Form K R) (ys : List (Labelled W R)) → Apart fits (further f) (firsts g) → Derives fits g ys → meets fits (further f) (words_of ys ++ []) ≡ true → ⊥
  no_further f g [] differ d h = absurd cc
  no_further f g (l ∷ ys) differ d h = differ l.word h (begins fits g l ys d)

  fronts : (f g : Form K R) (ws : List (Labelled W R)) (d c : Derives fits (both f g) ws) → Apart fits (further f) (firsts g)
      → ((us vs : List (Labelled W R)) (a b : List W) → words_of us ++ a ≡ words_of vs ++ b → Derives fits f us → Derives fits f vs → Alike fits f us a vs b) → d.0 ≡ c.0
  fronts f g ws d c differ same_f =
      let shape = sym (in_parts d.0 d.1 []) ∙ ap (λ (z : List (Labelled W R)). words_of z ++ []) (sym d.2 ∙ c.2) ∙ in_parts c.0 c.1 [] in
      elim (same_f d.0 c.0 (words_of d.1 ++ []) (words_of c.1 ++ []) shape d.3 c.3) [
        | inl p ↦ p.0
        | inr m ↦ absurd (elim m [ inl a ↦ no_further f g d.1 differ d.4 a | inr b ↦ no_further f g c.1 differ c.4 b ])
      ]

  both_prop : (f g : Form K R) (ws : List (Labelled W R)) → ((us : List (Labelled W R)) → IsProp (Derives fits f us)) → ((us : List (Labelled W R)) → IsProp (Derives fits g us))
      → ((d c : Derives fits (both f g) ws) → d.0 ≡ c.0) → IsProp (Derives fits (both f g) ws)
  both_prop f g ws pf pg front d c =
      let same : ◌≡◌ {A = (x : List (Labelled W R)) × Back f g ws x} (d.0, (d.1, (d.2, (d.3, d.4)))) (c.0, (c.1, (c.2, (c.3, c.4)))) = Σ_prop_path (λ x. back_prop f g ws x pf pg) (front d c) in
      λ i. ((same i).0, (same i).1.0, (same i).1.1.0, (same i).1.1.1.0, (same i).1.1.1.1)

  not_both : (a b : Bool) → not (a && b) ≡ true → a ≡ true → b ≡ true → ⊥
  not_both true true h s t = absurd cc
  not_both true false h s t = absurd cc
  not_both false b h s t = absurd cc

  two_ways : (f g : Form K R) (ws : List (Labelled W R)) → not (may_end f && may_end g) ≡ true → Apart fits (firsts f) (firsts g) → Derives fits f ws → Derives fits g ws → ⊥
  two_ways f g [] some differ a b = not_both (may_end f) (may_end g) some (ended fits f a) (ended fits g b)
  two_ways f g (l ∷ ws) some differ a b = differ l.word (begins fits f l ws a) (begins fits g l ws b)

  either_prop : (f g : Form K R) (ws : List (Labelled W R)) → ((us : List (Labelled W R)) → IsProp (Derives fits f us)) → ((us : List (Labelled W R)) → IsProp (Derives fits g us))
      → (Derives fits f ws → Derives fits g ws → ⊥) → (d c : Derives fits f ws ⊎ Derives fits g ws) → d ≡ c
  either_prop f g ws pf pg differ (inl a) (inl b) = ap inl (pf ws a b)
  either_prop f g ws pf pg differ (inl a) (inr b) = absurd (differ a b)
  either_prop f g ws pf pg differ (inr a) (inl b) = absurd (differ b a)
  either_prop f g ws pf pg differ (inr a) (inr b) = ap inr (pg ws a b)

  same_parts : (f : Form K R) (ws : List (Labelled W R)) (d c : Derives fits (many f) ws) → may_end f ≡ false → Apart fits (further f) (firsts f)
      → ((us vs : List (Labelled W R)) (a b : List W) → words_of us ++ a ≡ words_of vs ++ b → Derives fits f us → Derives fits f vs → Alike fits f us a vs b) → d.0 ≡ c.0
  same_parts f ws d c some differ same =
      elim (parts_alike fits f d.0 c.0 [] [] some differ same (ap (λ (z : List (Labelled W R)). words_of z ++ []) (sym d.1 ∙ c.1)) d.2 c.2) [
        | inl p ↦ p.0
        | inr m ↦ absurd (elim m [ inl a ↦ cc | inr b ↦ cc ])
      ]

  -- what is derived by parts, after the parts
  abbrev Parts : Form K R → List (Labelled W R) → List (List (Labelled W R)) → Type 0
  Parts f ws parts = (ws ≡ joined fits parts) × AllByRecursion (Derives fits f) parts

  many_prop : (f : Form K R) (ws : List (Labelled W R)) → ((us : List (Labelled W R)) → IsProp (Derives fits f us)) → ((d c : Derives fits (many f) ws) → d.0 ≡ c.0) → IsProp (Derives fits (many f) ws)
  many_prop f ws pf parts d c =
      let same : ◌≡◌ {A = (ps : List (List (Labelled W R))) × Parts f ws ps} (d.0, (d.1, d.2)) (c.0, (c.1, c.2)) = Σ_prop_path (λ ps. ×_prop (are_set ws (joined fits ps)) (AllByRecursion-prop (Derives fits f) pf ps)) (parts d c) in
      λ i. ((same i).0, (same i).1.0, (same i).1.1)

module _ {K R W : Type 0} (fits : K → W → Bool) (are_set : IsSet (List (Labelled W R))) (apart : K → K → Bool) (told_apart : (j k : K) (w : W) → apart j k ≡ true → fits j w ≡ true → fits k w ≡ true → ⊥) where
  -- words with their roles are derived in at most one way
  pub derived_once : (f : Form K R) → is_told apart f ≡ true → (ws : List (Labelled W R)) → IsProp (Derives fits f ws)
  derived_once nothing t ws = are_set ws []
  derived_once (one k r) t ws = one_prop fits are_set k r ws
  derived_once (both f g) t ws =
      let p = and_parts (is_told apart f && is_told apart g) (all_apart apart (further f) (firsts g)) t in
      let q = and_parts (is_told apart f) (is_told apart g) p.0 in
      both_prop fits are_set f g ws (derived_once f q.0) (derived_once g q.1) (λ d c. fronts fits are_set f g ws d c (are_apart fits apart told_apart (further f) (firsts g) p.1) (alike fits apart told_apart f q.0))
  derived_once (either f g) t ws =
      let p = and_parts (is_told apart f && is_told apart g && all_apart apart (firsts f) (firsts g)) (not (may_end f && may_end g)) t in
      let q = and_parts (is_told apart f && is_told apart g) (all_apart apart (firsts f) (firsts g)) p.0 in
      let s = and_parts (is_told apart f) (is_told apart g) q.0 in
      either_prop fits are_set f g ws (derived_once f s.0) (derived_once g s.1) (two_ways fits are_set f g ws p.1 (are_apart fits apart told_apart (firsts f) (firsts g) q.1))
  derived_once (many f) t ws =
      let p = and_parts (is_told apart f && not (may_end f)) (all_apart apart (further f) (firsts f)) t in
      let q = and_parts (is_told apart f) (not (may_end f)) p.0 in
      many_prop fits are_set f ws (derived_once f q.0) (λ d c. same_parts fits are_set f ws d c (not-true (may_end f) q.1) (are_apart fits apart told_apart (further f) (firsts f) p.1) (alike fits apart told_apart f q.0))

  -- a derivation of words that stand there: their roles, and how they are derived with these
  abbrev pub Labelling : Form K R → List W → Type 0
  Labelling f words = (ws : List (Labelled W R)) × (words_of ws ≡ words) × Derives fits f ws

  -- words are labelled and derived in at most one way
  pub labelled_once : IsSet (List W) → (f : Form K R) → is_told apart f ≡ true → (words : List W) → IsProp (Labelling f words)
  labelled_once words_set f t words d c =
      let shape = ap (λ (z : List W). z ++ []) (d.1 ∙ sym c.1) in
      let roles : d.0 ≡ c.0 = elim (alike fits apart told_apart f t d.0 c.0 [] [] shape d.2 c.2) [
        | inl p ↦ p.0
        | inr m ↦ absurd (elim m [ inl a ↦ cc | inr b ↦ cc ])
      ] in
      let same : ◌≡◌ {A = (ws : List (Labelled W R)) × ((words_of ws ≡ words) × Derives fits f ws)} (d.0, (d.1, d.2)) (c.0, (c.1, c.2)) = Σ_prop_path (λ ws. ×_prop (words_set (words_of ws) words) (derived_once f t ws)) roles in
      λ i. ((same i).0, (same i).1.0, (same i).1.1)
