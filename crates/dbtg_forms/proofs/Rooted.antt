-- One vertex more of which the roots are spelled.
use Rattle.std.proofs.Common.{◌≡◌, refl, sym, ◌∙◌, ap, ℕ, zero, suc, ◌+◌, arith, Bool, true, false, List, [], ◌∷◌, ◌++◌, map, append-nil, inl, inr, Some, slice_get}
use Rattle.std.specs.Prelude.{cond, filter}
use Rattle.std.specs.List.{range_with_len}
use Rattle.std.proofs.lemmas.Bool.{cases_Bool}
use Rattle.std.proofs.lemmas.List.{map_push}
use Rattle.dbtg_interned.specs.Kept.{Keeps}
use Rattle.dbtg_interned.proofs.Public.{stays_list}
use Rattle.dbtg_forms.specs.declared.vertex.Vertex.{Vertex}
use Rattle.dbtg_forms.specs.Forms.{is_root, spelling}
use Rattle.dbtg_forms.proofs.Lists.{range_more}

filter_push : (p : ℕ → Bool) (xs : List ℕ) (y : ℕ) → filter p (xs ++ y ∷ []) ≡ filter p xs ++ cond (p y) (y ∷ []) []
filter_push p [] y = refl
filter_push p (x ∷ xs) y =
    elim (cases_Bool (p x)) [
      | inl e ↦ ap (λ b. cond b (x ∷ filter p (xs ++ y ∷ [])) (filter p (xs ++ y ∷ []))) e ∙ ap (λ l. x ∷ l) (filter_push p xs y) ∙ ap (λ b. cond b (x ∷ filter p xs) (filter p xs) ++ cond (p y) (y ∷ []) []) (sym e)
      | inr e ↦ ap (λ b. cond b (x ∷ filter p (xs ++ y ∷ [])) (filter p (xs ++ y ∷ []))) e ∙ filter_push p xs y ∙ ap (λ b. cond b (x ∷ filter p xs) (filter p xs) ++ cond (p y) (y ∷ []) []) (sym e)
    ]

-- the roots among the first vertices
abbrev first_roots : List Vertex → ℕ → List ℕ
first_roots graph n = filter (is_root graph) (range_with_len 0 n)

roots_more : (graph : List Vertex) (i j : ℕ) → j ≡ i + 1 → first_roots graph j ≡ first_roots graph i ++ cond (is_root graph i) (i ∷ []) []
roots_more graph i j e = ap (filter (is_root graph)) (range_more i j e) ∙ filter_push (is_root graph) (range_with_len 0 i) i

-- spellings that are kept stay
pub spelled_stay : (old new : List (List ℕ)) (ns : List ℕ) (xs : List (List ℕ)) → Keeps old new → map (slice_get old) ns ≡ map Some xs → map (slice_get new) ns ≡ map Some xs
spelled_stay old new [] [] keeps e = refl
spelled_stay old new [] (x ∷ xs) keeps e = absurd (cc)
spelled_stay old new (n ∷ ns) [] keeps e = absurd (cc)
spelled_stay old new (n ∷ ns) (x ∷ xs) keeps e =
    let head : slice_get old n ≡ Some x = cc in
    let tail : map (slice_get old) ns ≡ map Some xs = cc in
    let there = stays_list old new n x keeps head in
    let rest = spelled_stay old new ns xs keeps tail in
    λ i. there i ∷ rest i

module _ (graph : List Vertex) (old : List (List ℕ)) (ns : List ℕ) (i j : ℕ) (next : j ≡ i + 1) (so : map (slice_get old) ns ≡ map Some (map (spelling graph) (first_roots graph i))) where
  pub one_root : (new : List (List ℕ)) (n : ℕ) (spelled : List ℕ) → is_root graph i ≡ true → Keeps old new → spelled ≡ spelling graph i → slice_get new n ≡ Some spelled
      → map (slice_get new) (ns ++ n ∷ []) ≡ map Some (map (spelling graph) (first_roots graph j))
  one_root new n spelled root keeps is at =
      let before : List ℕ = first_roots graph i in
      map_push (slice_get new) ns n
      ∙ (λ k. spelled_stay old new ns (map (spelling graph) before) keeps so k ++ (at ∙ ap Some is) k ∷ [])
      ∙ sym (map_push Some (map (spelling graph) before) (spelling graph i))
      ∙ ap (map Some) (sym (map_push (spelling graph) before i) ∙ ap (map (spelling graph)) (sym (roots_more graph i j next ∙ ap (λ b. before ++ cond b (i ∷ []) []) root)))

  pub no_root : is_root graph i ≡ false → map (slice_get old) ns ≡ map Some (map (spelling graph) (first_roots graph j))
  no_root root = so ∙ ap (λ l. map Some (map (spelling graph) l)) (sym (roots_more graph i j next ∙ ap (λ b. first_roots graph i ++ cond b (i ∷ []) []) root ∙ append-nil (first_roots graph i)))
