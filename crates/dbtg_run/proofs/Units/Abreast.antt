-- Units that make their scripts side by side.
use Rattle.std.proofs.Common.{◌≡◌, ◌⊎◌, ℕ, zero, suc, ◌+◌, ◌<◌, Result, Ok, Err, IfOk, is_err, false, List, [], ◌∷◌, ◌++◌, All, length, refl, sym, ap, ◌∙◌, subst, inl, inr, ⊎_elim, arith, get_or, length-append}
use Rattle.std.proofs.lemmas.List.{get_or_append_left, get_or_default}
use Rattle.std.proofs.lemmas.Option.{get_or_from_slice_get, slice_get_read}
use Rattle.dbtg_unit.specs.declared.statement.Statement.{Statement}
use Rattle.dbtg_run.specs.Running.{AtEach, HaveRun, Ran}
use Rattle.dbtg_run.specs.UnitView.{UnitView}
use Rattle.dbtg_run.proofs.Units.Runs.{ran_none}

at_last : {A : Type 0} (xs : List A) (x d : A) (k : ℕ) → k ≡ length xs → get_or (xs ++ x ∷ []) k d ≡ x
at_last [] x d k is = subst (λ n. get_or (x ∷ []) n d ≡ x) (sym is) refl
at_last (y ∷ ys) x d k is = subst (λ n. get_or (y ∷ (ys ++ x ∷ [])) n d ≡ x) (sym is) (at_last ys x d (length ys) refl)

last_or_not : (k n : ℕ) → k < n + 1 → (k < n) ⊎ (k ≡ n)
last_or_not zero zero below = inr refl
last_or_not zero (suc n) below = inl (omega arith)
last_or_not (suc k) zero below = absurd (omega arith)
last_or_not (suc k) (suc n) below = ⊎_elim (λ (l : k < n). inl (omega arith)) (λ (is : k ≡ n). inr (ap suc is)) (last_or_not k n (omega arith))

-- all, and one more
pub all_more : {A : Type 0} (P : A → Type 0) (xs : List A) (x : A) → All P xs → P x → All P (xs ++ x ∷ [])
all_more P xs x all last k d below = ⊎_elim
    (λ (l : k < length xs). subst P (sym (get_or_append_left xs (x ∷ []) d k l)) (all k d l))
    (λ (is : k ≡ length xs). subst P (sym (at_last xs x d k is)) last)
    (last_or_not k (length xs) (let l = length-append xs (x ∷ []) in omega arith))

-- and with one more script and its unit
pub at_more : {S : Type 0} (P : S → UnitView → UnitView → Type 0) (scripts : List S) (before after : List UnitView) (s : S) (u v : UnitView)
    → ((d : S) → get_or scripts (length before) d ≡ s) → AtEach P scripts before after → P s u v → AtEach P scripts (before ++ u ∷ []) (after ++ v ∷ [])
at_more {S} P scripts before after s u v at A last = record {
  count = length-append after (v ∷ []) ∙ (ap (λ n. n + 1) A.count ∙ sym (length-append before (u ∷ [])));
  each = λ k d e f below. ⊎_elim
      (λ (l : k < length before). first k d e f l)
      (λ (is : k ≡ length before). end k d e f is)
      (last_or_not k (length before) (let l = length-append before (u ∷ []) in omega arith));
}
  where
    first : (k : ℕ) (d : S) (e f : UnitView) → k < length before → P (get_or scripts k d) (get_or (before ++ u ∷ []) k e) (get_or (after ++ v ∷ []) k f)
    first k d e f l =
        let c = A.count in
        subst (λ y. P (get_or scripts k d) (get_or (before ++ u ∷ []) k e) y) (sym (get_or_append_left after (v ∷ []) f k (omega arith)))
        (subst (λ y. P (get_or scripts k d) y (get_or after k f)) (sym (get_or_append_left before (u ∷ []) e k l)) (A.each k d e f l))

    end : (k : ℕ) (d : S) (e f : UnitView) → k ≡ length before → P (get_or scripts k d) (get_or (before ++ u ∷ []) k e) (get_or (after ++ v ∷ []) k f)
    end k d e f is =
        let c = A.count in
        subst (λ y. P y (get_or (before ++ u ∷ []) k e) (get_or (after ++ v ∷ []) k f)) (sym (ap (λ n. get_or scripts n d) is ∙ at d))
        (subst (λ y. P s y (get_or (after ++ v ∷ []) k f)) (sym (at_last before u e k is))
        (subst (λ y. P s u y) (sym (at_last after v f k (is ∙ sym c))) last))

-- the script at the end of what is left, whatever stands for a script that is not there
pub script_at : {S : Type 0} (scripts : List S) (k n : ℕ) (s : S) → k ≡ n → n < length scripts → s ≡ get_or scripts k s → (d : S) → get_or scripts n d ≡ s
script_at scripts k n s same below is d = get_or_from_slice_get scripts n s d (slice_get_read scripts (length scripts) n s refl below (is ∙ ap (λ i. get_or scripts i s) same))

-- the units that are left came back, and after them the last
pub all_back : {S : Type 0} (P : S → UnitView → UnitView → Type 0) (scripts : List S) (units left came back : List UnitView) (s : S) (u v : UnitView)
    → units ≡ left ++ u ∷ [] → back ≡ came ++ v ∷ [] → ((d : S) → get_or scripts (length left) d ≡ s) → AtEach P scripts left came → P s u v → AtEach P scripts units back
all_back P scripts units left came back s u v units_are back_is at A last =
    subst (λ us. AtEach P scripts us back) (sym units_are) (subst (λ us. AtEach P scripts (left ++ u ∷ []) us) (sym back_is) (at_more P scripts left came s u v at A last))

pub all_belong : {A : Type 0} (P : A → Type 0) (came back : List A) (v : A) → back ≡ came ++ v ∷ [] → All P came → P v → All P back
all_belong P came back v is all last = subst (All P) (sym is) (all_more P came v all last)

-- the last place of what there are
pub last_place : {A : Type 0} (xs ys : List A) (x : A) → ys ≡ xs ++ x ∷ [] → length ys ≡ length xs + 1
last_place xs ys x is = ap length is ∙ length-append xs (x ∷ [])

-- the units as they were have made none of their statements
pub have_not_run : (scripts : List (List Statement)) (units : List UnitView) → HaveRun scripts units units
have_not_run scripts units = record {
  count = refl;
  each = λ k s u v below. subst (Ran (get_or scripts k s) (get_or units k u)) (get_or_default units k u v below) (ran_none (get_or scripts k s) (get_or units k u)).0;
}

-- what holds where there was no error
pub where_ok : {T E : Type 0} (r : Result T E) (P : Type 0) → is_err r ≡ false → IfOk r (λ _. P) → P
where_ok (Ok x) P fine holds = holds
where_ok (Err e) P fine holds = absurd (cc)
