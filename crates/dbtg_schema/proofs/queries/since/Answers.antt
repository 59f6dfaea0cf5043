use Rattle.std.proofs.Common.{◌≡◌, ℕ, zero, suc, ◌+◌, ◌-◌, ◌<◌, ◌≤◌, Bool, true, false, not, ◌&&◌, ◌||◌, cond, List, [], ◌∷◌, drop, take, length, get_or, refl, sym, ap, ◌∙◌, arith, true≢false}
use Rattle.std.proofs.Math.Seq.{drop-cons}
use Rattle.std.proofs.lemmas.List.{take_all, drop_all, length-drop}
use Rattle.std.specs.List.{list_any}
use Rattle.dbtg_schema.specs.declared.role.Role.{Role}
use Rattle.dbtg_schema.specs.Texts.SchemaGrammar.{Labelled}
use Rattle.dbtg_schema.specs.Texts.Labels.{is, since}
use Rattle.dbtg_schema.specs.Inside.Views.{view_labelled, views}
use Rattle.dbtg_schema.specs.declared.queries.Labelled as code
use Rattle.dbtg_schema.proofs.queries.since.Goals as goal

none_since : (r : Role) (ws : List Labelled) → list_any (is r) ws ≡ false → since r ws ≡ []
none_since r [] h = refl
none_since r (w ∷ ws) h = by (is r w) refl (none_since r ws)
  where
    by : (b : Bool) → is r w ≡ b → (list_any (is r) ws ≡ false → since r ws ≡ []) → since r (w ∷ ws) ≡ []
    by true p rest = absurd (true≢false (ap (λ b. b || list_any (is r) ws) (sym p) ∙ h))
    by false p rest = rw p (rest (ap (λ b. b || list_any (is r) ws) (sym p) ∙ h))

-- a word with the role that no other follows
module _ (r : Role) (w : code.Labelled) (back : List code.Labelled) (here : is r (view_labelled w) ≡ true) (last : list_any (is r) (views back) ≡ false) where
  met : (ws : List code.Labelled) (at : ℕ) → drop at ws ≡ w ∷ back → list_any (is r) (views ws) ≡ true
  met [] at h = absurd (empty at h)
    where
      empty : (at : ℕ) → drop at [] ≡ w ∷ back → ⊥
      empty zero g = cc
      empty (suc n) g = cc
  met (v ∷ ws) zero h = ap (λ l. list_any (is r) (views l)) h ∙ ap (λ b. b || list_any (is r) (views back)) here
  met (v ∷ ws) (suc at) h = ap (λ b. is r (view_labelled v) || b) (met ws at h) ∙ or_true (is r (view_labelled v))
    where
      or_true : (b : Bool) → b || true ≡ true
      or_true true = refl
      or_true false = refl

  from_last : (ws : List code.Labelled) (at : ℕ) → drop at ws ≡ w ∷ back → since r (views ws) ≡ views (drop at ws)
  from_last [] at h = absurd (true≢false (sym (met [] at h)))
  from_last (v ∷ ws) zero h = ap (λ l. since r (views l)) h ∙ ap (λ b. cond (b && not (list_any (is r) (views back))) (views (w ∷ back)) (since r (views back))) here ∙ ap (λ b. cond (not b) (views (w ∷ back)) (since r (views back))) last ∙ ap views (sym h)
  from_last (v ∷ ws) (suc at) h = ap (λ b. cond (is r (view_labelled v) && not b) (views (v ∷ ws)) (since r (views ws))) (met ws at h) ∙ neither (is r (view_labelled v)) ∙ from_last ws at h
    where
      neither : (b : Bool) → cond (b && false) (views (v ∷ ws)) (since r (views ws)) ≡ since r (views ws)
      neither true = refl
      neither false = refl

found : (r : Role) (ws : List code.Labelled) (at : ℕ) (d : code.Labelled) → at < length ws → is r (view_labelled (get_or ws at d)) ≡ true → list_any (is r) (views (drop (suc at) ws)) ≡ false → since r (views ws) ≡ views (drop at ws)
found r ws at d within here last = from_last r (get_or ws at d) (drop (suc at) ws) here last ws at (drop-cons ws at d within)

pub returns-then-has_role : goal.returns-then-has_role
returns-then-has_role c =
    let ws = c.args.words.now in
    let at = length ws - 1 - c.loop-behind.behind in
    let within : at < length ws = omega (arith, c.loop-behind-test.true) in
    let next : suc at ≡ length ws - c.loop-behind.behind = omega (arith, c.loop-behind-test.true) in
    let whole : take (length ws - at) (drop at ws) ≡ drop at ws = take_all _ _ (omega (arith, length-drop at ws)) in
    let last : list_any (is c.args.role) (views (drop (suc at) ws)) ≡ false = ap (λ n. list_any (is c.args.role) (views (drop n ws))) next ∙ c.loop-behind.invariant in
    ap views whole ∙ sym (found c.args.role ws at _ within (sym c.has_role.ensures ∙ c.if-has_role.true) last)

pub returns : goal.returns
returns c =
    let ws = c.args.words.now in
    let all : length ws - c.loop-behind.behind ≡ 0 = omega (arith, c.loop-behind-test.false) in
    let none : list_any (is c.args.role) (views ws) ≡ false = ap (λ n. list_any (is c.args.role) (views (drop n ws))) (sym all) ∙ c.loop-behind.invariant in
    ap (λ l. views (take (length ws - length ws) l)) (drop_all (length ws) ws (omega arith)) ∙ nothing (length ws - length ws) ∙ sym (none_since c.args.role (views ws) none)
  where
    nothing : (n : ℕ) → views (take n []) ≡ []
    nothing zero = refl
    nothing (suc n) = refl
