-- Functions changed at one number, sums, and views of which one changes.
use Rattle.std.proofs.Common.{◌≡◌, ◌≢◌, ℕ, zero, suc, ◌+◌, ◌*◌, ◌<◌, ◌≤◌, eqb, List, [], ◌∷◌, ◌++◌, length, set, cond, true, refl, sym, ap, ◌∙◌, subst, ⊎_elim, inl, arith, eq-eqb, ne_eqb}
use mathlib.Core.Logic.{dite}
use mathlib.Core.Option.{some, some-ne-none, some-injective}
use native.Mathlib.Decide.{ℕ_discrete}
use lib.ListN.{get_elem?}
use Rattle.atomic_table.proofs.Lists.{at_set}
use Rattle.dbtg_run.specs.declared.view.About.{About}
use Rattle.dbtg_run.specs.declared.view.SeatUnit.{SeatUnit}
use Rattle.dbtg_run.specs.declared.view.SeatKnowledge.{SeatKnowledge}
use Rattle.dbtg_run.specs.Views.{Has}
use Rattle.dbtg_run.specs.Inside.Views.{lone, total, total_below, put, one_if, Sits, Seated, times_place}
use Rattle.dbtg_unit.specs.declared.limits.TheConstants.{MOST_STATEMENTS}

module _ {A : Type 0} where
  pub put_here : (f : ℕ → A) (k : ℕ) (x : A) → put f k x k ≡ x
  put_here f k x = ap (λ b. cond b x (f k)) (eq-eqb k k refl)

  pub put_else : (f : ℕ → A) (k : ℕ) (x : A) (j : ℕ) → j ≢ k → put f k x j ≡ f j
  put_else f k x j n = ap (λ b. cond b x (f j)) (ne_eqb j k n)

  -- a fact at each number, where one number has a new value
  pub each_put : (P : ℕ → A → Type 0) (f : ℕ → A) (k : ℕ) (x : A) → P k x → ((j : ℕ) → j ≢ k → P j (f j)) → (j : ℕ) → P j (put f k x j)
  each_put P f k x here other j = dite (ℕ_discrete j k)
      (λ e. subst (λ (i : ℕ). P i (put f k x i)) (sym e) (subst (P k) (sym (put_here f k x)) here))
      (λ n. subst (P j) (sym (put_else f k x j n)) (other j n))

  pub total_set : (f : A → ℕ) (xs : List A) (i : ℕ) (v w : A) → get_elem? xs i ≡ some v → total f (set xs i w) + f v ≡ total f xs + f w
  total_set f [] i v w e = absurd (some-ne-none v (sym e))
  total_set f (x ∷ xs) zero v w e = let same : f x ≡ f v = ap f (some-injective x v e) in omega arith
  total_set f (x ∷ xs) (suc i) v w e = let h : total f (set xs i w) + f v ≡ total f xs + f w = total_set f xs i v w e in omega arith

  pub total_snoc : (f : A → ℕ) (xs : List A) (x : A) → total f (xs ++ x ∷ []) ≡ total f xs + f x
  total_snoc f [] x = omega arith
  total_snoc f (y ∷ xs) x = omega (arith, total_snoc f xs x)

  pub total_at : (f : A → ℕ) (xs : List A) (i : ℕ) (v : A) → get_elem? xs i ≡ some v → f v ≤ total f xs
  total_at f [] i v e = absurd (some-ne-none v (sym e))
  total_at f (x ∷ xs) zero v e = let same : f x ≡ f v = ap f (some-injective x v e) in omega arith
  total_at f (x ∷ xs) (suc i) v e = omega (arith, total_at f xs i v e)

  total_none : (f g : A → ℕ) → ((x : A) → f x ≡ 0 → g x ≡ 0) → (xs : List A) → total f xs ≡ 0 → total g xs ≡ 0
  total_none f g h [] e = refl
  total_none f g h (x ∷ xs) e = let a : g x ≡ 0 = h x (omega arith) in let b : total g xs ≡ 0 = total_none f g h xs (omega arith) in omega arith

  -- where one has all of f, it has all of g
  pub total_alone : (f g : A → ℕ) → ((x : A) → f x ≡ 0 → g x ≡ 0) → (xs : List A) (i : ℕ) (v : A) → get_elem? xs i ≡ some v → total f xs ≡ f v → total g xs ≡ g v
  total_alone f g h [] i v at e = absurd (some-ne-none v (sym at))
  total_alone f g h (x ∷ xs) zero v at e =
      let same : x ≡ v = some-injective x v at in
      let fs : f x ≡ f v = ap f same in let gs : g x ≡ g v = ap g same in
      let none : total g xs ≡ 0 = total_none f g h xs (omega arith) in omega arith
  total_alone f g h (x ∷ xs) (suc i) v at e =
      let le : f v ≤ total f xs = total_at f xs i v at in
      let a : g x ≡ 0 = h x (omega arith) in
      let b : total g xs ≡ g v = total_alone f g h xs i v at (omega arith) in omega arith

pub below_put_above : (f : ℕ → ℕ) (k x n : ℕ) → n ≤ k → total_below (put f k x) n ≡ total_below f n
below_put_above f k x zero h = refl
below_put_above f k x (suc n) h =
    let a : total_below (put f k x) n ≡ total_below f n = below_put_above f k x n (omega arith) in
    let b : put f k x n ≡ f n = put_else f k x n (λ e. omega arith) in omega arith

pub below_put : (f : ℕ → ℕ) (k x n : ℕ) → k < n → total_below (put f k x) n + f k ≡ total_below f n + x
below_put f k x zero h = absurd (omega arith)
below_put f k x (suc n) h = dite (ℕ_discrete k n)
    (λ e. let a : total_below (put f k x) n ≡ total_below f n = below_put_above f k x n (omega arith) in
    let b : put f k x n ≡ x = subst (λ (i : ℕ). put f k x i ≡ x) e (put_here f k x) in
    let c : f k ≡ f n = ap f e in omega arith)
    (λ ne. let a : total_below (put f k x) n + f k ≡ total_below f n + x = below_put f k x n (omega arith) in
    let b : put f k x n ≡ f n = put_else f k x n (λ e. ne (sym e)) in omega arith)

pub below_le : (f : ℕ → ℕ) (n : ℕ) → ((u : ℕ) → u < n → f u ≤ MOST_STATEMENTS) → total_below f n ≤ MOST_STATEMENTS * n
below_le f zero h = omega arith
below_le f (suc n) h = let a : total_below f n ≤ MOST_STATEMENTS * n = below_le f n (λ u l. h u (omega arith)) in let c : f n ≤ MOST_STATEMENTS = h n (omega arith) in omega arith

pub below_same : (f g : ℕ → ℕ) (n : ℕ) → ((u : ℕ) → f u ≡ g u) → total_below f n ≡ total_below g n
below_same f g zero h = refl
below_same f g (suc n) h = omega (arith, below_same f g n h, h n)

-- ---- the views, where the seat id has the unit of m, which becomes w
module _ (about : About) (all : ℕ → SeatUnit) (seat : ℕ → ℕ) (views : List SeatKnowledge) (id : ℕ) (m w : SeatUnit) (at : get_elem? views id ≡ some (lone about m)) (same : w.place ≡ m.place) where
  pub live_set : ((id : ℕ) (v : SeatKnowledge) → get_elem? views id ≡ some v → v.live ≡ true → v.about ≡ about) → (i : ℕ) (v : SeatKnowledge) → get_elem? (set views id (lone about w)) i ≡ some v → v.live ≡ true → v.about ≡ about
  live_set h i v e l = ⊎_elim (λ (t : (i ≡ id) × (lone about w ≡ v)). sym (ap (λ (x : SeatKnowledge). x.about) t.1)) (λ (t : (i ≢ id) × (get_elem? views i ≡ some v)). h i v t.1 l) (at_set views id i (lone about w) v e)

  pub seated_set : seat m.place ≡ id → m.place < about.units → ((id : ℕ) (v : SeatKnowledge) (m : SeatUnit) → get_elem? views id ≡ some v → Has m v.members → Sits about all seat id m)
      → (i : ℕ) (v : SeatKnowledge) (x : SeatUnit) → get_elem? (set views id (lone about w)) i ≡ some v → Has x v.members → Sits about (put all m.place w) seat i x
  seated_set here inside h i v x e has = ⊎_elim
      (λ (t : (i ≡ id) × (lone about w ≡ v)). mine t.0 (subst (λ (y : SeatKnowledge). Has x y.members) (sym t.1) has))
      (λ (t : (i ≢ id) × (get_elem? views i ≡ some v)). let s = h i v x t.1 has in record {
        same = s.same ∙ sym (put_else all m.place w x.place (λ k. t.0 (sym s.here ∙ ap seat k ∙ here)));
        here = s.here;
        inside = s.inside;
      })
      (at_set views id i (lone about w) v e)
    where
      mine : i ≡ id → Has x (w ∷ []) → Sits about (put all m.place w) seat i x
      mine k q = ⊎_elim (λ (eq : w ≡ x). subst (Sits about (put all m.place w) seat i) eq record {
        same = sym (put_here all m.place w) ∙ ap (put all m.place w) (sym same);
        here = ap seat same ∙ here ∙ sym k;
        inside = subst (λ (n : ℕ). n < about.units) (sym same) inside;
      }) (λ none. absurd none) q

  pub once_set : (u : ℕ) → total (λ (v : SeatKnowledge). times_place u v.members) (set views id (lone about w)) ≡ total (λ (v : SeatKnowledge). times_place u v.members) views
  once_set u =
      let h = total_set (λ (v : SeatKnowledge). times_place u v.members) views id (lone about m) (lone about w) at in
      let k : one_if (eqb w.place u) ≡ one_if (eqb m.place u) = ap (λ n. one_if (eqb n u)) same in omega arith

  pub there_set : total (λ (v : SeatKnowledge). length v.members) (set views id (lone about w)) ≡ total (λ (v : SeatKnowledge). length v.members) views
  there_set = let h = total_set (λ (v : SeatKnowledge). length v.members) views id (lone about m) (lone about w) at in omega arith

-- the seat id, which has the unit of m and no other, has it as w
pub seats_changed : (about : About) (all : ℕ → SeatUnit) (views : List SeatKnowledge) (id : ℕ) (m w : SeatUnit) → get_elem? views id ≡ some (lone about m) → w.place ≡ m.place → Seated about all views → Seated about (put all m.place w) (set views id (lone about w))
seats_changed about all views id m w at same S =
    let sits : Sits about all S.seat id m = S.seated id (lone about m) m at (inl refl) in
    record {
      seat = S.seat;
      live = live_set about all S.seat views id m w at same S.live;
      seated = seated_set about all S.seat views id m w at same sits.here sits.inside S.seated;
      each_once = λ u. once_set about all S.seat views id m w at same u ∙ S.each_once u;
      all_there = there_set about all S.seat views id m w at same ∙ S.all_there;
    }
