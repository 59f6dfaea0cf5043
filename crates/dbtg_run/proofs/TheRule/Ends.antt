-- Seats that are cut and joined, and what the seat with all units learns.
use Rattle.std.proofs.Common.{◌≡◌, ◌≢◌, ◌⊎◌, ℕ, zero, suc, ◌≤◌, eqb, List, [], ◌∷◌, ◌++◌, length, set, get_or, true, false, true≢false, Option, Some, refl, sym, ap, ◌∙◌, subst, ⊎_elim, inl, inr, arith, eq-eqb, ne_eqb}
use Rattle.std.proofs.lemmas.List.{set-get_or}
use mathlib.Core.Logic.{dite}
use mathlib.Core.Option.{some, none, some-ne-none, some-injective}
use native.Mathlib.Decide.{ℕ_discrete}
use lib.ListN.{get_elem?}
use Rattle.atomic_table.specs.Table.{step, keeps, stepped, Allows, Splits, Joins}
use Rattle.atomic_table.proofs.Lists.{at_set, set_again}
use Rattle.dbtg_cells.specs.declared.cell.Cell.{Cell}
use Rattle.dbtg_run.specs.declared.view.About.{About}
use Rattle.dbtg_run.specs.declared.view.SeatUnit.{SeatUnit}
use Rattle.dbtg_run.specs.declared.view.SeatKnowledge.{SeatKnowledge}
use Rattle.dbtg_run.specs.Views.{Has}
use Rattle.dbtg_run.specs.Inside.Views.{lone, total, put, one_if, once_below, times_place, Sits, Seated}
use Rattle.dbtg_run.specs.Inside.LatchRule.{LatchRule, vacated, Whole, Learns}
use Rattle.dbtg_run.proofs.TheRule.Base.{put_here, put_else, total_set, total_snoc, total_at, total_alone}
use Rattle.dbtg_run.proofs.TheRule.History.{is_history, unit_is}

off : false ≡ true → ⊥
off e = true≢false (sym e)

at_end : {A : Type 0} (l : List A) (a b : A) (j : ℕ) → get_elem? (l ++ a ∷ []) j ≡ some b → (get_elem? l j ≡ some b) ⊎ ((j ≡ length l) × (a ≡ b))
at_end [] a b zero e = inr (refl, some-injective a b e)
at_end [] a b (suc j) e = absurd (some-ne-none b (sym e))
at_end (x ∷ xs) a b zero e = inl e
at_end (x ∷ xs) a b (suc j) e = ⊎_elim (λ h. inl h) (λ (t : (j ≡ length xs) × (a ≡ b)). inr (ap suc t.0, t.1)) (at_end xs a b j e)

pub once_le : (u n : ℕ) → (once_below u n ≤ 1) × (n ≤ u → once_below u n ≡ 0)
once_le u zero = (omega arith, λ _. refl)
once_le u (suc n) = let r = once_le u n in let p = r.0 in dite (ℕ_discrete n u)
    (λ e. let z : once_below u n ≡ 0 = r.1 (omega arith) in let o : one_if (eqb n u) ≡ 1 = ap one_if (eq-eqb n u e) in (omega arith, λ l. absurd (omega arith)))
    (λ ne. let o : one_if (eqb n u) ≡ 0 = ap one_if (ne_eqb n u ne) in (omega arith, λ l. let z : once_below u n ≡ 0 = r.1 (omega arith) in omega arith))

unit_absent : (u : ℕ) (ms : List SeatUnit) (x : SeatUnit) → times_place u ms ≡ 0 → Has x ms → x.place ≢ u
unit_absent u [] x z h e = absurd h
unit_absent u (m ∷ ms) x z h e = ⊎_elim
    (λ (s : m ≡ x). let y : one_if (eqb m.place u) ≡ 1 = ap one_if (eq-eqb m.place u (ap (λ (q : SeatUnit). q.place) s ∙ e)) in absurd (omega arith))
    (λ r. unit_absent u ms x (omega arith) r e) h

no_members : (u : ℕ) (v : SeatKnowledge) → length v.members ≡ 0 → times_place u v.members ≡ 0
no_members u v e = go v.members e
  where
    go : (ms : List SeatUnit) → length ms ≡ 0 → times_place u ms ≡ 0
    go [] e = refl
    go (m ∷ ms) e = absurd (omega arith)

module _ (about : About) (all : ℕ → SeatUnit) (vs : List SeatKnowledge) (K : Seated about all vs) where
  -- kind 7
  pub cuts : (id : ℕ) (m : SeatUnit) (ms : List SeatUnit) → get_elem? vs id ≡ some (record { live = true; about = about; members = m ∷ ms }) → Seated about all (set vs id (record { live = true; about = about; members = ms }) ++ lone about m ∷ [])
  cuts id m ms at = record {
    seat = put K.seat m.place (length views);
    live = λ i v e l. ⊎_elim
        (λ (h : get_elem? views i ≡ some v). ⊎_elim (λ (t : (i ≡ id) × (left ≡ v)). sym (ap (λ (x : SeatKnowledge). x.about) t.1)) (λ (t : (i ≢ id) × (get_elem? vs i ≡ some v)). K.live i v t.1 l) (at_set vs id i left v h))
        (λ (t : (i ≡ length views) × (lone about m ≡ v)). sym (ap (λ (x : SeatKnowledge). x.about) t.1))
        (at_end views (lone about m) v i e);
    seated = seats;
    each_once = λ u. let a = total_set (λ (v : SeatKnowledge). times_place u v.members) vs id whole left at in let b = total_snoc (λ (v : SeatKnowledge). times_place u v.members) views (lone about m) in let c = K.each_once u in omega arith;
    all_there = let a = total_set (λ (v : SeatKnowledge). length v.members) vs id whole left at in let b = total_snoc (λ (v : SeatKnowledge). length v.members) views (lone about m) in let c = K.all_there in omega arith;
  }
    where
      whole : SeatKnowledge
      whole = record { live = true; about = about; members = m ∷ ms }

      left : SeatKnowledge
      left = record { live = true; about = about; members = ms }

      views : List SeatKnowledge
      views = set vs id (record { live = true; about = about; members = ms })

      mine : Sits about all K.seat id m
      mine = K.seated id (record { live = true; about = about; members = m ∷ ms }) m at (inl refl)

      apart : (x : SeatUnit) → Has x ms → x.place ≢ m.place
      apart x h = unit_absent m.place ms x
          (let a : times_place m.place (m ∷ ms) ≤ total (λ (v : SeatKnowledge). times_place m.place v.members) vs = total_at (λ (v : SeatKnowledge). times_place m.place v.members) vs id (record { live = true; about = about; members = m ∷ ms }) at in
          let b = K.each_once m.place in let c = (once_le m.place about.units).0 in let d : one_if (eqb m.place m.place) ≡ 1 = ap one_if (eq-eqb m.place m.place refl) in omega arith) h

      sit : (i : ℕ) (x : SeatUnit) → x.place ≢ m.place → Sits about all K.seat i x → Sits about all (put K.seat m.place (length (set vs id (record { live = true; about = about; members = ms })))) i x
      sit i x ne h = record { same = h.same; here = put_else K.seat m.place (length (set vs id (record { live = true; about = about; members = ms }))) x.place ne ∙ h.here; inside = h.inside }

      seats : (i : ℕ) (v : SeatKnowledge) (x : SeatUnit) → get_elem? (set vs id (record { live = true; about = about; members = ms }) ++ lone about m ∷ []) i ≡ some v → Has x v.members → Sits about all (put K.seat m.place (length (set vs id (record { live = true; about = about; members = ms })))) i x
      seats i v x e has = ⊎_elim
          (λ (h : get_elem? (set vs id (record { live = true; about = about; members = ms })) i ≡ some v). ⊎_elim
          (λ (t : (i ≡ id) × (record { live = true; about = about; members = ms } ≡ v)). let hx : Has x ms = subst (λ (y : SeatKnowledge). Has x y.members) (sym t.1) has in
          sit i x (apart x hx) (subst (λ (j : ℕ). Sits about all K.seat j x) (sym t.0) (K.seated id (record { live = true; about = about; members = m ∷ ms }) x at (inr hx))))
          (λ (t : (i ≢ id) × (get_elem? vs i ≡ some v)). let h = K.seated i v x t.1 has in sit i x (λ q. t.0 (sym h.here ∙ ap K.seat q ∙ mine.here)) h)
          (at_set vs id i (record { live = true; about = about; members = ms }) v h))
          (λ (t : (i ≡ length (set vs id (record { live = true; about = about; members = ms }))) × (lone about m ≡ v)). ⊎_elim
          (λ (q : m ≡ x). subst (Sits about all (put K.seat m.place (length (set vs id (record { live = true; about = about; members = ms })))) i) q record {
            same = mine.same;
            here = put_here K.seat m.place (length (set vs id (record { live = true; about = about; members = ms }))) ∙ sym t.0;
            inside = mine.inside;
          })
          (λ none. absurd none)
          (subst (λ (y : SeatKnowledge). Has x y.members) (sym t.1) has))
          (at_end (set vs id (record { live = true; about = about; members = ms })) (lone about m) v i e)

  -- kind 8
  pub unites : (id other : ℕ) (m : SeatUnit) (ms : List SeatUnit) → get_elem? vs id ≡ some (record { live = true; about = about; members = ms }) → (other ≡ id → ⊥) → get_elem? (set vs id (record { live = true; about = about; members = m ∷ ms })) other ≡ some (lone about m)
      → Seated about all (set (set vs id (record { live = true; about = about; members = m ∷ ms })) other vacated)
  unites id other m ms at ne there = record {
    seat = put K.seat m.place id;
    live = λ i v e l. ⊎_elim
        (λ (t : (i ≡ other) × (vacated ≡ v)). absurd (off (ap (λ (x : SeatKnowledge). x.live) t.1 ∙ l)))
        (λ (t : (i ≢ other) × (get_elem? views i ≡ some v)). ⊎_elim (λ (q : (i ≡ id) × (both ≡ v)). sym (ap (λ (x : SeatKnowledge). x.about) q.1)) (λ (q : (i ≢ id) × (get_elem? vs i ≡ some v)). K.live i v q.1 l) (at_set vs id i both v t.1))
        (at_set views other i vacated v e);
    seated = λ i v x e has. ⊎_elim
        (λ (t : (i ≡ other) × (vacated ≡ v)). absurd (subst (λ (y : SeatKnowledge). Has x y.members) (sym t.1) has))
        (λ (t : (i ≢ other) × (get_elem? views i ≡ some v)). ⊎_elim
        (λ (q : (i ≡ id) × (both ≡ v)). ⊎_elim
        (λ (r : m ≡ x). subst (Sits about all (put K.seat m.place id) i) r record { same = mine.same; here = put_here K.seat m.place id ∙ sym q.0; inside = mine.inside })
        (λ (r : Has x ms). let h = K.seated id left x at r in sit i x (λ p. ne (sym mine.here ∙ (sym (ap K.seat p) ∙ h.here))) (subst (λ (j : ℕ). Sits about all K.seat j x) (sym q.0) h))
        (subst (λ (y : SeatKnowledge). Has x y.members) (sym q.1) has))
        (λ (q : (i ≢ id) × (get_elem? vs i ≡ some v)). let h = K.seated i v x q.1 has in sit i x (λ p. t.0 (sym h.here ∙ ap K.seat p ∙ mine.here)) h)
        (at_set vs id i both v t.1))
        (at_set views other i vacated v e);
    each_once = λ u. let a = total_set (λ (v : SeatKnowledge). times_place u v.members) vs id left both at in let b = total_set (λ (v : SeatKnowledge). times_place u v.members) views other (lone about m) vacated there in let c = K.each_once u in omega arith;
    all_there = let a = total_set (λ (v : SeatKnowledge). length v.members) vs id left both at in let b = total_set (λ (v : SeatKnowledge). length v.members) views other (lone about m) vacated there in let c = K.all_there in omega arith;
  }
    where
      left : SeatKnowledge
      left = record { live = true; about = about; members = ms }

      both : SeatKnowledge
      both = record { live = true; about = about; members = m ∷ ms }

      views : List SeatKnowledge
      views = set vs id (record { live = true; about = about; members = m ∷ ms })

      was : get_elem? vs other ≡ some (lone about m)
      was = ⊎_elim (λ (t : (other ≡ id) × (record { live = true; about = about; members = m ∷ ms } ≡ lone about m)). absurd (ne t.0)) (λ (t : (other ≢ id) × (get_elem? vs other ≡ some (lone about m))). t.1)
          (at_set vs id other (record { live = true; about = about; members = m ∷ ms }) (lone about m) there)

      mine : Sits about all K.seat other m
      mine = K.seated other (lone about m) m was (inl refl)

      sit : (i : ℕ) (x : SeatUnit) → x.place ≢ m.place → Sits about all K.seat i x → Sits about all (put K.seat m.place id) i x
      sit i x n h = record { same = h.same; here = put_else K.seat m.place id x.place n ∙ h.here; inside = h.inside }

module _ (about : About) where
  -- kind 7
  pub splits : (id : ℕ) (m : SeatUnit) (ms : List SeatUnit) → Splits (LatchRule about) id (record { live = true; about = about; members = m ∷ ms }) (record { live = true; about = about; members = ms }) (lone about m)
  splits id m ms s K at = record { sound = K.sound; few = K.few; all = K.all; seats = cuts about K.all s.views K.seats id m ms at; worded = K.worded }

  -- kind 8
  pub joins : (id other : ℕ) (m : SeatUnit) (ms : List SeatUnit) → Joins (LatchRule about) id (record { live = true; about = about; members = ms }) other (lone about m) (record { live = true; about = about; members = m ∷ ms }) vacated
  joins id other m ms s K at ne there = record { sound = K.sound; few = K.few; all = K.all; seats = unites about K.all s.views K.seats id other m ms at ne there; worded = K.worded }

  -- the seat with all units learns the history
  pub seat_learns : (id slots : ℕ) (ms : List SeatUnit) (c : List (ℕ × Option Cell)) → Allows (LatchRule about) slots id (record { live = true; about = about; members = ms }, c) 0 (λ n. n) (Learns (step slots 0 0 0 none) (record { live = true; about = about; members = ms }, c))
  seat_learns id slots ms c s K deep at bound = (record { live = true; about = about; members = ms }, keeps, tt, same, (refl, λ _. (few, whole)))
    where
      same : LatchRule about (stepped s 0 (get_or s.words 0 0) id c (record { live = true; about = about; members = ms }) keeps)
      same = subst (LatchRule about) (λ j. record { words = sym (set-get_or s.words 0 0) j; homes = s.homes; views = sym (set_again s.views id (record { live = true; about = about; members = ms }) at) j }) K

      few : length ms ≤ about.units
      few = let a = total_at (λ (v : SeatKnowledge). length v.members) s.views id (record { live = true; about = about; members = ms }) at in let b = K.seats.all_there in omega arith

      whole : length ms ≡ about.units → Whole (record { live = true; about = about; members = ms })
      whole e = record {
        log = K.worded.log;
        history = is_history about s.words s.homes K.all K.worded;
        each = λ m h. let t = K.seats.seated id (record { live = true; about = about; members = ms }) m at h in (
          t.inside,
          K.worded.journal m.place t.inside ∙ ap (λ (y : SeatUnit). y.journal) (sym t.same),
          unit_is about s.words s.homes K.all K.worded m.place t.inside ∙ ap (λ (y : SeatUnit). Some y.unit) (sym t.same),
        );
        once = λ u. sym (total_alone (λ (v : SeatKnowledge). length v.members) (λ (v : SeatKnowledge). times_place u v.members) (no_members u) s.views id (record { live = true; about = about; members = ms }) at (K.seats.all_there ∙ sym e)) ∙ K.seats.each_once u;
      }
