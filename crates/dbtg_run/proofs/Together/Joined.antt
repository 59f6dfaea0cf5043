-- Units that come together at one seat, and what is known where all have come.
use Rattle.std.proofs.Common.{◌≡◌, ℕ, zero, suc, ◌+◌, ◌-◌, ◌<◌, ◌≤◌, eqb, Bool, true, List, [], ◌∷◌, ◌++◌, map, length, cond, Some, refl, sym, ap, ◌∙◌, subst, ⊎_elim, inl, inr, arith, eq-eqb, ne_eqb, All, length-append, get_or}
use Rattle.std.specs.List.{count_by}
use Rattle.std.proofs.lemmas.List.{get_or_append_left, get_or_at, length-map}
use Rattle.std.proofs.lemmas.List.Sums.{sum_by-cons}
use mathlib.Core.Logic.{dite}
use native.Mathlib.Decide.{ℕ_discrete}
use Rattle.dbtg_unit.specs.Database.Laws.Replay.{entries_of, opening_state, replay as replay_entries, unit_of}
use Rattle.dbtg_run.specs.declared.view.About.{About}
use Rattle.dbtg_run.specs.declared.view.SeatUnit.{SeatUnit}
use Rattle.dbtg_run.specs.Views.{Has}
use Rattle.dbtg_run.specs.Inside.Views.{lone, one_if, once_below, times_place}
use Rattle.dbtg_run.specs.Inside.LatchRule.{Sat, Whole, gathered}
use Rattle.dbtg_run.specs.UnitView.{UnitView}
use Rattle.dbtg_run.specs.Inside.Settling.{AreAll, HaveJoined, gathering, resting}
use Rattle.dbtg_run.proofs.TheRule.Ends.{once_le}

-- all but the last, and the last
pub all_less : {A : Type 0} (P : A → Type 0) (xs ys : List A) (x : A) → ys ≡ xs ++ x ∷ [] → All P ys → All P xs × P x
all_less P xs ys x is h = (less, last)
  where
    longer : length ys ≡ length xs + 1
    longer = ap length is ∙ length-append xs (x ∷ [])

    less : All P xs
    less k d l = let n = longer in subst P (ap (λ l. get_or l k d) is ∙ get_or_append_left xs (x ∷ []) d k l) (h k d (omega arith))

    last : P x
    last = let n = longer in subst P (ap (λ l. get_or l (length xs) x) is ∙ get_or_at xs x [] x (length xs) refl) (h (length xs) x (omega arith))

pub one_more : {A : Type 0} (all left ys came : List A) (x : A) → all ≡ ys ++ came → ys ≡ left ++ x ∷ [] → all ≡ left ++ (x ∷ came)
one_more all left ys came x is more = is ∙ (ap (λ l. l ++ came) more ∙ regroup left)
  where
    regroup : (left : List _) → (left ++ x ∷ []) ++ came ≡ left ++ (x ∷ came)
    regroup [] = refl
    regroup (y ∷ ys) = ap (λ l. y ∷ l) (regroup ys)

-- the seat of a unit that holds nothing
abbrev IsSeatOf : UnitView → Sat → Type 0
IsSeatOf u me = (x : Bool) × (me ≡ (lone u.about (resting (u, x)), []))

pub lone_seat : (key about : About) (u : UnitView) (me : Sat) → key ≡ about → u.about ≡ about → IsSeatOf u me → (m : SeatUnit) × (me ≡ (lone key m, []))
lone_seat key about u me known same h = (resting (u, h.0), h.1 ∙ (let same_key : u.about ≡ key = same ∙ sym known in λ j. let y : Sat = (lone (same_key j) (resting (u, h.0)), []) in y))

pub first_joins : (about : About) (u : UnitView) (me : Sat) → u.about ≡ about → 0 < u.unit.number → IsSeatOf u me → HaveJoined about (u ∷ []) me
first_joins about u me same n h = record {
  done = (u, h.0) ∷ [];
  units_are = refl;
  numbered = λ p q. ⊎_elim (λ (s : (u, h.0) ≡ p). subst (λ (y : UnitView × Bool). 0 < y.0.unit.number) s n) (λ r. absurd r) q;
  seat_is = h.1 ∙ (λ j. let y : Sat = (lone (same j) (resting (u, h.0)), []) in y);
}

pub next_joins : (about : About) (u : UnitView) (us : List UnitView) (me other after : Sat) → HaveJoined about us me → u.about ≡ about → 0 < u.unit.number → IsSeatOf u other → after ≡ (gathered me.0 other.0, me.1) → HaveJoined about (u ∷ us) after
next_joins about u us me other after J same n h then = record {
  done = (u, h.0) ∷ J.done;
  units_are = ap (λ l. u ∷ l) J.units_are;
  numbered = λ p q. ⊎_elim (λ (s : (u, h.0) ≡ p). subst (λ (y : UnitView × Bool). 0 < y.0.unit.number) s n) (λ r. J.numbered p r) q;
  seat_is = then ∙ (λ j. let y : Sat = (gathered (J.seat_is j).0 (h.1 j).0, (J.seat_is j).1) in y);
}

pub live_seat : (key about : About) (us : List UnitView) (me : Sat) → key ≡ about → HaveJoined about us me → (ms : List SeatUnit) × (me.0 ≡ record { live = true; about = key; members = ms })
live_seat key about us me known J = (map resting J.done, ap (λ (y : Sat). y.0) J.seat_is ∙ (λ j. gathering (sym known j) (map resting J.done)))

-- WHERE ALL HAVE COME

member_has : (ps : List (UnitView × Bool)) (u : UnitView) → Has u (map (λ (p : UnitView × Bool). p.0) ps) → (p : UnitView × Bool) × Has p ps × Has (resting p) (map resting ps) × (p.0 ≡ u)
member_has [] u h = absurd h
member_has (p ∷ ps) u h = ⊎_elim (λ (s : p.0 ≡ u). (p, inl refl, inl refl, s)) (λ r. let q = member_has ps u r in (q.0, inr q.1, inr q.2, q.3)) h

abbrev times_number : ℕ → List UnitView → ℕ
times_number n us = count_by (λ (u : UnitView). eqb u.unit.number n) us

same_test : (a n : ℕ) → 0 < a → eqb a (suc n) ≡ eqb (a - 1) n
same_test a n l = dite (ℕ_discrete a (suc n))
    (λ e. eq-eqb a (suc n) e ∙ sym (eq-eqb (a - 1) n (omega arith)))
    (λ ne. ne_eqb a (suc n) ne ∙ sym (ne_eqb (a - 1) n (λ q. ne (omega arith))))

times_same : (n : ℕ) (ps : List (UnitView × Bool)) → ((p : UnitView × Bool) → Has p ps → 0 < p.0.unit.number) → times_number (suc n) (map (λ (p : UnitView × Bool). p.0) ps) ≡ times_place n (map resting ps)
times_same n [] h = refl
times_same n (p ∷ ps) h =
    let s = sum_by-cons (λ (u : UnitView). cond (eqb u.unit.number (suc n)) 1 0) p.0 (map (λ (p : UnitView × Bool). p.0) ps) in
    let r = times_same n ps (λ q l. h q (inr l)) in
    let o : one_if (eqb p.0.unit.number (suc n)) ≡ one_if (eqb (p.0.unit.number - 1) n) = ap one_if (same_test p.0.unit.number n (h p (inl refl))) in
    s ∙ (ap (λ k. one_if (eqb p.0.unit.number (suc n)) + k) r ∙ ap (λ k. k + times_place n (map resting ps)) o)

once_inside : (u n : ℕ) → u < n → 0 < once_below u n
once_inside u zero h = absurd (omega arith)
once_inside u (suc n) h = dite (ℕ_discrete n u) (λ e. let z : one_if (eqb n u) ≡ 1 = ap one_if (eq-eqb n u e) in omega arith) (λ ne. let r = once_inside u n (omega arith) in omega arith)

module _ (about : About) (ps : List (UnitView × Bool)) (numbered : (p : UnitView × Bool) → Has p ps → 0 < p.0.unit.number) (W : Whole (gathering about (map resting ps))) (count : length (map resting ps) ≡ about.units) where
  whole_all : AreAll about (map (λ (p : UnitView × Bool). p.0) ps)
  whole_all = record {
    log = W.log;
    history = W.history;
    number = λ u h. let q = member_has ps u h in
        let e = W.each (resting q.0) q.2 in
        let l : 0 < q.0.0.unit.number = numbered q.0 q.1 in
        let i : q.0.0.unit.number - 1 < about.units = e.0 in
        subst (λ (v : UnitView). (0 < v.unit.number) × (v.unit.number ≤ about.units)) q.3 (l, omega arith);
    journal = λ u h. let q = member_has ps u h in
        let e = W.each (resting q.0) q.2 in
        let n = up q.0 (numbered q.0 q.1) in
        subst (λ (v : UnitView). entries_of v.unit.number W.log ≡ v.journal) q.3 (subst (λ k. entries_of k W.log ≡ q.0.0.journal) n e.1);
    unit = λ u h. let q = member_has ps u h in
        let e = W.each (resting q.0) q.2 in
        let n = up q.0 (numbered q.0 q.1) in
        subst (λ (v : UnitView). unit_of (replay_entries about.schema.value about.capacity (opening_state about.schema.value about.units) W.log) v.unit.number ≡ Some v.unit) q.3
        (subst (λ k. unit_of (replay_entries about.schema.value about.capacity (opening_state about.schema.value about.units) W.log) k ≡ Some q.0.0.unit) n e.2);
    once = by_number;
    count = length-map ps (λ (p : UnitView × Bool). p.0) ∙ (sym (length-map ps resting) ∙ count);
  }
    where
      up : (p : UnitView × Bool) → 0 < p.0.unit.number → suc (p.0.unit.number - 1) ≡ p.0.unit.number
      up p l = omega arith

      by_number : (n : ℕ) → 0 < n → n ≤ about.units → times_number n (map (λ (p : UnitView × Bool). p.0) ps) ≡ 1
      by_number zero l m = absurd (omega arith)
      by_number (suc n) l m = let t = times_same n ps numbered in let o = W.once n in let a = (once_le n about.units).0 in let b = once_inside n about.units (omega arith) in omega arith

pub are_all : (key about : About) (us : List UnitView) (me : Sat) → key ≡ about → HaveJoined about us me → about.units ≤ length us → length me.0.members ≤ key.units → (length me.0.members ≡ key.units → Whole me.0) → AreAll about us
are_all key about us me known J least few whole =
    subst (AreAll about) (sym J.units_are) (whole_all about J.done J.numbered (subst (λ (y : Sat). Whole y.0) J.seat_is (whole all)) count)
  where
    members : length me.0.members ≡ length (map resting J.done)
    members = ap (λ (y : Sat). length y.0.members) J.seat_is

    same_units : key.units ≡ about.units
    same_units = ap (λ (a : About). a.units) known

    came : length us ≡ length (map resting J.done)
    came = ap length J.units_are ∙ (length-map J.done (λ (p : UnitView × Bool). p.0) ∙ sym (length-map J.done resting))

    all : length me.0.members ≡ key.units
    all = let a = members in let b = same_units in let c = came in omega arith

    count : length (map resting J.done) ≡ about.units
    count = let a = members in let b = same_units in let c = came in omega arith
