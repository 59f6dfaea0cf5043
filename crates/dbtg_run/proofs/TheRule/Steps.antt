-- Each step on a word keeps the rule: looks, areas taken and left, cells taken and put back.
use Rattle.std.proofs.Common.{◌≡◌, ◌≢◌, ◌⊎◌, ℕ, suc, ◌+◌, ◌-◌, ◌*◌, ◌%◌, ◌<◌, ◌^◌, eqb, Bool, true, false, List, [], ◌∷◌, ◌++◌, reverse, set, get_or, cond, Option, Some, None, inl, inr, refl, sym, ap, ◌∙◌, subst, arith, eq-eqb, ne_eqb}
use Rattle.std.proofs.lemmas.Nat.Bits.{bit_at-lt}
use Rattle.std.specs.Int.{bit_at, bit_not, w64}
use Rattle.std.specs.Int.RustNames.{bit_or, bit_and}
use mathlib.Core.Option.{none}
use prog.Atomic.{either}
use Rattle.atomic_table.specs.Table.{State, step, Act, keeps, stepped, Allows, carried_after, Valid}
use Rattle.atomic_table.proofs.Lists.{exchanged}
use Rattle.dbtg_cells.specs.declared.cell.Cell.{Cell}
use Rattle.dbtg_cells.proofs.Public.{reverse_more}
use Rattle.dbtg_step.specs.Machine.Machine.{StatementProgress}
use Rattle.dbtg_step.specs.Core.Parts.{held_cells_of}
use Rattle.dbtg_step.proofs.Public.{SafeUpdate, leave_is_safe}
use Rattle.dbtg_run.specs.declared.view.About.{About}
use Rattle.dbtg_run.specs.declared.view.SeatUnit.{SeatUnit}
use Rattle.dbtg_run.specs.declared.view.SeatKnowledge.{SeatKnowledge}
use Rattle.dbtg_run.specs.Inside.Views.{lone, latched, times, one_if, with_area, less_area, init}
use Rattle.dbtg_run.specs.Inside.LatchRule.{net, opens, area_count, area_word, progress_of, Sat, AreaOk, LatchRule, FreeAlone, LooksAtArea, TakesArea, LeavesArea}
use Rattle.dbtg_run.proofs.TheRule.Areas.{had, clear, takes_shared, takes_alone, leaves_shared, leaves_alone}
use Rattle.dbtg_run.proofs.TheRule.Facts.{init_more}
use Rattle.dbtg_run.proofs.TheRule.Machines.{latches_is_safe}
use Rattle.dbtg_run.proofs.TheRule.Moves.{laws, is_at_place, small, mine, still, area_moved, free_alone, nobody_shared, nobody_alone}

times_more : (b : ℕ) (xs : List ℕ) (a : ℕ) → times b (xs ++ a ∷ []) ≡ times b xs + one_if (eqb a b)
times_more b [] a = omega arith
times_more b (x ∷ xs) a = let h : times b (xs ++ a ∷ []) ≡ times b xs + one_if (eqb a b) = times_more b xs a in omega arith

-- with one area more, the others are had as they were
latched_more : (b : ℕ) (y x : Bool) (a : ℕ) (m : SeatUnit) → (m.areas ≡ []) ⊎ (m.exclusive ≡ x) → b ≢ a → latched y b (with_area a x m) ≡ latched y b m
latched_more b y x a m how ne = elim how [
  | inl empty ↦ by_none y x m.exclusive empty
  | inr same ↦ by_same y x m.exclusive same
]
  where
    off : times b (m.areas ++ a ∷ []) ≡ times b m.areas
    off = let h : times b (m.areas ++ a ∷ []) ≡ times b m.areas + one_if (eqb a b) = times_more b m.areas a in
        let z : one_if (eqb a b) ≡ 0 = ap one_if (ne_eqb a b (λ e. ne (sym e))) in omega arith

    by_same : (y x e : Bool) → e ≡ x → latched y b (record m { exclusive = x; areas = m.areas ++ a ∷ [] }) ≡ latched y b (record m { exclusive = e })
    by_same true true true q = off
    by_same true false false q = refl
    by_same false true true q = refl
    by_same false false false q = off
    by_same y true false q = absurd (cc (q))
    by_same y false true q = absurd (cc (q))

    by_none : (y x e : Bool) → m.areas ≡ [] → latched y b (record m { exclusive = x; areas = m.areas ++ a ∷ [] }) ≡ latched y b (record m { exclusive = e })
    by_none y x e q = let z : times b m.areas ≡ 0 = ap (times b) q in zeros y x e (off ∙ z) z
      where
        zeros : (y x e : Bool) → times b (m.areas ++ a ∷ []) ≡ 0 → times b m.areas ≡ 0 → latched y b (record m { exclusive = x; areas = m.areas ++ a ∷ [] }) ≡ latched y b (record m { exclusive = e })
        zeros true true true p z = p ∙ sym z
        zeros true true false p z = p
        zeros true false true p z = sym z
        zeros true false false p z = refl
        zeros false true true p z = refl
        zeros false true false p z = sym z
        zeros false false true p z = p
        zeros false false false p z = p ∙ sym z

module _ (about : About) (id : ℕ) (m : SeatUnit) (slots : ℕ) (c : List (ℕ × Option Cell)) where
  abbrev me : Sat
  me = (lone about m, c)

  abbrev Goes : State (Option Cell) SeatKnowledge → ℕ → (ℕ → Sat → Type 0) → ℕ → Type 0
  Goes s i then x = (w : SeatKnowledge) × (a : Act (Option Cell)) × Valid s.homes c a × LatchRule about (stepped s i x id c w a) × then (get_or s.words i 0) (w, carried_after c a)

  less : (a : ℕ) → 1 + a - 1 ≡ a
  less a = omega arith

  -- a look at an area's word
  pub looks_at_area : (a : ℕ) → a < area_count about → Allows (LatchRule about) slots id me (area_word a) (λ n. n) (LooksAtArea (step slots (area_word a) 0 0 none) me)
  looks_at_area a l s K deep at bound = (
    lone about m,
    keeps,
    tt,
    still about s K id m at (area_word a) c,
    (
      refl,
      (K.worded.areas a l).small,
      subst (λ (b : ℕ). FreeAlone b (lone about m) (get_or s.words (area_word a) 0)) (sym (less a)) (free_alone about s K id m at a l),
    ),
  )

  -- what the machine's unit has with one area more
  with_more : (a : ℕ) (x : Bool) → ◌≡◌ {A = StatementProgress (net about)} (record { exclusive = x; areas = a ∷ reverse m.areas; cells = held_cells_of m.held; turning_back = false; ticket = None; linked = 0 }) (progress_of about (with_area a x m))
  with_more a x = λ i. record { exclusive = x; areas = sym (reverse_more m.areas a) i; cells = held_cells_of m.held; turning_back = false; ticket = None; linked = 0 }

  how_latched : (x : Bool) → (m.areas ≡ []) ⊎ (m.exclusive ≡ x) → ((progress_of about m).areas ≡ []) ⊎ (m.exclusive ≡ x)
  how_latched x how = elim how [ inl e ↦ inl (ap reverse e) | inr e ↦ inr e ]

  -- kind 1
  pub takes_area_shared : (a old new : ℕ) → a < area_count about → old < 256 → (m.areas ≡ []) ⊎ (m.exclusive ≡ false) → times a m.areas ≡ 0 → new ≡ bit_or old (2 ^ m.place)
      → Allows (LatchRule about) slots id me (area_word a) (λ n. either (eqb n old) new n) (TakesArea false (step slots (area_word a) old new none) me)
  takes_area_shared a old new l free how blank is s K deep at bound =
      let told : FreeAlone (1 + a - 1) (lone about m) (get_or s.words (area_word a) 0) = subst (λ (b : ℕ). FreeAlone b (lone about m) (get_or s.words (area_word a) 0)) (sym (less a)) (free_alone about s K id m at a l) in
      exchanged (get_or s.words (area_word a) 0) old new (Goes s (area_word a) (TakesArea false (step slots (area_word a) old new none) me))
      (λ hit. (
        lone about (with_area (1 + a - 1) false m),
        keeps,
        tt,
        subst (λ (b : ℕ). LatchRule about record { words = set s.words (area_word a) new; homes = s.homes; views = set s.views id (lone about (with_area b false m)) }) (sym (less a)) (kept hit),
        ((λ _. refl), (λ ne. absurd (ne hit)), told),
      ))
      (λ miss. (lone about m, keeps, tt, still about s K id m at (area_word a) c, ((λ hit. absurd (miss hit)), (λ _. refl), told)))
    where
      one : times a (m.areas ++ a ∷ []) ≡ 1
      one = let h : times a (m.areas ++ a ∷ []) ≡ times a m.areas + one_if (eqb a a) = times_more a m.areas a in
          let o : one_if (eqb a a) ≡ 1 = ap one_if (eq-eqb a a refl) in omega arith

      kept : get_or s.words (area_word a) 0 ≡ old → LatchRule about record { words = set s.words (area_word a) new; homes = s.homes; views = set s.views id (lone about (with_area a false m)) }
      kept hit =
          let my = mine about s K id m at in
          area_moved about s K id m at a new (with_area a false m) l refl refl refl
          (subst (λ (p : StatementProgress (net about)). SafeUpdate (net about) (opens about) K.worded.machine (suc m.place) K.worded.machine.location (Some p)) (with_more a false)
          (latches_is_safe (net about) (laws about s K id m at) (opens about) K.worded.machine (suc m.place) my.state (progress_of about m) false a K.worded.lawful my.found my.progress (how_latched false how)
          (nobody_shared about s K id m at a old l hit free)))
          (λ b y ne. latched_more b y false a m how ne)
          (subst (λ (n : ℕ). AreaOk n (had (λ y u. latched y a (K.all u)) m.place (λ y. latched y a (with_area a false m)))) (sym is)
          (takes_shared old m.place (λ y u. latched y a (K.all u)) (λ y. latched y a (with_area a false m)) (small about s K id m at) free one refl
          (subst (λ (n : ℕ). AreaOk n (λ y u. latched y a (K.all u))) hit (K.worded.areas a l))))

  -- kind 2
  pub takes_area_alone : (a new : ℕ) → a < area_count about → (m.areas ≡ []) ⊎ (m.exclusive ≡ true) → times a m.areas ≡ 0 → new ≡ 2 ^ (8 + m.place)
      → Allows (LatchRule about) slots id me (area_word a) (λ n. either (eqb n 0) new n) (TakesArea true (step slots (area_word a) 0 new none) me)
  takes_area_alone a new l how blank is s K deep at bound =
      let told : FreeAlone (1 + a - 1) (lone about m) (get_or s.words (area_word a) 0) = subst (λ (b : ℕ). FreeAlone b (lone about m) (get_or s.words (area_word a) 0)) (sym (less a)) (free_alone about s K id m at a l) in
      exchanged (get_or s.words (area_word a) 0) 0 new (Goes s (area_word a) (TakesArea true (step slots (area_word a) 0 new none) me))
      (λ hit. (
        lone about (with_area (1 + a - 1) true m),
        keeps,
        tt,
        subst (λ (b : ℕ). LatchRule about record { words = set s.words (area_word a) new; homes = s.homes; views = set s.views id (lone about (with_area b true m)) }) (sym (less a)) (kept hit),
        ((λ _. refl), (λ ne. absurd (ne hit)), told),
      ))
      (λ miss. (lone about m, keeps, tt, still about s K id m at (area_word a) c, ((λ hit. absurd (miss hit)), (λ _. refl), told)))
    where
      one : times a (m.areas ++ a ∷ []) ≡ 1
      one = let h : times a (m.areas ++ a ∷ []) ≡ times a m.areas + one_if (eqb a a) = times_more a m.areas a in
          let o : one_if (eqb a a) ≡ 1 = ap one_if (eq-eqb a a refl) in omega arith

      kept : get_or s.words (area_word a) 0 ≡ 0 → LatchRule about record { words = set s.words (area_word a) new; homes = s.homes; views = set s.views id (lone about (with_area a true m)) }
      kept hit =
          let my = mine about s K id m at in
          area_moved about s K id m at a new (with_area a true m) l refl refl refl
          (subst (λ (p : StatementProgress (net about)). SafeUpdate (net about) (opens about) K.worded.machine (suc m.place) K.worded.machine.location (Some p)) (with_more a true)
          (latches_is_safe (net about) (laws about s K id m at) (opens about) K.worded.machine (suc m.place) my.state (progress_of about m) true a K.worded.lawful my.found my.progress (how_latched true how)
          (nobody_alone about s K id m at a l hit)))
          (λ b y ne. latched_more b y true a m how ne)
          (subst (λ (n : ℕ). AreaOk n (had (λ y u. latched y a (K.all u)) m.place (λ y. latched y a (with_area a true m)))) (sym is)
          (takes_alone m.place (λ y u. latched y a (K.all u)) (λ y. latched y a (with_area a true m)) (small about s K id m at) one refl
          (subst (λ (n : ℕ). AreaOk n (λ y u. latched y a (K.all u))) hit (K.worded.areas a l))))

  -- kind 6
  pub leaves_area : (a k : ℕ) (as' : List ℕ) → a < area_count about → m.areas ≡ as' ++ a ∷ [] → m.held ≡ [] → k ≡ bit_not w64 (1 * 2 ^ (cond m.exclusive (8 + m.place) m.place) % 2 ^ 64)
      → Allows (LatchRule about) slots id me (area_word a) (λ n. bit_and n k) (LeavesArea (step slots (area_word a) k 0 none) me)
  leaves_area a k as' l is empty mask s K deep at bound = (
    lone about (less_area m),
    keeps,
    tt,
    subst (λ (w : SeatUnit). LatchRule about record { words = set s.words (area_word a) (bit_and (get_or s.words (area_word a) 0) k); homes = s.homes; views = set s.views id (lone about w) }) same kept,
    refl,
  )
    where
      left : SeatUnit
      left = record m { areas = as' }

      same : left ≡ less_area m
      same = λ i. record m { areas = (sym (init_more as' a) ∙ ap init (sym is)) i }

      lt8 : m.place < 8
      lt8 = small about s K id m at

      all_one : times a m.areas ≡ times a as' + 1
      all_one = ap (times a) is ∙ (let h : times a (as' ++ a ∷ []) ≡ times a as' + one_if (eqb a a) = times_more a as' a in let o : one_if (eqb a a) ≡ 1 = ap one_if (eq-eqb a a refl) in omega arith)

      -- it is had once
      once : times a as' ≡ 0
      once = by m.exclusive refl
        where
          known : (x : Bool) → latched x a (K.all m.place) ≡ latched x a m
          known x = ap (λ (z : SeatUnit). latched x a z) (is_at_place about s K id m at)

          by : (b : Bool) → m.exclusive ≡ b → times a as' ≡ 0
          by true e = let t : latched true a m ≡ times a m.areas = ap (λ b. cond b (times a m.areas) 0) e in
              let o : bit_at (get_or s.words (area_word a) 0) (8 + m.place) ≡ latched true a (K.all m.place) = (K.worded.areas a l).alone m.place lt8 in
              let b : bit_at (get_or s.words (area_word a) 0) (8 + m.place) < 2 = bit_at-lt (get_or s.words (area_word a) 0) (8 + m.place) in
              let k : latched true a (K.all m.place) ≡ latched true a m = known true in omega (arith, all_one)
          by false e = let t : latched false a m ≡ times a m.areas = ap (λ b. cond b 0 (times a m.areas)) e in
              let o : bit_at (get_or s.words (area_word a) 0) m.place ≡ latched false a (K.all m.place) = (K.worded.areas a l).shared m.place lt8 in
              let b : bit_at (get_or s.words (area_word a) 0) m.place < 2 = bit_at-lt (get_or s.words (area_word a) 0) m.place in
              let k : latched false a (K.all m.place) ≡ latched false a m = known false in omega (arith, all_one)

      off : (b : Bool) (x : Bool) → latched x a (record m { exclusive = b; areas = as' }) ≡ 0
      off true true = once
      off true false = refl
      off false true = refl
      off false false = once

      none_left : (x : Bool) → latched x a left ≡ 0
      none_left x = off m.exclusive x

      before : (x b : Bool) → m.exclusive ≡ b → latched x a (K.all m.place) ≡ latched x a (record m { exclusive = b })
      before x b e = ap (λ (z : SeatUnit). latched x a z) (is_at_place about s K id m at) ∙ ap (λ b. latched x a (record m { exclusive = b })) e

      cleared : (b : Bool) → m.exclusive ≡ b → AreaOk (clear (get_or s.words (area_word a) 0) (cond b (8 + m.place) m.place)) (had (λ y u. latched y a (K.all u)) m.place (λ y. latched y a left))
      cleared true e = leaves_alone (get_or s.words (area_word a) 0) m.place (λ y u. latched y a (K.all u)) (λ y. latched y a left) lt8 (none_left true) (none_left false ∙ sym (before false true e)) (K.worded.areas a l)
      cleared false e = leaves_shared (get_or s.words (area_word a) 0) m.place (λ y u. latched y a (K.all u)) (λ y. latched y a left) lt8 (none_left false) (none_left true ∙ sym (before true false e)) (K.worded.areas a l)

      others : (b : ℕ) (y : Bool) → b ≢ a → latched y b left ≡ latched y b m
      others b y ne = by y
        where
          less_same : times b as' ≡ times b m.areas
          less_same = let h : times b (as' ++ a ∷ []) ≡ times b as' + one_if (eqb a b) = times_more b as' a in
              let z : one_if (eqb a b) ≡ 0 = ap one_if (ne_eqb a b (λ e. ne (sym e))) in let q : times b m.areas ≡ times b (as' ++ a ∷ []) = ap (times b) is in omega arith

          by : (y : Bool) → latched y b left ≡ latched y b m
          by true = ap (λ k. cond m.exclusive k 0) less_same
          by false = ap (λ k. cond m.exclusive 0 k) less_same

      kept : LatchRule about record { words = set s.words (area_word a) (bit_and (get_or s.words (area_word a) 0) k); homes = s.homes; views = set s.views id (lone about left) }
      kept =
          let my = mine about s K id m at in
          area_moved about s K id m at a (bit_and (get_or s.words (area_word a) 0) k) left l refl refl refl
          (leave_is_safe (net about) (laws about s K id m at) (opens about) K.worded.machine (suc m.place) my.state (progress_of about m) (progress_of about left) a K.worded.lawful my.found my.progress
          (ap held_cells_of empty) (ap held_cells_of empty) (ap reverse is ∙ reverse_more as' a) refl refl)
          others
          (subst (λ (z : ℕ). AreaOk (bit_and (get_or s.words (area_word a) 0) z) (had (λ y u. latched y a (K.all u)) m.place (λ y. latched y a left))) (sym mask) (cleared m.exclusive refl))
