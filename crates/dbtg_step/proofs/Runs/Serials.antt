-- A unit that is stepped alone comes to rest with its script made; and so do all, one after another.
use Rattle.std.proofs.Common.{ℕ, zero, suc, ◌<◌, ◌≤◌, ◌≡◌, ◌≢◌, List, [], ◌∷◌, ◌++◌, length, map, Option, Some, None, inl, inr, refl, sym, ap, ◌∙◌, subst, arith, append_assoc, append-nil}
use Rattle.std.specs.Prelude.{⊤}
use Rattle.std.proofs.lemmas.Bool.Decides.{eqb_tells}
use Rattle.std.proofs.lemmas.List.{map-append}
use Rattle.dbtg_schema.specs.Lists.{Lists}
use Rattle.dbtg_schema.specs.Sound.{IsSound}
use Rattle.dbtg_cells.specs.Names.{name_below}
use Rattle.dbtg_unit.specs.declared.moves.Move.{Move}
use Rattle.dbtg_unit.specs.declared.moves.Move.TheVariants.{Step}
use Rattle.dbtg_unit.specs.declared.statement.Statement.{Statement}
use Rattle.dbtg_step.specs.Machine.SequentialDatabase.{SequentialDatabase, unit_at}
use Rattle.dbtg_step.specs.Machine.Machine.{HistoryEntry, StatementProgress, SequentialState, State, UnitState}
use Rattle.dbtg_step.specs.Inside.Step.{IfMoved}
use Rattle.dbtg_step.specs.Machine.Step.{IsIdle, MovedTo, run, state_after, step, step_if_unit, step_of_unit, transition}
use Rattle.dbtg_step.specs.Machine.Lawful.{Lawful}
use Rattle.dbtg_step.specs.Inside.NeverStuck.{AllInTurn}
use Rattle.dbtg_step.specs.Machine.Network.{network}
use Rattle.dbtg_step.specs.Core.Serial.{AreSteppedOut, IsSteppedOut, AtRest, Onward, in_turn_from}
use Rattle.dbtg_step.proofs.TheCore.Alone.{StepsAlone, step_alone}
use Rattle.dbtg_step.proofs.EachEvent.Keeps.{step_keeps}
use Rattle.dbtg_step.proofs.Network.NetworkFacts.{network_is_sequential}
use Rattle.dbtg_step.proofs.EachEvent.UnitLists.{set_at, set_elsewhere}
use Rattle.dbtg_step.proofs.TheCore.Work.{GoesOn, IsAtWork, Rests, never_waits, statements_left, stays_at_work, work_left}

-- STEPS ARE MOVES

module _ (D : SequentialDatabase) (opening : SequentialState D) where
  pub run_append : (s : State D) (ms ns : List Move) → run D opening s (ms ++ ns) ≡ run D opening (run D opening s ms) ns
  unfolding run
  run_append s [] ns = refl
  run_append s (m ∷ ms) ns = run_append (state_after D s (transition D opening s m)) ms ns

  -- t is reached from s by some moves
  abbrev pub Reached : State D → State D → Type 0
  Reached s t = (moves : List Move) × (t ≡ run D opening s moves)

  one_reached : (u : ℕ) (s r : State D) → IsSteppedOut D opening u s r → Reached s r
  unfolding run transition state_after
  one_reached u s r (AtRest e) = ([], refl)
  one_reached u s r (Onward {t = t} e o) =
      let rest = one_reached u t r o in
      (Step u ∷ rest.0, rest.1 ∙ ap (λ q. run D opening (state_after D s q) rest.0) (sym e))

  pub all_reached : (m u : ℕ) (s r : State D) → AreSteppedOut D opening m u s r → Reached s r
  unfolding AreSteppedOut run
  all_reached zero u s r e = ([], e)
  all_reached (suc m) u s r o =
      let first = one_reached u s o.0 o.1 in
      let rest = all_reached m (suc u) o.0 r o.2 in
      (first.0 ++ rest.0, rest.1 ∙ ap (λ q. run D opening q rest.0) first.1 ∙ sym (run_append s first.0 rest.0))

  idle_step : (s : State D) (u : ℕ) (state : UnitState D) → unit_at s.units u ≡ Some state → state.progress ≡ None → state.remaining ≡ [] → step D opening s u ≡ IsIdle
  unfolding step step_if_unit step_of_unit
  idle_step s u state e p r = ap (step_if_unit D opening s u) e ∙ (λ i. step_of_unit D opening s u state (p i) (r i))

-- ONE UNIT

module _ (schema : Lists) (capacity : ℕ) where
  abbrev M : Type 0
  M = State (network schema capacity)

  -- who made which statement
  abbrev pub made_by : M → List (ℕ × Statement)
  made_by s = map (λ (e : HistoryEntry (network schema capacity)). (e.unit, e.statement)) s.history

  module _ (sound : IsSound schema) (opening : SequentialState (network schema capacity)) (u : ℕ) where
    -- by steps of the unit alone all its statements are made, and it is at rest
    pub record ComesOut (s : M) (left : List Statement) (r : M) : Type 0 where
      pub steps : IsSteppedOut (network schema capacity) opening u s r
      pub lawful : Lawful (network schema capacity) opening r
      pub in_turn : AllInTurn (network schema capacity) name_below r
      pub state : UnitState (network schema capacity)
      pub found : unit_at r.units u ≡ Some state
      pub rests : Rests schema capacity state
      pub others : (w : ℕ) → w ≢ u → unit_at r.units w ≡ unit_at s.units w
      pub made : made_by r ≡ made_by s ++ map (λ x. (u, x)) left

    abbrev pub Out : M → List Statement → Type 0
    Out s left = (r : M) × ComesOut s left r

    module _ (s : M) (l : Lawful (network schema capacity) opening s) (a : IsAtWork schema capacity u s) where
      out_now : Rests schema capacity a.state → Out s a.state.remaining
      out_now rests = (
        s,
        record {
          steps = AtRest (idle_step (network schema capacity) opening s u a.state a.found rests.between rests.ended);
          lawful = l;
          in_turn = a.in_turn;
          state = a.state;
          found = a.found;
          rests = rests;
          others = λ w n. refl;
          made = sym (ap (λ xs. made_by s ++ map (λ x. (u, x)) xs) rests.ended ∙ append-nil (made_by s));
        },
      )

      module _ (t : M) (moves : step (network schema capacity) opening s u ≡ MovedTo t) where
        alone : StepsAlone (network schema capacity) opening s u a.state t
        unfolding IfMoved
        alone = subst (λ r. IfMoved (network schema capacity) r (StepsAlone (network schema capacity) opening s u a.state)) moves (step_alone (network schema capacity) opening s u a.state a.found)

        lawful_then : Lawful (network schema capacity) opening t
        unfolding IfMoved
        lawful_then = subst (λ r. IfMoved (network schema capacity) r (Lawful (network schema capacity) opening)) moves (step_keeps (network schema capacity) (network_is_sequential schema capacity sound) opening s l u)

        at_work_then : IsAtWork schema capacity u t
        at_work_then = stays_at_work schema capacity sound opening s l u a t moves

        out_then : Out t at_work_then.state.remaining → Out s a.state.remaining
        out_then o = (
          o.0,
          record {
            steps = Onward moves o.1.steps;
            lawful = o.1.lawful;
            in_turn = o.1.in_turn;
            state = o.1.state;
            found = o.1.found;
            rests = o.1.rests;
            others = λ w n. o.1.others w n ∙ ap (λ us. unit_at us w) alone.units ∙ set_elsewhere s.units u w alone.new n;
            made = elim alone.drawn [
              | inl p ↦ o.1.made ∙ (λ i. map (λ (e : HistoryEntry (network schema capacity)). (e.unit, e.statement)) (p.0 i) ++ map (λ x. (u, x)) ((same ∙ p.1) i))
              | inr n ↦
                  o.1.made
                  ∙ (λ i. (ap (map (λ (e : HistoryEntry (network schema capacity)). (e.unit, e.statement))) n.history ∙ map-append (λ (e : HistoryEntry (network schema capacity)). (e.unit, e.statement)) s.history (n.entry ∷ [])) i ++ map (λ x. (u, x)) ((same ∙ n.after) i))
                  ∙ append_assoc (made_by s) ((n.entry.unit, n.entry.statement) ∷ []) (map (λ x. (u, x)) n.xs)
                  ∙ (λ i. made_by s ++ (n.unit i, n.statement i) ∷ map (λ x. (u, x)) n.xs)
                  ∙ ap (λ xs. made_by s ++ map (λ x. (u, x)) xs) (sym n.before)
            ];
          },
        )
          where
            same : at_work_then.state.remaining ≡ alone.new.remaining
            same =
                let new : unit_at t.units u ≡ Some alone.new = ap (λ us. unit_at us u) alone.units ∙ set_at s.units u a.state alone.new a.found in
                let q = sym at_work_then.found ∙ new in
                let e : at_work_then.state ≡ alone.new = cc (q) in
                ap (λ (b : UnitState (network schema capacity)). b.remaining) e

    -- one step more, or none
    module _ (n : ℕ) (fewer : (s : M) (l : Lawful (network schema capacity) opening s) (a : IsAtWork schema capacity u s) → statements_left schema capacity s u < n → Out s a.state.remaining) where
      on : (s : M) (l : Lawful (network schema capacity) opening s) (a : IsAtWork schema capacity u s) → statements_left schema capacity s u ≤ n
          → ((t : M) (m : Lawful (network schema capacity) opening t) (b : IsAtWork schema capacity u t) → statements_left schema capacity t u ≤ n → work_left schema capacity opening t u < work_left schema capacity opening s u → Out t b.state.remaining)
          → Out s a.state.remaining
      on s l a few less = by a.state.progress a.state.remaining refl refl
        where
          goes : GoesOn schema capacity sound opening s l u a → Out s a.state.remaining
          goes g =
              let m = lawful_then s l a g.after g.moves in
              let b = at_work_then s l a g.after g.moves in
              out_then s l a g.after g.moves (elim g.less [
                | inl f ↦ fewer g.after m b (omega (arith, f, few))
                | inr f ↦ (let same = f.0 in less g.after m b (omega (arith, same, few)) f.1)
              ])

          by : (p : Option (StatementProgress (network schema capacity))) (xs : List Statement) → a.state.progress ≡ p → a.state.remaining ≡ xs → Out s a.state.remaining
          by None [] p r = out_now s l a (record { between = p; ended = r })
          by None (x ∷ xs) p r = goes (never_waits schema capacity sound opening s l u a (λ h. let e = sym r ∙ h.ended in absurd (cc (e))))
          by (Some w) xs p r = goes (never_waits schema capacity sound opening s l u a (λ h. let e = sym p ∙ h.between in absurd (cc (e))))

      within : (k : ℕ) (s : M) (l : Lawful (network schema capacity) opening s) (a : IsAtWork schema capacity u s) → statements_left schema capacity s u ≤ n → work_left schema capacity opening s u ≤ k → Out s a.state.remaining
      within zero s l a few most = on s l a few (λ t m b f less. absurd (omega (arith, less, most)))
      within (suc k) s l a few most = on s l a few (λ t m b f less. within k t m b f (omega (arith, less, most)))

    stepped_out : (n : ℕ) (s : M) (l : Lawful (network schema capacity) opening s) (a : IsAtWork schema capacity u s) → statements_left schema capacity s u ≤ n → Out s a.state.remaining
    stepped_out zero s l a few = within 0 (λ t m b f. absurd (omega (arith, f))) (work_left schema capacity opening s u) s l a few (omega arith)
    stepped_out (suc n) s l a few = within (suc n) (λ t m b f. stepped_out n t m b (omega (arith, f))) (work_left schema capacity opening s u) s l a few (omega arith)

    pub comes_out : (s : M) (l : Lawful (network schema capacity) opening s) (a : IsAtWork schema capacity u s) → Out s a.state.remaining
    comes_out s l a = stepped_out (statements_left schema capacity s u) s l a (omega arith)

  -- ALL UNITS

  -- the units from u on are there, and these are the statements that they have left
  abbrev pub Stand : List (List Statement) → ℕ → M → Type 0
  Stand [] u s = ⊤
  Stand (script ∷ scripts) u s = ((state : UnitState (network schema capacity)) × (unit_at s.units u ≡ Some state) × (state.remaining ≡ script)) × Stand scripts (suc u) s

  stand_still : (scripts : List (List Statement)) (u w : ℕ) (s r : M) → u < w → ((v : ℕ) → v ≢ u → unit_at r.units v ≡ unit_at s.units v) → Stand scripts w s → Stand scripts w r
  stand_still [] u w s r l others h = tt
  stand_still (script ∷ scripts) u w s r l others h =
      ((h.0.0, others w (λ e. absurd (omega (arith, l, e))) ∙ h.0.1, h.0.2), stand_still scripts u (suc w) s r (omega (arith, l)) others h.1)

  -- each unit is between statements
  abbrev pub AllBetween : M → Type 0
  AllBetween s = (w : ℕ) (other : UnitState (network schema capacity)) → unit_at s.units w ≡ Some other → other.progress ≡ None

  module _ (sound : IsSound schema) (opening : SequentialState (network schema capacity)) where
    -- the units from u on are stepped, one after another, until each is at rest
    pub record ComeOut (scripts : List (List Statement)) (u : ℕ) (s : M) : Type 0 where
      pub last : M
      pub steps : AreSteppedOut (network schema capacity) opening (length scripts) u s last
      pub lawful : Lawful (network schema capacity) opening last
      pub made : made_by last ≡ made_by s ++ in_turn_from u scripts

    pub come_out : (scripts : List (List Statement)) (u : ℕ) (s : M) → Lawful (network schema capacity) opening s → AllInTurn (network schema capacity) name_below s → AllBetween s → Stand scripts u s → ComeOut scripts u s
    unfolding AreSteppedOut
    come_out [] u s l order between h = record { last = s; steps = refl; lawful = l; made = sym (append-nil (made_by s)) }
    come_out (script ∷ scripts) u s l order between h =
        let a : IsAtWork schema capacity u s = record { state = h.0.0; found = h.0.1; others = λ w other n e. between w other e; in_turn = order } in
        let o = comes_out sound opening u s l a in
        let out = o.1 in
        let rest = come_out scripts (suc u) o.0 out.lawful out.in_turn (between_then u o.0 s out.state out.found out.rests.between out.others between) (stand_still scripts u (suc u) s o.0 (omega arith) out.others h.1) in
        record {
          last = rest.last;
          steps = (o.0, out.steps, rest.steps);
          lawful = rest.lawful;
          made = rest.made
              ∙ ap (λ ps. ps ++ in_turn_from (suc u) scripts) (out.made ∙ ap (λ xs. made_by s ++ map (λ x. (u, x)) xs) h.0.2)
              ∙ append_assoc (made_by s) (map (λ x. (u, x)) script) (in_turn_from (suc u) scripts);
        }
      where
        between_then : (u : ℕ) (r s : M) (state : UnitState (network schema capacity)) → unit_at r.units u ≡ Some state → state.progress ≡ None → ((v : ℕ) → v ≢ u → unit_at r.units v ≡ unit_at s.units v) → AllBetween s → AllBetween r
        between_then u r s state e p others between w other f = elim (eqb_tells w u) [
          | inl q ↦
              let g : unit_at r.units u ≡ Some other = subst (λ v. unit_at r.units v ≡ Some other) q.1 f in
              let same : state ≡ other = cc (e, g) in
              subst (λ (b : UnitState (network schema capacity)). b.progress ≡ None) same p
          | inr q ↦ between w other (sym (others w q.1) ∙ f)
        ]
