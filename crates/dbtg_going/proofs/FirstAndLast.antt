-- Programs that run before and after the others.
use Rattle.std.proofs.Common.{◌≡◌, ℕ, zero, suc, ◌+◌, ◌<◌, Bool, true, false, ◌&&◌, List, [], ◌∷◌, length, map, ◌⊎◌, inl, inr, refl, ap, subst, sym, ◌∙◌, arith}
use Rattle.std.specs.Prelude.{Option, cond, filter}
use Rattle.std.specs.List.{list_all, range_with_len}
use Rattle.std.proofs.lemmas.List.Folds.{list_all-append}
use Rattle.dbtg_schema.specs.Lists.{Lists}
use Rattle.dbtg_unit.proofs.Public.{range_more}
use Rattle.dbtg_program.specs.declared.program.Program.{Program}
use Rattle.dbtg_step.specs.Core.Whole.{IsMadeRun, Making}
use Rattle.dbtg_going.specs.declared.around.Around.{Around}
use Rattle.dbtg_going.specs.declared.member.Member.{Member}
use Rattle.dbtg_going.specs.declared.going.ProgramRun.{ProgramRun}
use Rattle.dbtg_going.specs.Goings.{reached_by}
use Rattle.dbtg_going.specs.Turns.{IsRunOf, after_turns, first_turns, have_ended, is_heard, last_turns, other_turns, others, to_the_end, turns_before, turns_of}
use Rattle.dbtg_going.specs.Inside.Members.{HaveTurned, IsUnderWay}
use Rattle.dbtg_going.proofs.Turning.{not_turned, turned_on, turned_to}
use Rattle.dbtg_going.proofs.Together.{handed}

never : (b : Bool) → (b && false) ≡ false
never true = refl
never false = refl

-- if the test fails for one number of a range, it does not hold for all of them
pub fails_at : (f : ℕ → Bool) (s n k : ℕ) → k < n → f (s + k) ≡ false → list_all f (range_with_len s n) ≡ false
fails_at f s zero k within fails = absurd (omega arith)
fails_at f s (suc n) zero within fails = let start : s + 0 ≡ s = omega arith in ap (λ b. b && list_all f (range_with_len (s + 1) n)) (sym (ap f start) ∙ fails)
fails_at f s (suc n) (suc k) within fails =
    let start : s + suc k ≡ s + 1 + k = omega arith in
    ap (λ b. f s && b) (fails_at f (s + 1) n k (omega arith) (sym (ap f start) ∙ fails)) ∙ never (f s)

-- if the test holds for these numbers and for one more, it holds for all of them
pub holds_also : (f : ℕ → Bool) (n : ℕ) → list_all f (range_with_len 1 n) ≡ true → f (n + 1) ≡ true → list_all f (range_with_len 1 (n + 1)) ≡ true
holds_also f n so_far here =
    let next : n + 1 ≡ suc n = omega arith in
    let last : 1 + n ≡ n + 1 = omega arith in
    ap (λ k. list_all f (range_with_len 1 k)) next ∙ ap (list_all f) (range_more n 1) ∙ list_all-append f (range_with_len 1 n) ((1 + n) ∷ [])
    ∙ ap (λ b. b && list_all f ((1 + n) ∷ [])) so_far ∙ ap (λ k. list_all f (k ∷ [])) last ∙ ap (λ b. b && true) here

-- if there is no last program, no turn is ignored
pub all_heard : (units : ℕ) (turns : List ℕ) → filter (is_heard (record { first = false; last = false }) units) turns ≡ turns
all_heard units [] = refl
all_heard units (u ∷ turns) = ap (λ us. u ∷ us) (all_heard units turns)

module _ (schema : Lists) (programs : List Program) (around : Around) where
  -- a turn that is ignored
  pub not_heard : (m : Making) (members : List Member) (u : ℕ) → IsUnderWay schema programs m members → is_heard around (length programs) u ≡ false
      → HaveTurned schema programs m (cond (is_heard around (length programs) u) (u ∷ []) []) m members
  not_heard m members u w e = turned_to schema programs m m [] (cond (is_heard around (length programs) u) (u ∷ []) []) members (sym (ap (λ b. cond b (u ∷ []) []) e)) (not_turned schema programs m members w)

  -- if there is no first program, nothing is done before the others
  pub nothing_first : (m : Making) (members : List Member) → IsUnderWay schema programs m members → around.first ≡ false → HaveTurned schema programs m (first_turns around (length programs)) m members
  nothing_first m members w e =
      turned_to schema programs m m [] (first_turns around (length programs)) members (sym (ap (λ b. cond b (to_the_end (others around (length programs) + 1)) []) e)) (not_turned schema programs m members w)

  -- if others have not ended, the last program does nothing
  pub nothing_last : (m : Making) (members : List Member) → IsUnderWay schema programs m members → (around.last ≡ false) ⊎ (have_ended schema programs m.history ≡ false) → HaveTurned schema programs m (last_turns schema programs around m.history) m members
  nothing_last m members w h =
      turned_to schema programs m m [] (last_turns schema programs around m.history) members
      (sym (ap (λ b. cond b (to_the_end (length programs)) []) (elim h [ inl e ↦ ap (λ b. b && have_ended schema programs m.history) e | inr e ↦ ap (λ b. around.last && b) e ∙ never around.last ])))
      (not_turned schema programs m members w)

  -- the first program, the others, and the last one
  pub all_made : (old one two new : Making) (told : Option (List ℕ)) (members members' members'' : List Member) → old.history ≡ [] → HaveTurned schema programs old (first_turns around (length programs)) one members
      → HaveTurned schema programs one (other_turns around (length programs) told) two members' → HaveTurned schema programs two (last_turns schema programs around two.history) new members''
      → HaveTurned schema programs old (turns_of schema old.capacity programs around told) new members''
  all_made old one two new told members members' members'' opening first others last =
      let before = turned_on schema programs old one two (first_turns around (length programs)) (other_turns around (length programs) told) members members' first others in
      let history : two.history ≡ after_turns schema old.capacity programs [] (turns_before around (length programs) told)
      = ap (λ (m : Making). m.history) before.database ∙ ap (λ es. after_turns schema old.capacity programs es (turns_before around (length programs) told)) opening in
      turned_on schema programs old two new (turns_before around (length programs) told) (last_turns schema programs around (after_turns schema old.capacity programs [] (turns_before around (length programs) told))) members' members'' before
      (turned_to schema programs two new (last_turns schema programs around two.history) (last_turns schema programs around (after_turns schema old.capacity programs [] (turns_before around (length programs) told))) members''
      (ap (last_turns schema programs around) history) last)

  -- the run that is returned
  pub handed_all : (capacity : ℕ) (told : Option (List ℕ)) (m made : Making) (units : ℕ) (members : List Member) (given : ProgramRun) → m ≡ record { schema = schema; capacity = capacity; units = units; history = [] } → units ≡ length programs
      → HaveTurned schema programs m (turns_of schema m.capacity programs around told) made members → IsMadeRun made given.run → given.programs ≡ map reached_by members
      → IsRunOf schema capacity programs (turns_of schema capacity programs around told) given
  handed_all capacity told m made units members given is count t run are =
      subst (λ n. IsRunOf schema capacity programs (turns_of schema n programs around told) given) (ap (λ (x : Making). x.capacity) is)
      (handed schema capacity programs (turns_of schema m.capacity programs around told) m made units members given is count t run are)
