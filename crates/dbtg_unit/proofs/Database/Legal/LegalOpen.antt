-- OPEN and CLOSE keep a database legal, and the modes of each unit its entries in the usage lists.
use Rattle.std.proofs.Common.{◌≡◌, refl, sym, ◌∙◌, ap, subst, ℕ, ◌<◌, Bool, true, false, cond, not, ◌&&◌, List, [], ◌∷◌, ◌++◌, length, Option, None, Some, arith, eqb, inl, inr, get_or-set_same, get_or-set_other}
use Rattle.std.specs.Prelude.{filter, slice_set}
use Rattle.std.proofs.lemmas.List.Folds.{list_all-append}
use Rattle.std.specs.List.{list_any, list_all}
use Rattle.std.proofs.lemmas.Bool.{cond_both, and_from, or_parts, not_from_false, eqb-true, eqb-false, eq-eqb, ne_eqb, cond-false, cases_Bool}
use Rattle.dbtg_schema.specs.Lists.{Lists}
use Rattle.dbtg_cells.specs.declared.usage.Mode.{Mode}
use Rattle.dbtg_unit.specs.declared.unit.Unit.{Unit}
use Rattle.dbtg_schema.specs.Lookups.{at}
use Rattle.dbtg_unit.specs.Database.State.Base.{Database}
use Rattle.dbtg_unit.specs.Database.Statements.Effect.{conflict}
use Rattle.dbtg_unit.specs.Database.State.Legal.{Legal, UsageAgrees, mode_in, agree, pairwise}
use Rattle.dbtg_unit.proofs.Lists.Listing.{pairwise_push}
use Rattle.dbtg_unit.proofs.Lists.WithANewMember.{all_filter, pairwise_filter}
use Rattle.dbtg_unit.proofs.Database.Legal.LegalParts.{legal_from, sound_of}
use Rattle.dbtg_unit.proofs.Database.Legal.PassedChecks.{some_none}

-- a unit with no mode in a list agrees with each that has one, where none conflicts
agrees_with_new : (es : List (ℕ × Mode)) (number : ℕ) (mode : Mode) → mode_in es number ≡ None → list_any (λ e. conflict e.1 mode) es ≡ false → list_all (λ e. agree e (number, mode)) es ≡ true
agrees_with_new [] number mode h g = refl
agrees_with_new (e ∷ es) number mode h g =
    let gs = or_parts (conflict e.1 mode) (list_any (λ e. conflict e.1 mode) es) g in
    elim (eqb e.0 number) as (λ b. cond b (Some e.1) (mode_in es number) ≡ None → ((not b && not (conflict e.1 mode)) && list_all (λ e. agree e (number, mode)) es) ≡ true) [
      | true ↦ λ h. absurd (some_none h)
      | false ↦ λ h. and_from _ _ (not_from_false _ gs.0) (agrees_with_new es number mode h gs.1)
    ] h

-- a usage list with one more entry, in one area
usage_after : (usage : ℕ → List (ℕ × Mode)) (a number : ℕ) (mode : Mode) → ((b : ℕ) → pairwise agree (usage b) ≡ true) → mode_in (usage a) number ≡ None → list_any (λ e. conflict e.1 mode) (usage a) ≡ false
    → (b : ℕ) → pairwise agree (cond (eqb b a) (usage b ++ (number, mode) ∷ []) (usage b)) ≡ true
usage_after usage a number mode h none free b =
    cond_both (eqb b a) _ _ (λ es. pairwise agree es ≡ true)
    (λ e. let same = eqb-true b a e in
    subst (λ c. pairwise agree (usage c ++ (number, mode) ∷ []) ≡ true) (sym same) (pairwise_push agree (usage a) (number, mode) (h a) (agrees_with_new (usage a) number mode none free)))
    (λ e. h b)

-- the mode of a unit that a list gains, and of each other
mode_own : (number : ℕ) (mode : Mode) (es : List (ℕ × Mode)) → mode_in es number ≡ None → mode_in (es ++ (number, mode) ∷ []) number ≡ Some mode
mode_own number mode [] h = ap (λ b. cond b (Some mode) None) (eq-eqb number number refl)
mode_own number mode (e ∷ es) h =
    elim (cases_Bool (eqb e.0 number)) [
      | inl same ↦ absurd (some_none (ap (λ b. cond b (Some e.1) (mode_in es number)) (sym same) ∙ h))
      | inr other ↦ ap (λ b. cond b (Some e.1) (mode_in (es ++ (number, mode) ∷ []) number)) other ∙ mode_own number mode es (ap (λ b. cond b (Some e.1) (mode_in es number)) (sym other) ∙ h)
    ]

mode_other : (number gained : ℕ) (mode : Mode) → (number ≡ gained → ⊥) → (es : List (ℕ × Mode)) → mode_in (es ++ (gained, mode) ∷ []) number ≡ mode_in es number
mode_other number gained mode other [] = ap (λ b. cond b (Some mode) None) (ne_eqb gained number (λ e. other (sym e)))
mode_other number gained mode other (e ∷ es) = ap (λ (rest : Option Mode). cond (eqb e.0 number) (Some e.1) rest) (mode_other number gained mode other es)

-- the mode of a unit that a list loses, and of each other
mode_gone : (number : ℕ) (es : List (ℕ × Mode)) → mode_in (filter (λ e. not (eqb e.0 number)) es) number ≡ None
mode_gone number [] = refl
mode_gone number (e ∷ es) =
    elim (cases_Bool (eqb e.0 number)) [
      | inl h ↦ ap (λ b. mode_in (cond (not b) (e ∷ filter (λ e. not (eqb e.0 number)) es) (filter (λ e. not (eqb e.0 number)) es)) number) h ∙ mode_gone number es
      | inr h ↦
          ap (λ b. mode_in (cond (not b) (e ∷ filter (λ e. not (eqb e.0 number)) es) (filter (λ e. not (eqb e.0 number)) es)) number) h
          ∙ ap (λ b. cond b (Some e.1) (mode_in (filter (λ e. not (eqb e.0 number)) es) number)) h ∙ mode_gone number es
    ]

mode_left : (number lost : ℕ) → (number ≡ lost → ⊥) → (es : List (ℕ × Mode)) → mode_in (filter (λ e. not (eqb e.0 lost)) es) number ≡ mode_in es number
mode_left number lost other [] = refl
mode_left number lost other (e ∷ es) =
    elim (cases_Bool (eqb e.0 lost)) [
      | inl h ↦
          ap (λ b. mode_in (cond (not b) (e ∷ filter (λ e. not (eqb e.0 lost)) es) (filter (λ e. not (eqb e.0 lost)) es)) number) h
          ∙ mode_left number lost other es
          ∙ ap (λ b. cond b (Some e.1) (mode_in es number)) (sym (ne_eqb e.0 number (λ s. other (sym s ∙ eqb-true e.0 lost h))))
      | inr h ↦
          ap (λ b. mode_in (cond (not b) (e ∷ filter (λ e. not (eqb e.0 lost)) es) (filter (λ e. not (eqb e.0 lost)) es)) number) h
          ∙ ap (λ (rest : Option Mode). cond (eqb e.0 number) (Some e.1) rest) (mode_left number lost other es)
    ]

module _ (schema : Lists) (capacity : ℕ) (db : Database) (unit : Unit) (a : ℕ) (legal : Legal schema capacity db) where
  -- OPEN

  abbrev pub opened : Mode → Database
  opened mode = record db { usage = λ b. cond (eqb b a) (db.usage b ++ (unit.number, mode) ∷ []) (db.usage b) }

  pub open_legal : (mode : Mode) → a < length schema.areas → mode_in (db.usage a) unit.number ≡ None → list_any (λ e. conflict e.1 mode) (db.usage a) ≡ false → Legal schema capacity (opened mode)
  open_legal mode low none free =
      legal_from schema capacity (opened mode) (sound_of schema capacity db legal)
      (record {
        no_area = λ b outside. cond-false (eqb b a) (db.usage b ++ (unit.number, mode) ∷ []) (db.usage b) (ne_eqb b a (λ e. omega arith)) ∙ legal.no_area b outside;
        users_agree = usage_after db.usage a unit.number mode legal.usage none free;
      })

  pub open_agrees : (mode : Mode) → a < length unit.modes → mode_in (db.usage a) unit.number ≡ None → UsageAgrees db unit → UsageAgrees (opened mode) (record unit { modes = slice_set unit.modes a (Some mode) })
  open_agrees mode low none users_agree b =
      elim (cases_Bool (eqb b a)) [
        | inl h ↦
            let same = eqb-true b a h in
            ap (λ c. mode_in (cond c (db.usage b ++ (unit.number, mode) ∷ []) (db.usage b)) unit.number) h
            ∙ mode_own unit.number mode (db.usage b) (ap (λ c. mode_in (db.usage c) unit.number) same ∙ none)
            ∙ sym (ap (at (slice_set unit.modes a (Some mode))) same ∙ get_or-set_same unit.modes a (Some mode) None low)
        | inr h ↦
            ap (λ c. mode_in (cond c (db.usage b ++ (unit.number, mode) ∷ []) (db.usage b)) unit.number) h
            ∙ users_agree b ∙ sym (get_or-set_other unit.modes a b (Some mode) None (eqb-false b a h))
      ]

  pub open_others : (mode : Mode) (number : ℕ) → (number ≡ unit.number → ⊥) → (b : ℕ) → mode_in ((opened mode).usage b) number ≡ mode_in (db.usage b) number
  open_others mode number other b = cond_both (eqb b a) _ _ (λ es. mode_in es number ≡ mode_in (db.usage b) number) (λ e. mode_other number unit.number mode other (db.usage b)) (λ e. refl)

  pub open_users : (mode : Mode) (test : ℕ → Bool) → test unit.number ≡ true → (b : ℕ) → list_all (λ e. test e.0) (db.usage b) ≡ true → list_all (λ e. test e.0) ((opened mode).usage b) ≡ true
  open_users mode test own b h =
      cond_both (eqb b a) _ _ (λ es. list_all (λ e. test e.0) es ≡ true) (λ e. list_all-append (λ e. test e.0) (db.usage b) ((unit.number, mode) ∷ []) ∙ and_from _ _ h (and_from _ _ own refl)) (λ e. h)

  -- CLOSE

  abbrev pub left : List (ℕ × Mode) → List (ℕ × Mode)
  left = filter (λ e. not (eqb e.0 unit.number))

  abbrev pub closed : Database
  closed = record db { usage = λ b. cond (eqb b a) (left (db.usage b)) (db.usage b) }

  pub close_legal : Legal schema capacity closed
  close_legal =
      legal_from schema capacity closed (sound_of schema capacity db legal)
      (record {
        no_area = λ b outside. cond_both (eqb b a) (left (db.usage b)) (db.usage b) (λ es. es ≡ []) (λ e. ap left (legal.no_area b outside)) (λ e. legal.no_area b outside);
        users_agree = λ b. cond_both (eqb b a) _ _ (λ es. pairwise agree es ≡ true) (λ e. pairwise_filter agree (λ e. not (eqb e.0 unit.number)) (db.usage b) (legal.usage b)) (λ e. legal.usage b);
      })

  pub close_agrees : a < length unit.modes → UsageAgrees db unit → UsageAgrees closed (record unit { modes = slice_set unit.modes a None })
  close_agrees low users_agree b =
      elim (cases_Bool (eqb b a)) [
        | inl h ↦
            ap (λ c. mode_in (cond c (left (db.usage b)) (db.usage b)) unit.number) h
            ∙ mode_gone unit.number (db.usage b)
            ∙ sym (ap (at (slice_set unit.modes a None)) (eqb-true b a h) ∙ get_or-set_same unit.modes a None None low)
        | inr h ↦
            ap (λ c. mode_in (cond c (left (db.usage b)) (db.usage b)) unit.number) h
            ∙ users_agree b ∙ sym (get_or-set_other unit.modes a b None None (eqb-false b a h))
      ]

  pub close_others : (number : ℕ) → (number ≡ unit.number → ⊥) → (b : ℕ) → mode_in (closed.usage b) number ≡ mode_in (db.usage b) number
  close_others number other b = cond_both (eqb b a) _ _ (λ es. mode_in es number ≡ mode_in (db.usage b) number) (λ e. mode_left number unit.number other (db.usage b)) (λ e. refl)

  pub close_users : (test : ℕ → Bool) (b : ℕ) → list_all (λ e. test e.0) (db.usage b) ≡ true → list_all (λ e. test e.0) (closed.usage b) ≡ true
  close_users test b h = cond_both (eqb b a) _ _ (λ es. list_all (λ e. test e.0) es ≡ true) (λ e. all_filter (λ e. test e.0) (λ e. not (eqb e.0 unit.number)) (db.usage b) h) (λ e. h)
