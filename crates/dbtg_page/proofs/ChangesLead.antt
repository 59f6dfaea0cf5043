-- The edits from old parts to new ones, made in the old ones, give the new ones.
use Rattle.std.proofs.Common.{◌≡◌, ℕ, zero, suc, ◌<◌, ◌+◌, Bool, true, false, List, [], ◌∷◌, ◌++◌, Option}
use Rattle.std.proofs.Common.{Some, None, length, map, get_or, drop, position, refl, sym, ap, ◌∙◌, arith, bytes_eq, cond}
use Rattle.std.specs.Prelude.{option_and_then, option_map, unwrap_or}
use Rattle.std.proofs.lemmas.List.{drop_all, drop_more, get_or-map, length-map, nil_from_length}
use Rattle.std.proofs.lemmas.List.Quantifiers.{position-Some}
use Rattle.std.proofs.lemmas.Slice.Eq.{bytes_eq-Decides}
use Rattle.dbtg_page.specs.Changes.{ChangesLeadOn, Edit, edited, edits, gone, joined, line_after, met, name_by, parts, stays, turned, word_edits}
use Rattle.dbtg_page.specs.declared.changes.Kind.TheVariants.{Line, Word}
use Rattle.dbtg_page.specs.Changes.Edit.{Stays, Comes, Turns}
use Rattle.dbtg_page.proofs.PartsSplit.{joined_parts}

-- a part that is met stands where it is met
pub met_at : (old : List (List ℕ)) (name : List ℕ) (later : List (List ℕ)) (p : ℕ) → met old name later ≡ Some p
    → position (λ other. bytes_eq other name) old ≡ Some p
met_at old name later p e = by (position (λ other. bytes_eq other name) old) refl e
  where
    kept : (b : Bool) (q : ℕ) → cond b (Some q) None ≡ Some p → Some q ≡ Some p
    kept true q f = f
    kept false q f = absurd cc

    by : (o : Option ℕ) → position (λ other. bytes_eq other name) old ≡ o
        → option_and_then (λ q. cond (stays old q later) (Some q) None) o ≡ Some p → position (λ other. bytes_eq other name) old ≡ Some p
    by None is f = absurd cc
    by (Some q) is f = is ∙ kept (stays old q later) q f

module _ {X : Type 0} (name : List ℕ → List ℕ) (turn : List ℕ → List ℕ → Edit X) (apply : X → List ℕ → List ℕ) where
  gone_all : (k : ℕ) (old : List (List ℕ)) → length old ≡ k → edited apply (gone k) old ≡ []
  gone_all zero old e = nil_from_length old e
  gone_all (suc k) old e = drop_all (suc k) old (omega arith)

  gone_some : (k : ℕ) (es : List (Edit X)) (old : List (List ℕ)) → edited apply (gone k ++ es) old ≡ edited apply es (drop k old)
  gone_some zero es old = refl
  gone_some (suc k) es old = refl

  -- each part that stands for another turns into it
  abbrev pub Turned : Type 0
  Turned = (o n : List ℕ) → bytes_eq (name o) (name n) ≡ true → (es : List (Edit X)) (os : List (List ℕ)) → edited apply (turn o n ∷ es) (o ∷ os)
      ≡ n ∷ edited apply es os

  pub lead : Turned → (new old : List (List ℕ)) → edited apply (edits name turn old new) old ≡ new
  unfolding edits
  lead turns [] old = gone_all (length old) old refl
  lead turns (n ∷ ns) old = by (λ os. lead turns ns os) (met (map name old) (name n) (map name ns)) refl
    where
      by : ((os : List (List ℕ)) → edited apply (edits name turn os ns) os ≡ ns) → (m : Option ℕ) → met (map name old) (name n) (map name ns) ≡ m
          → edited apply (unwrap_or (option_map (λ p. gone p ++ turn (get_or old p []) n ∷ edits name turn (drop (p + 1) old) ns) m)
          (Comes n ∷ edits name turn old ns)) old ≡ n ∷ ns
      by again None e = ap (λ t. n ∷ t) (again old)
      by again (Some p) e =
          let found = position-Some (λ other. bytes_eq other (name n)) (map name old) p (name []) (met_at (map name old) (name n) (map name ns) p e) in
          let in_old : p < length old = omega (arith, found.0, length-map old name) in
          let same : bytes_eq (name (get_or old p [])) (name n) ≡ true = ap (λ k. bytes_eq k (name n)) (sym (get_or-map name old p [] (name []) in_old))
          ∙ found.1 in
          let es = edits name turn (drop (p + 1) old) ns in
          gone_some p (turn (get_or old p []) n ∷ es) old
          ∙ ap (edited apply (turn (get_or old p []) n ∷ es)) (drop_more old p [] in_old)
          ∙ turns (get_or old p []) n same es (drop (p + 1) old)
          ∙ ap (λ t. n ∷ t) (again (drop (p + 1) old))

equal : (a b : List ℕ) → bytes_eq a b ≡ true → a ≡ b
equal a b e = (bytes_eq-Decides a b).0 e

-- words of one name are equal
words_lead : (new old : List ℕ) → line_after (word_edits old new) old ≡ new
words_lead new old = ap (λ ps. joined 32 ps) (lead (name_by Word) (λ o n. Stays) (λ x w. w) (λ o n e es os. ap (λ t. t ∷ edited (λ x w. w) es os)
    (equal o n e)) (parts 32 new) (parts 32 old)) ∙ joined_parts 32 new

line_turns : (o n : List ℕ) (es : List (Edit (List (Edit ⊥)))) (os : List (List ℕ)) → edited line_after (turned o n ∷ es) (o ∷ os) ≡ n ∷ edited line_after es os
line_turns o n es os = by (bytes_eq o n) refl
  where
    by : (k : Bool) → bytes_eq o n ≡ k → edited line_after (cond k Stays (Turns (word_edits o n)) ∷ es) (o ∷ os) ≡ n ∷ edited line_after es os
    by true e = ap (λ t. t ∷ edited line_after es os) (equal o n e)
    by false e = ap (λ t. t ∷ edited line_after es os) (words_lead n o)

pub changes_lead : ChangesLeadOn
changes_lead old new = ap (λ ps. joined 10 ps) (lead (name_by Line) turned line_after (λ o n e es os. line_turns o n es os) (parts 10 new)
    (parts 10 old)) ∙ joined_parts 10 new
