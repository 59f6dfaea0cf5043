-- The grammar of schema texts: its next word always tells how it goes on, so an accepted text has one derivation alone.
use Rattle.std.proofs.Common.{◌≡◌, ℕ, Bool, true, false, not, List, [], ◌∷◌, ◌++◌, Option, Some, None, refl, ap, subst}
use Rattle.std.specs.Str.{bytes_eq}
use Rattle.std.specs.Coded.{coded_ℕ, coded_list}
use Rattle.std.specs.List.{flat_map}
use Rattle.std.proofs.lemmas.Slice.Eq.{bytes_eq-Decides}
use base.Stored.{Coded-set}
use mathlib.Core.List.{is_set}
use Rattle.std.proofs.Math.Nat.{ℕ_set}
use Rattle.dbtg_schema.specs.contracts.role.Role as role_row
use Rattle.dbtg_schema.specs.declared.role.Role.{Role}
use Rattle.dbtg_schema.specs.Texts.Words.{Word, text_words, last_line}
use Rattle.dbtg_schema.specs.Texts.Spelling.{is_name, is_picture}
use Rattle.dbtg_schema.specs.Texts.Forms.{starts, labelled, start_with, by_start, labels}
use Rattle.dbtg_schema.specs.Lookups.{first}
use Rattle.dbtg_schema.specs.Texts.SchemaGrammar.{Kind, key, name, picture, Form, Start, Labelled, fits, schema}
use Rattle.dbtg_schema.specs.Texts.SchemaFaults.{at_word, at_other, places, too_long, refusal}
use Rattle.dbtg_schema.specs.Inside.Reading.{verdict}
use Rattle.dbtg_schema.specs.Laws.{Derivation, AcceptedIsDerivedOnce}
use Rattle.dbtg_schema.proofs.Forms.Accepted.{none_rest, never, derived}
use Rattle.dbtg_schema.proofs.Forms.OneWay.{is_told, words_of}
use Rattle.dbtg_schema.proofs.Forms.OneDerivation.{labelled_once}

-- no word is of both kinds: two keys that differ, a key that is no name, a key that is no picture
abbrev pub apart : Kind → Kind → Bool
apart (key a) (key b) = not (bytes_eq a b)
apart (key a) name = not (is_name a)
apart (key a) picture = not (is_picture a)
apart name (key b) = not (is_name b)
apart name name = false
apart name picture = false
apart picture (key b) = not (is_picture b)
apart picture name = false
apart picture picture = false

-- a test whose negation passes does not pass
pub not_true : (b : Bool) → not b ≡ true → b ≡ true → ⊥
not_true true h t = absurd cc
not_true false h t = absurd cc

-- a word of a key is that key
spelled : (a : List ℕ) (w : Word) → fits (key a) w ≡ true → w.text ≡ a
spelled a w t = (bytes_eq-Decides w.text a).0 t

pub told_apart : (j k : Kind) (w : Word) → apart j k ≡ true → fits j w ≡ true → fits k w ≡ true → ⊥
told_apart (key a) (key b) w h t s = not_true (bytes_eq a b) h (subst (λ (z : List ℕ). bytes_eq z b ≡ true) (spelled a w t) s)
told_apart (key a) name w h t s = not_true (is_name a) h (subst (λ (z : List ℕ). is_name z ≡ true) (spelled a w t) s)
told_apart (key a) picture w h t s = not_true (is_picture a) h (subst (λ (z : List ℕ). is_picture z ≡ true) (spelled a w t) s)
told_apart name (key b) w h t s = not_true (is_name b) h (subst (λ (z : List ℕ). is_name z ≡ true) (spelled b w s) t)
told_apart name name w h t s = absurd cc
told_apart name picture w h t s = absurd cc
told_apart picture (key b) w h t s = not_true (is_picture b) h (subst (λ (z : List ℕ). is_picture z ≡ true) (spelled b w s) t)
told_apart picture name w h t s = absurd cc
told_apart picture picture w h t s = absurd cc

pub schema_is_told : is_told apart schema ≡ true
schema_is_told = refl

role_set : IsSet Role
role_set = Coded-set role_row.the_row.coded

text_set : IsSet (List ℕ)
text_set = Coded-set (coded_list coded_ℕ)

word_set : IsSet Word
word_set = hlevel (ℕ_set, text_set)

words_set : IsSet (List Word)
words_set = is_set word_set

labelled_set : IsSet (List Labelled)
labelled_set = is_set (hlevel (role_set, word_set))

-- where a start fits, the word follows it
behind_start : (w : Word) (left : List Word) (end : ℕ) (ws : List Labelled) (f : Form) (o : Option Start)
    → ((s : Start) → first (flat_map (λ here. here) (places end (ws ++ labelled s.role w ∷ []) s.rest left)) ≡ None → words_of (labels fits s.rest left) ≡ left)
    → first (flat_map (λ here. here) (by_start o (λ s. at_word ws (labelled s.role w) ∷ places end (ws ++ labelled s.role w ∷ []) s.rest left) (at_other ws (starts f) w ∷ []))) ≡ None
    → words_of (by_start o (λ s. labelled s.role w ∷ labels fits s.rest left) []) ≡ w ∷ left
behind_start w left end ws f None rest h = absurd (never _ [] _ h)
behind_start w left end ws f (Some s) rest h =
    ap (λ (z : List Word). w ∷ z) (rest s (none_rest (at_word ws (labelled s.role w)) (flat_map (λ here. here) (places end (ws ++ labelled s.role w ∷ []) s.rest left)) h))

-- each word of a text that is accepted has a role
each_word : (left : List Word) (end : ℕ) (ws : List Labelled) (f : Form) → verdict end ws f left ≡ None → words_of (labels fits f left) ≡ left
unfolding verdict
each_word [] end ws f h = refl
each_word (w ∷ left) end ws f h = behind_start w left end ws f (start_with fits w (starts f)) (λ s. each_word left end (ws ++ labelled s.role w ∷ []) s.rest) h

no_fault : (text : List ℕ) → refusal text ≡ None → verdict (last_line text) [] schema (text_words text) ≡ None
unfolding verdict
no_fault text h = none_rest (too_long text) (flat_map (λ here. here) (places (last_line text) [] schema (text_words text))) h

pub accepted_once : AcceptedIsDerivedOnce
accepted_once text h =
    let clean = no_fault text h in
    let d : Derivation text = (labels fits schema (text_words text), each_word (text_words text) (last_line text) [] schema clean, derived (text_words text) (last_line text) [] schema clean) in
    (d, refl, λ e. labelled_once fits labelled_set apart told_apart words_set schema schema_is_told (text_words text) e d)
