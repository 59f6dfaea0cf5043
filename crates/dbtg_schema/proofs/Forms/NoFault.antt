-- What the grammar of schemas derives has no fault of the grammar.
use Rattle.std.proofs.Common.{◌≡◌, ℕ, Bool, true, false, ◌&&◌, ◌||◌, not, List, [], ◌∷◌, ◌++◌, Option, Some, None, refl, subst, ◌∙◌, inl, inr}
use Rattle.std.specs.Prelude.{nat_lt, length, filter}
use Rattle.std.specs.List.{flat_map, list_any}
use Rattle.std.proofs.lemmas.List.Folds.{list_any-append}
use Rattle.dbtg_schema.specs.declared.limits.TheConstants.{SCHEMA_BYTES}
use Rattle.dbtg_schema.specs.declared.fault.Fault.{Fault}
use Rattle.dbtg_schema.specs.declared.fault.Cause.{Cause}
use Rattle.dbtg_schema.specs.declared.fault.Cause.TheVariants.{TextTooLong, NameTaken, ItemNameTwice, UnknownArea, UnknownRecordType, UnknownItem, UnknownSet, OwnerIsMember, MemberTwice, KeyPicturesDiffer, KeyMisplaced, OverLimit, NoItems, CalcItemTwice}
use Rattle.dbtg_schema.specs.declared.role.Role.{Role}
use Rattle.dbtg_schema.specs.declared.role.Role.TheVariants as role
use Rattle.dbtg_schema.specs.Laws.{is_of_grammar, DerivedHasNoFaultOfGrammar}
use Rattle.dbtg_schema.specs.Texts.Words.{Word, text_words, last_line}
use Rattle.dbtg_schema.specs.Texts.Spelling.{among}
use Rattle.dbtg_schema.specs.Texts.Forms.{starts, may_end, labelled, start_with, by_start, Derives}
use Rattle.dbtg_schema.specs.Texts.Labels.{is, named, since, first_named}
use Rattle.dbtg_schema.specs.Texts.SchemaGrammar.{Form, Start, Labelled, fits, schema}
use Rattle.dbtg_schema.specs.Texts.SchemaFaults.{at_end, at_other, at_word, calc_faults, ended, fault, has_other_key, is_key_wrong, is_owner, is_surplus, is_taken, is_there_twice, items_of, line_of, member_end, open_record, places, record_end, said, this_member, too_long, unknown_vias, when}
use Rattle.dbtg_schema.proofs.Forms.Chosen.{Ranked, ranked, ranked_rest, in_order, chosen}
use Rattle.dbtg_schema.proofs.Forms.Derived.{Among, start_found}
use Rattle.dbtg_schema.proofs.Forms.OneReading.{apart, told_apart, schema_is_told}
use Rattle.dbtg_schema.proofs.Forms.OneWay.{words_of}
use Rattle.dbtg_schema.proofs.Forms.Wanted.{ended as may_stop, starts_all, no_way_on}

-- none of the faults is a fault of the grammar
abbrev Clean : List Fault → Type 0
Clean fs = list_any (λ f. is_of_grammar f.cause) fs ≡ false

clean_both : (xs ys : List Fault) → Clean xs → Clean ys → Clean (xs ++ ys)
clean_both xs ys h k = list_any-append (λ f. is_of_grammar f.cause) xs ys ∙ (λ i. h i || k i)

clean_when : (b : Bool) (c : Cause) (line : ℕ) → is_of_grammar c ≡ false → Clean (when b (fault c line))
clean_when true c line h = rw h refl
clean_when false c line h = refl

clean_calc : (items before : List (List ℕ)) (ws : List Labelled) → Clean (calc_faults items before ws)
clean_calc items before [] = refl
clean_calc items before (w ∷ ws) =
    let unknown = when (not (among w.word.text items)) (fault UnknownItem w.word.line) in
    let twice = when (among w.word.text before) (fault CalcItemTwice w.word.line) in
    let more = calc_faults items (before ++ w.word.text ∷ []) ws in
    clean_both (unknown ++ twice) more
    (clean_both unknown twice (clean_when (not (among w.word.text items)) UnknownItem w.word.line refl) (clean_when (among w.word.text before) CalcItemTwice w.word.line refl))
    (clean_calc items (before ++ w.word.text ∷ []) ws)

clean_record : (ws : List Labelled) → Clean (record_end ws)
clean_record [] = refl
clean_record (w ∷ ws) =
    clean_both (when (not (list_any (is role.ItemEntry) ws)) (fault NoItems w.word.line)) (calc_faults (named role.ItemName ws) [] (filter (is role.CalcItem) ws))
    (clean_when (not (list_any (is role.ItemEntry) ws)) NoItems w.word.line refl) (clean_calc (named role.ItemName ws) [] (filter (is role.CalcItem) ws))

clean_vias : (ws left : List Labelled) → Clean (unknown_vias ws left)
clean_vias ws [] = refl
clean_vias ws (w ∷ left) =
    let unknown = is role.ViaSet w && not (among w.word.text (named role.SetName ws)) in
    clean_both (when unknown (fault UnknownSet w.word.line)) (unknown_vias ws left) (clean_when unknown UnknownSet w.word.line refl) (clean_vias ws left)

clean_member : (ws : List Labelled) → Clean (member_end ws)
clean_member ws =
    let line = line_of (this_member ws) in
    let first = when (is_owner ws) (fault OwnerIsMember line) in
    let second = when (is_there_twice ws) (fault MemberTwice line) in
    let third = when (is_key_wrong ws) (fault KeyMisplaced line) in
    let fourth = when (has_other_key ws) (fault KeyPicturesDiffer line) in
    clean_both (first ++ second ++ third) fourth
    (
    clean_both (first ++ second) third (clean_both first second (clean_when (is_owner ws) OwnerIsMember line refl) (clean_when (is_there_twice ws) MemberTwice line refl))
    (clean_when (is_key_wrong ws) KeyMisplaced line refl)
    )
    (clean_when (has_other_key ws) KeyPicturesDiffer line refl)

clean_said : (ws : List Labelled) (w : Labelled) (r : Role) → Clean (said ws w r)
clean_said ws w role.AreaName = clean_when (is_taken w.word.text ws) NameTaken w.word.line refl
clean_said ws w role.RecordName = clean_when (is_taken w.word.text ws) NameTaken w.word.line refl
clean_said ws w role.SetName = clean_when (is_taken w.word.text ws) NameTaken w.word.line refl
clean_said ws w role.ItemName = clean_when (among w.word.text (named role.ItemName (since role.RecordEntry ws))) ItemNameTwice w.word.line refl
clean_said ws w role.WithinArea = clean_when (not (among w.word.text (named role.AreaName ws))) UnknownArea w.word.line refl
clean_said ws w role.OwnerName = clean_when (not (among w.word.text (named role.RecordName ws))) UnknownRecordType w.word.line refl
clean_said ws w role.MemberName = clean_when (not (among w.word.text (named role.RecordName ws))) UnknownRecordType w.word.line refl
clean_said ws w role.KeyItem = clean_when (not (among w.word.text (items_of (first_named role.MemberName (since role.MemberEntry ws)) ws))) UnknownItem w.word.line refl
clean_said ws w role.MemberEnd = clean_member ws
clean_said ws w _ = refl

clean_ended : (ws : List Labelled) (r : Role) → Clean (ended ws r)
clean_ended ws role.RecordEntry = clean_record (open_record ws)
clean_ended ws role.SetEntry = clean_record (open_record ws)
clean_ended ws _ = refl

clean_at_word : (ws : List Labelled) (w : Labelled) → Clean (at_word ws w)
clean_at_word ws w =
    let surplus = when (is_surplus ws w.role) (fault OverLimit w.word.line) in
    clean_both (ended ws w.role ++ surplus) (said ws w w.role) (clean_both (ended ws w.role) surplus (clean_ended ws w.role) (clean_when (is_surplus ws w.role) OverLimit w.word.line refl)) (clean_said ws w w.role)

clean_at_end : (end : ℕ) (ws : List Labelled) (f : Form) → may_end f ≡ true → Clean (at_end end ws f)
clean_at_end end ws f h = rw h (clean_both (record_end (open_record ws)) (unknown_vias ws ws) (clean_record (open_record ws)) (clean_vias ws ws))

-- where no two words with which a form can go on are of both kinds
abbrev Told : Form → Type 0
Told f = Ranked (λ j k. apart j k ≡ true) f

by_case : (l : Labelled) (left : List Labelled) (end : ℕ) (ws : List Labelled) (f : Form) (o : Option Start) → Told f → start_with fits l.word (starts f) ≡ o → Derives fits f (l ∷ left)
    → ((s : Start) → Among s (starts f) → Derives fits s.rest left → Clean (flat_map (λ here. here) (places end (ws ++ labelled s.role l.word ∷ []) s.rest (words_of left))))
    → Clean (flat_map (λ here. here) (by_start o (λ s. at_word ws (labelled s.role l.word) ∷ places end (ws ++ labelled s.role l.word ∷ []) s.rest (words_of left)) (at_other ws (starts f) l.word ∷ [])))
by_case l left end ws f None t e d rest = absurd (no_way_on fits f l left e d)
by_case l left end ws f (Some s) t e d rest =
    let m = start_found fits l.word (starts f) s e in
    let r = starts_all fits f l left d in
    let same : r.0 ≡ s = elim (chosen fits (λ j k. apart j k ≡ true) l.word (starts f) (in_order (λ j k. apart j k ≡ true) f t) s r.0 e r.1 r.3) [ inl a ↦ a | inr b ↦ absurd (told_apart s.kind r.0.kind l.word b m.1 r.3) ] in
    clean_both (at_word ws (labelled s.role l.word)) (flat_map (λ here. here) (places end (ws ++ labelled s.role l.word ∷ []) s.rest (words_of left)))
    (clean_at_word ws (labelled s.role l.word)) (rest s m.0 (subst (λ (y : Start). Derives fits y.rest left) same r.4))

-- words that a form derives have no fault of the grammar, after any words
clean : (left : List Labelled) (end : ℕ) (ws : List Labelled) (f : Form) → Told f → Derives fits f left → Clean (flat_map (λ here. here) (places end ws f (words_of left)))
clean [] end ws f t d = clean_both (at_end end ws f) [] (clean_at_end end ws f (may_stop fits f d)) refl
clean (l ∷ left) end ws f t d = by_case l left end ws f (start_with fits l.word (starts f)) t refl d (λ s a c. clean left end (ws ++ labelled s.role l.word ∷ []) s.rest (ranked_rest (λ j k. apart j k ≡ true) f t s a) c)

pub clean_text : DerivedHasNoFaultOfGrammar
clean_text text d =
    clean_both (too_long text) (flat_map (λ here. here) (places (last_line text) [] schema (text_words text))) (clean_when (nat_lt SCHEMA_BYTES (length text)) TextTooLong 1 refl)
    (subst (λ (z : List Word). Clean (flat_map (λ here. here) (places (last_line text) [] schema z))) d.1 (clean d.0 (last_line text) [] schema (ranked apart schema schema_is_told) d.2))
