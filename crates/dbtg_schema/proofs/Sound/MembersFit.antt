-- In a text without faults the members of a set differ, none is the owner, and they have keys exactly if the set is sorted.
use Rattle.std.proofs.Common.{◌≡◌, Option, ℕ, ◌+◌, ◌<◌, ◌≤◌, Bool, true, false, cond, not, ◌||◌, List, [], ◌∷◌, ◌++◌, map, refl, sym, ap, subst, ◌∙◌, append_assoc, arith, inl, inr}
use Rattle.std.specs.Prelude.{codes, nat_le}
use Rattle.std.specs.List.{count_by, list_any, AllByRecursion}
use Rattle.std.specs.Str.{bytes_eq}
use Rattle.std.proofs.lemmas.Bool.{cases_Bool, or_parts, leb-false}
use Rattle.std.proofs.lemmas.List.{append-nil, map-append}
use Rattle.std.proofs.lemmas.List.Folds.{list_any-append}
use Rattle.std.proofs.lemmas.List.Sums.{sum_by-cons}
use Rattle.dbtg_schema.specs.declared.fault.Cause.TheVariants.{OwnerIsMember, MemberTwice, KeyMisplaced, KeyPicturesDiffer}
use Rattle.dbtg_schema.specs.declared.shape.Picture.{Picture}
use Rattle.dbtg_schema.specs.declared.role.Role.{Role}
use Rattle.dbtg_schema.specs.declared.role.Role.TheVariants as role
use Rattle.dbtg_schema.specs.Texts.Forms.{labelled, Derives}
use Rattle.dbtg_schema.specs.Texts.SchemaGrammar.{Labelled, fits, key, member}
use Rattle.dbtg_schema.specs.Texts.Labels.{is, named, since, entries, first_named}
use Rattle.dbtg_schema.specs.Texts.SchemaFaults.{when, fault, line_of, this_member, this_set, is_owner, is_there_twice, is_key_wrong, has_other_key, key_picture, member_end, unequal}
use Rattle.dbtg_schema.specs.Texts.SchemaLists.{has}
use Rattle.dbtg_schema.specs.Texts.Spelling.{among}
use Rattle.dbtg_schema.specs.WellFormed.{distinct}
use Rattle.dbtg_schema.specs.Texts.Words.{Word}
use Rattle.dbtg_schema.proofs.Sound.Distinct.{bytes_same, distinct_behind}
use Rattle.dbtg_schema.proofs.Forms.Grammar.{right, lacks, lacking, entries_behind}
use Rattle.dbtg_schema.proofs.Sound.Limits.{both_nil, not_when}
use Rattle.dbtg_schema.proofs.Sound.NamesDiffer.{unsaid}
use Rattle.dbtg_schema.proofs.Forms.Parts.{flat, Begins, begins, begins_append, since_begins, clean_parts, entries_are, named_append, named_none, named_parts, once, first_named_front}
use Rattle.dbtg_schema.proofs.Sound.TextParts.{set_head, set_head_begins, member_head, member_parts, member_head_begins, all_begin, none_in_parts}
use Rattle.dbtg_schema.proofs.Forms.Walks.{EachClean}

-- what is wrong at the end of a MEMBER sentence after these words: nothing
pub record Ended (ws : List Labelled) : Type 0 where
  pub no_owner : is_owner ws ≡ false
  pub once_there : is_there_twice ws ≡ false
  pub key_right : is_key_wrong ws ≡ false
  pub one_picture : has_other_key ws ≡ false

ended_of : (ws : List Labelled) → member_end ws ≡ [] → Ended ws
ended_of ws h =
    let line = line_of (this_member ws) in
    let a = both_nil (when (is_owner ws) (fault OwnerIsMember line) ++ when (is_there_twice ws) (fault MemberTwice line) ++ when (is_key_wrong ws) (fault KeyMisplaced line)) (when (has_other_key ws) (fault KeyPicturesDiffer line)) h in
    let b = both_nil (when (is_owner ws) (fault OwnerIsMember line) ++ when (is_there_twice ws) (fault MemberTwice line)) (when (is_key_wrong ws) (fault KeyMisplaced line)) a.0 in
    let c = both_nil (when (is_owner ws) (fault OwnerIsMember line)) (when (is_there_twice ws) (fault MemberTwice line)) b.0 in
    record {
      no_owner = not_when (is_owner ws) (fault OwnerIsMember line) c.0;
      once_there = not_when (is_there_twice ws) (fault MemberTwice line) c.1;
      key_right = not_when (is_key_wrong ws) (fault KeyMisplaced line) b.1;
      one_picture = not_when (has_other_key ws) (fault KeyPicturesDiffer line) a.1;
    }

-- the words of a MEMBER sentence up to its period, and the period
pub record Sentence (p : List Labelled) : Type 0 where
  pub body : List Labelled
  pub stop : Word
  pub whole : p ≡ body ++ labelled role.MemberEnd stop ∷ []
  pub is_body : Derives fits member_head body

pub sentence : (p : List Labelled) → Derives fits member p → Sentence p
sentence p d =
    let parts = member_parts p d in
    record { body = parts.0; stop = parts.4.0; whole = parts.2 ∙ ap (λ (z : List Labelled). parts.0 ++ z) parts.4.1; is_body = parts.3 }

-- each sentence of a set, after the sentences before it: nothing is wrong at its end
abbrev pub EachEnds : List Labelled → List (List Labelled) → Type 0
EachEnds before [] = Unit {0}
EachEnds before (p ∷ parts) = ((body : List Labelled) × (stop : Word) × (p ≡ body ++ labelled role.MemberEnd stop ∷ []) × Derives fits member_head body × Ended (before ++ body)) × EachEnds (before ++ p) parts

pub each_ends : (before : List Labelled) (parts : List (List Labelled)) (rest : List Labelled) → AllByRecursion (Derives fits member) parts → EachClean before (flat parts ++ rest) → EachEnds before parts
each_ends before [] rest all c = tt
each_ends before (p ∷ parts) rest all c =
    let s = sentence p all.0 in
    let one = clean_parts before p (flat parts ++ rest) (subst (EachClean before) (append_assoc p (flat parts) rest) c) in
    let last = clean_parts before s.body (labelled role.MemberEnd s.stop ∷ []) (subst (EachClean before) s.whole one.0) in
    ((s.body, s.stop, s.whole, s.is_body, ended_of (before ++ s.body) (unsaid role.MemberEnd (before ++ s.body) (labelled role.MemberEnd s.stop) last.1.0 refl)), each_ends (before ++ p) parts rest all.1 one.1)

-- what is derived part by part ends with one more part
begins_all : (earlier : List (List Labelled)) (body : List Labelled) → AllByRecursion (Begins role.MemberEntry) earlier → Begins role.MemberEntry body → AllByRecursion (Begins role.MemberEntry) (earlier ++ body ∷ [])
begins_all [] body all b = (b, tt)
begins_all (p ∷ earlier) body all b = (all.0, begins_all earlier body all.1 b)

pub flat_more : (earlier : List (List Labelled)) (body : List Labelled) → flat (earlier ++ body ∷ []) ≡ flat earlier ++ body
flat_more [] body = append-nil body
flat_more (p ∷ earlier) body = ap (λ (z : List Labelled). p ++ z) (flat_more earlier body) ∙ sym (append_assoc p (flat earlier) body)

is_sentence : (p : List Labelled) → Derives fits member p → Begins role.MemberEntry p
is_sentence p d = begins role.MemberEntry (key (codes "MEMBER")) (right member) p d refl

module _ (before head : List Labelled) (is_head : Derives fits set_head head) (earlier : List (List Labelled)) (each : AllByRecursion (Derives fits member) earlier) (body : List Labelled) (is_body : Derives fits member_head body) where
  abbrev pub so_far : List Labelled
  so_far = head ++ flat earlier

  abbrev pub position : List Labelled
  position = before ++ so_far ++ body

  pub set_here : this_set position ≡ so_far ++ body
  set_here =
      ap (since role.SetEntry) (append_assoc before so_far body)
      ∙ since_begins role.SetEntry before (so_far ++ body) (begins_append role.SetEntry so_far body
      (begins_append role.SetEntry head (flat earlier) (set_head_begins head is_head) (none_in_parts role.SetEntry member earlier each refl)) (lacking role.SetEntry member_head body is_body refl))

  pub member_here : this_member position ≡ body
  member_here = since_begins role.MemberEntry (before ++ so_far) body (member_head_begins body is_body)

  -- a role that the sentences don't have
  pub in_head : (r : Role) → lacks r member ≡ true → lacks r member_head ≡ true → list_any (is r) (so_far ++ body) ≡ list_any (is r) head
  in_head r none none_body =
      list_any-append (is r) so_far body ∙ (λ i. list_any-append (is r) head (flat earlier) i || lacking r member_head body is_body none_body i)
      ∙ (λ i. (list_any (is r) head || none_in_parts r member earlier each none i) || false) ∙ nothing_more (list_any (is r) head)
    where
      nothing_more : (b : Bool) → ((b || false) || false) ≡ b
      nothing_more true = refl
      nothing_more false = refl

  pub named_in_head : (r : Role) → lacks r member ≡ true → lacks r member_head ≡ true → named r (so_far ++ body) ≡ named r head
  named_in_head r none none_body =
      named_append r so_far body ∙ (λ i. named_append r head (flat earlier) i ++ named_none r body (lacking r member_head body is_body none_body) i)
      ∙ (λ i. (named r head ++ named_none r (flat earlier) (none_in_parts r member earlier each none) i) ++ []) ∙ append-nil (named r head ++ []) ∙ append-nil (named r head)

  names_here : named role.MemberName (so_far ++ body) ≡ map (first_named role.MemberName) earlier ++ first_named role.MemberName body ∷ []
  names_here =
      named_append role.MemberName so_far body
      ∙ (λ i. named_append role.MemberName head (flat earlier) i ++ once role.MemberName member_head body is_body refl refl refl i)
      ∙ (λ i. (named_none role.MemberName head (lacking role.MemberName set_head head is_head refl) i ++ named_parts role.MemberName member earlier each refl refl refl i) ++ first_named role.MemberName body ∷ [])

  pub not_owner : is_owner position ≡ false → among (first_named role.MemberName body) (named role.OwnerName head) ≡ false
  not_owner h =
      (λ i. among (first_named role.MemberName (sym member_here i)) (sym (named_in_head role.OwnerName refl refl) i)) ∙ (λ i. among (first_named role.MemberName (this_member position)) (named role.OwnerName (sym set_here i))) ∙ h

  pub not_there : is_there_twice position ≡ false → among (first_named role.MemberName body) (map (first_named role.MemberName) earlier) ≡ false
  not_there h =
      one_alone (first_named role.MemberName body) (map (first_named role.MemberName) earlier)
      ((λ i. nat_le 2 (count_by (bytes_eq (first_named role.MemberName body)) (sym names_here i))) ∙ (λ i. nat_le 2 (count_by (bytes_eq (first_named role.MemberName (sym member_here i))) (named role.MemberName (sym set_here i)))) ∙ h)
    where
      one_alone : (n : List ℕ) (xs : List (List ℕ)) → nat_le 2 (count_by (bytes_eq n) (xs ++ n ∷ [])) ≡ false → among n xs ≡ false
      one_alone n xs h = alone xs (leb-false 2 (count_by (bytes_eq n) (xs ++ n ∷ [])) h)
        where
          counted : (x : List ℕ) (xs : List (List ℕ)) → count_by (bytes_eq n) ((x ∷ xs) ++ n ∷ []) ≡ cond {A = ℕ} (bytes_eq n x) 1 0 + count_by (bytes_eq n) (xs ++ n ∷ [])
          counted x xs = sum_by-cons (λ y. cond (bytes_eq n y) 1 0) x (xs ++ n ∷ [])

          one_at_least : (xs : List (List ℕ)) → 1 ≤ count_by (bytes_eq n) (xs ++ n ∷ [])
          one_at_least [] = let here : cond {A = ℕ} (bytes_eq n n) 1 0 ≡ 1 = ap (λ b. cond b 1 0) (bytes_same n) in omega (arith, here)
          one_at_least (x ∷ xs) = let more = one_at_least xs in let e = counted x xs in omega (arith, e)

          alone : (xs : List (List ℕ)) → count_by (bytes_eq n) (xs ++ n ∷ []) < 2 → among n xs ≡ false
          alone [] h = refl
          alone (x ∷ xs) h = elim (cases_Bool (bytes_eq n x)) [
            | inl t ↦
                let here : cond {A = ℕ} (bytes_eq n x) 1 0 ≡ 1 = ap (λ b. cond b 1 0) t in
                let more = one_at_least xs in
                let e = counted x xs in
                absurd (omega (arith, here, e))
            | inr f ↦
                let here : cond {A = ℕ} (bytes_eq n x) 1 0 ≡ 0 = ap (λ b. cond b 1 0) f in
                let e = counted x xs in
                ap (λ b. b || among n xs) f ∙ alone xs (omega (arith, here, e))
          ]

  pub key_as_sorted : is_key_wrong position ≡ false → has role.KeyItem body ≡ has role.Sorted head
  key_as_sorted h =
      both_ways (has role.KeyItem body) (has role.Sorted head)
      ((λ i. cond (list_any (is role.KeyItem) (sym member_here i)) (not (sorted i)) (sorted i)) ∙ h)
    where
      sorted : list_any (is role.Sorted) head ≡ list_any (is role.Sorted) (this_set position)
      sorted = sym (in_head role.Sorted refl refl) ∙ ap (list_any (is role.Sorted)) (sym set_here)

      both_ways : (a b : Bool) → cond a (not b) b ≡ false → a ≡ b
      both_ways true true h = refl
      both_ways true false h = absurd cc
      both_ways false true h = absurd cc
      both_ways false false h = refl

  pub sentences_here : entries role.MemberEntry (so_far ++ body) ≡ earlier ++ body ∷ []
  sentences_here =
      ap (entries role.MemberEntry) (append_assoc head (flat earlier) body) ∙ entries_behind role.MemberEntry head (flat earlier ++ body) (lacking role.MemberEntry set_head head is_head refl)
      ∙ ap (entries role.MemberEntry) (sym (flat_more earlier body))
      ∙ entries_are role.MemberEntry (earlier ++ body ∷ []) (begins_all earlier body (all_begin role.MemberEntry member earlier each is_sentence) (member_head_begins body is_body))

  -- the first sentence has no other key picture
  pub first_picture : (first : List Labelled) (others : List (List Labelled)) → earlier ≡ first ∷ others → has_other_key position ≡ false → unequal (key_picture position first) (key_picture position body) ≡ false
  first_picture first others e h =
      (or_parts (unequal (key_picture position first) (key_picture position body)) (list_any (λ m. unequal (key_picture position m) (key_picture position body)) (others ++ body ∷ []))
      (ap (λ (z : List (List Labelled)). list_any (λ m. unequal (key_picture position m) (key_picture position body)) (z ++ body ∷ [])) (sym e)
      ∙ ap (list_any (λ m. unequal (key_picture position m) (key_picture position body))) (sym sentences_here)
      ∙ (λ i. list_any (λ m. unequal (key_picture position m) (key_picture position (sym member_here i))) (entries role.MemberEntry (sym set_here i))) ∙ h)).0

-- A WHOLE SET

-- what a sentence says, by its words up to the period
pub record IsTold (p body : List Labelled) : Type 0 where
  pub name : first_named role.MemberName p ≡ first_named role.MemberName body
  pub key_name : first_named role.KeyItem p ≡ first_named role.KeyItem body
  pub has_key : has role.KeyItem p ≡ has role.KeyItem body

pub told : (p body : List Labelled) (stop : Word) → p ≡ body ++ labelled role.MemberEnd stop ∷ [] → IsTold p body
told p body stop e = record {
  name = ap (first_named role.MemberName) e ∙ first_named_front role.MemberName body (labelled role.MemberEnd stop ∷ []) refl;
  key_name = ap (first_named role.KeyItem) e ∙ first_named_front role.KeyItem body (labelled role.MemberEnd stop ∷ []) refl;
  has_key = ap (has role.KeyItem) e ∙ list_any-append (is role.KeyItem) body (labelled role.MemberEnd stop ∷ []) ∙ or_false (has role.KeyItem body);
}
  where
    or_false : (b : Bool) → (b || false) ≡ b
    or_false true = refl
    or_false false = refl

-- the member types of sentences are not the owner's; keys are there just where the set is sorted
abbrev pub Fit : List Labelled → List (List Labelled) → Type 0
Fit head [] = Unit {0}
Fit head (p ∷ parts) = ((among (first_named role.MemberName p) (named role.OwnerName head) ≡ false) × (has role.KeyItem p ≡ has role.Sorted head)) × Fit head parts

pub all_more : (earlier : List (List Labelled)) (p : List Labelled) → AllByRecursion (Derives fits member) earlier → Derives fits member p → AllByRecursion (Derives fits member) (earlier ++ p ∷ [])
all_more [] p all d = (d, tt)
all_more (q ∷ earlier) p all d = (all.0, all_more earlier p all.1 d)

module _ (before head : List Labelled) (is_head : Derives fits set_head head) where
  abbrev pub behind_them : List (List Labelled) → List Labelled
  behind_them earlier = before ++ (head ++ flat earlier)

  pub one_further : (earlier : List (List Labelled)) (p : List Labelled) (parts : List (List Labelled)) → EachEnds (behind_them earlier ++ p) parts → EachEnds (behind_them (earlier ++ p ∷ [])) parts
  one_further earlier p parts h = subst (λ (z : List Labelled). EachEnds z parts) (append_assoc before (head ++ flat earlier) p ∙ ap (λ (z : List Labelled). before ++ z) (append_assoc head (flat earlier) p ∙ ap (λ (z : List Labelled). head ++ z) (sym (flat_more earlier p)))) h

  pub members_fit : (earlier parts : List (List Labelled)) → AllByRecursion (Derives fits member) earlier → AllByRecursion (Derives fits member) parts → EachEnds (behind_them earlier) parts → Fit head parts
  members_fit earlier [] all each h = tt
  members_fit earlier (p ∷ parts) all each h =
      let body = h.0.0 in
      let t = told p body h.0.1 h.0.2 in (
        (ap (λ z. among z (named role.OwnerName head)) t.name ∙ not_owner before head is_head earlier all body h.0.3 h.0.4.no_owner, t.has_key ∙ key_as_sorted before head is_head earlier all body h.0.3 h.0.4.key_right),
        members_fit (earlier ++ p ∷ []) parts (all_more earlier p all each.0) each.1 (one_further earlier p parts h.1),
      )

  -- the names of members differ
  pub members_differ : (earlier parts : List (List Labelled)) → AllByRecursion (Derives fits member) earlier → AllByRecursion (Derives fits member) parts → EachEnds (behind_them earlier) parts
      → distinct bytes_eq (map (first_named role.MemberName) earlier) ≡ true → distinct bytes_eq (map (first_named role.MemberName) (earlier ++ parts)) ≡ true
  members_differ earlier [] all each h d = subst (λ (z : List (List Labelled)). distinct bytes_eq (map (first_named role.MemberName) z) ≡ true) (sym (append-nil earlier)) d
  members_differ earlier (p ∷ parts) all each h d =
      let body = h.0.0 in
      let t = told p body h.0.1 h.0.2 in
      let new : among (first_named role.MemberName p) (map (first_named role.MemberName) earlier) ≡ false = ap (λ z. among z (map (first_named role.MemberName) earlier)) t.name ∙ not_there before head is_head earlier all body h.0.3 h.0.4.once_there in
      let one = subst (λ z. distinct bytes_eq z ≡ true) (sym (map-append (first_named role.MemberName) earlier (p ∷ []))) (distinct_behind (map (first_named role.MemberName) earlier) (first_named role.MemberName p) d new) in
      subst (λ (z : List (List Labelled)). distinct bytes_eq (map (first_named role.MemberName) z) ≡ true) (append_assoc earlier (p ∷ []) parts)
      (members_differ (earlier ++ p ∷ []) parts (all_more earlier p all each.0) each.1 (one_further earlier p parts h.1) one)

  -- the keys of all sentences after the first have its picture
  pub pictures_agree : (picture : List Labelled → Option Picture) → ((earlier : List (List Labelled)) (body m : List Labelled) → AllByRecursion (Derives fits member) earlier → Derives fits member_head body → key_picture (behind_them earlier ++ body) m ≡ picture m)
      → (first : List Labelled) (others parts : List (List Labelled)) → AllByRecursion (Derives fits member) (first ∷ others) → AllByRecursion (Derives fits member) parts → EachEnds (behind_them (first ∷ others)) parts
      → ((p body : List Labelled) → IsTold p body → picture p ≡ picture body) → AllByRecursion (λ p. unequal (picture first) (picture p) ≡ false) parts
  pictures_agree picture same first others [] all each h by_told = tt
  pictures_agree picture same first others (p ∷ parts) all each h by_told =
      let body = h.0.0 in
      let t = told p body h.0.1 h.0.2 in
      let apart = first_picture before head is_head (first ∷ others) all body h.0.3 first others refl h.0.4.one_picture in (
        ap (unequal (picture first)) (by_told p body t) ∙ (λ i. unequal (sym (same (first ∷ others) body first all h.0.3) i) (sym (same (first ∷ others) body body all h.0.3) i)) ∙ apart,
        pictures_agree picture same first (others ++ p ∷ []) parts (all_more (first ∷ others) p all each.0) each.1 (one_further (first ∷ others) p parts h.1) by_told,
      )
