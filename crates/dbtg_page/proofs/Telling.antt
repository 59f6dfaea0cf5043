-- What is told part by part is what the edits say.
use Rattle.std.proofs.Common.{◌≡◌, ◌<◌, ◌≤◌, ◌-◌, ℕ, zero, suc, Bool, Bor, true, false, cond, List, [], ◌∷◌}
use Rattle.std.proofs.Common.{◌++◌, ◌+◌, length, map, Option, Some, None, bytes_eq, get_or, drop, refl, sym, ap, ◌∙◌, arith}
use Rattle.std.specs.Prelude.{IfOk, Result, Ok, Err, decimal, nat_eq, option_map, unwrap_or}
use Rattle.std.proofs.lemmas.List.{append-nil, append_assoc, drop-drop, drop-map, drop_all, drop_more, get_or-drop, get_or-map, length-drop, length-map}
use Rattle.std.proofs.lemmas.Bool.{ne_eqb}
use Rattle.dbtg_page.specs.declared.changes.Kind.{Kind}
use Rattle.dbtg_page.specs.declared.changes.Kind.TheVariants.{Line, Word}
use Rattle.dbtg_page.specs.declared.changes.Told.{Told}
use Rattle.dbtg_page.specs.Json.{field}
use Rattle.dbtg_page.specs.Changes.{Edit, change_fields, edits, gone, line_ops, met, name_by, op, ops, parts, turned, word_edits, word_ops}
use Rattle.dbtg_page.specs.Inside.Telling.{behind_met, left, lines_left, names, texts, words_left}
use Rattle.dbtg_page.specs.Changes.Edit.{Stays, Comes, Turns}

module _ {X : Type 0} (kind : Kind) (turn : List ℕ → List ℕ → Edit X) (wrap : List ℕ → List ℕ) (print : X → List ℕ) where
  -- by one new part
  step : (old : List (List ℕ)) (n : List ℕ) (ns : List (List ℕ)) (m : Option ℕ) → met (map (name_by kind) old) (name_by kind n) (map (name_by kind) ns) ≡ m
      → edits (name_by kind) turn old (n ∷ ns) ≡ unwrap_or (option_map (λ p. gone p ++ turn (get_or old p []) n ∷ edits (name_by kind) turn (drop
      (p + 1) old) ns) m) (Comes n ∷ edits (name_by kind) turn old ns)
  unfolding edits
  step old n ns m e = ap (λ o. unwrap_or (option_map (λ p. gone p ++ turn (get_or old p []) n ∷ edits (name_by kind) turn (drop (p + 1) old) ns) o)
      (Comes n ∷ edits (name_by kind) turn old ns)) e

  -- those that go before one that stays, and before one that turns
  before_stay : (stay p : ℕ) (es : List (Edit X)) → ops wrap print stay (gone p ++ Stays ∷ es) ≡ ops wrap print stay (gone p)
      ++ ops wrap print (cond (nat_eq p 0) (stay + 1) 1) es
  before_stay stay zero es = refl
  before_stay stay (suc p) es = rw (ne_eqb (suc p) 0 (λ h. absurd (omega (arith, h)))) (ap (λ t. t
      ++ ops wrap print 1 es) (sym (append-nil (wrap (op stay 45 (decimal (suc p)))))))

  before_turn : (stay p : ℕ) (x : X) (es : List (Edit X)) → ops wrap print stay (gone p ++ Turns x ∷ es) ≡ ops wrap print stay (gone p)
      ++ (wrap (op (cond (nat_eq p 0) stay 0) 126 (print x)) ++ ops wrap print 0 es)
  before_turn stay zero x es = refl
  before_turn stay (suc p) x es = rw (ne_eqb (suc p) 0 (λ h. absurd (omega (arith, h)))) (ap (λ t. t ++ (wrap (op 0 126 (print x))
      ++ ops wrap print 0 es)) (sym (append-nil (wrap (op stay 45 (decimal (suc p)))))))

  module _ (old new : List (Bor (List ℕ))) (i : ℕ) (d : Bor (List ℕ)) (lt : i < length new) (told : Told) where
    rest : (p : ℕ) → drop (p + 1) (texts (drop told.at old)) ≡ texts (drop (told.at + p + 1) old)
    rest p =
        let far : told.at + (p + 1) ≡ told.at + p + 1 = omega arith in
        drop-map (λ b. b.now) (p + 1) (drop told.at old) ∙ ap texts (drop-drop (p + 1) told.at old ∙ ap (λ n. drop n old) far)

    here : left kind turn wrap print told old (drop i new) ≡ ops wrap print told.stay (edits (name_by kind) turn (texts (drop told.at old))
        ((get_or new i d).now ∷ texts (drop (i + 1) new)))
    here = ap (λ ns. left kind turn wrap print told old ns) (drop_more new i d lt)

    pub comes : (out more : List ℕ) → met (names kind (drop told.at old)) (name_by kind (get_or new i d).now) (names kind (drop (i + 1) new)) ≡ None
        → more ≡ out ++ wrap (op told.stay 43 (get_or new i d).now)
        → more ++ left kind turn wrap print (record { stay = 0; at = told.at }) old (drop (i + 1) new) ≡ out ++ left kind turn wrap print told old (drop i new)
    comes out more e is =
        let tail = left kind turn wrap print (record { stay = 0; at = told.at }) old (drop (i + 1) new) in
        ap (λ t. t ++ tail) is ∙ append_assoc out (wrap (op told.stay 43 (get_or new i d).now)) tail
        ∙ ap (λ t. out ++ t) (sym (here ∙ ap (ops wrap print told.stay) (step (texts (drop told.at old)) (get_or new i d).now (texts (drop
        (i + 1) new)) None e)))

    pub stays_on : (p : ℕ) (out more : List ℕ) → met (names kind (drop told.at old)) (name_by kind (get_or new i d).now) (names kind (drop (i + 1) new))
        ≡ Some p
        → turn (get_or (texts (drop told.at old)) p []) (get_or new i d).now ≡ Stays
        → more ≡ out ++ ops wrap print told.stay (gone p)
        → more ++ left kind turn wrap print (behind_met told p) old (drop (i + 1) new) ≡ out ++ left kind turn wrap print told old (drop i new)
    stays_on p out more e turns is =
        let es = edits (name_by kind) turn (drop (p + 1) (texts (drop told.at old))) (texts (drop (i + 1) new)) in
        let tail = left kind turn wrap print (behind_met told p) old (drop (i + 1) new) in
        ap (λ t. t ++ tail) is ∙ append_assoc out (ops wrap print told.stay (gone p)) tail
        ∙ ap (λ t. out ++ t) (sym (
        here ∙ ap (ops wrap print told.stay) (step (texts (drop told.at old)) (get_or new i d).now (texts (drop (i + 1) new)) (Some p) e)
        ∙ ap (λ one. ops wrap print told.stay (gone p ++ one ∷ es)) turns
        ∙ before_stay told.stay p es
        ∙ ap (λ os. ops wrap print told.stay (gone p) ++ ops wrap print (cond (nat_eq p 0) (told.stay + 1) 1) (edits (name_by kind) turn os (texts (drop
        (i + 1) new)))) (rest p)))

    pub turns_on : (p : ℕ) (x : X) (out more : List ℕ) → met (names kind (drop told.at old)) (name_by kind (get_or new i d).now) (names kind (drop
        (i + 1) new)) ≡ Some p
        → turn (get_or (texts (drop told.at old)) p []) (get_or new i d).now ≡ Turns x
        → more ≡ out ++ (ops wrap print told.stay (gone p) ++ wrap (op (cond (nat_eq p 0) told.stay 0) 126 (print x)))
        → more ++ left kind turn wrap print (record { stay = 0; at = told.at + p + 1 }) old (drop (i + 1) new) ≡ out
        ++ left kind turn wrap print told old (drop i new)
    turns_on p x out more e turns is =
        let es = edits (name_by kind) turn (drop (p + 1) (texts (drop told.at old))) (texts (drop (i + 1) new)) in
        let tail = left kind turn wrap print (record { stay = 0; at = told.at + p + 1 }) old (drop (i + 1) new) in
        let first = ops wrap print told.stay (gone p) in
        let second = wrap (op (cond (nat_eq p 0) told.stay 0) 126 (print x)) in
        ap (λ t. t ++ tail) is ∙ append_assoc out (first ++ second) tail
        ∙ ap (λ t. out ++ t) (append_assoc first second tail)
        ∙ ap (λ t. out ++ t) (sym (
        here ∙ ap (ops wrap print told.stay) (step (texts (drop told.at old)) (get_or new i d).now (texts (drop (i + 1) new)) (Some p) e)
        ∙ ap (λ one. ops wrap print told.stay (gone p ++ one ∷ es)) turns
        ∙ before_turn told.stay p x es
        ∙ ap (λ os. first ++ (second ++ ops wrap print 0 (edits (name_by kind) turn os (texts (drop (i + 1) new))))) (rest p)))

  -- at the end
  pub at_end : (old new : List (Bor (List ℕ))) (i : ℕ) (told : Told) → length new ≤ i → ops wrap print told.stay (gone (length old - told.at))
      ≡ left kind turn wrap print told old (drop i new)
  unfolding edits
  at_end old new i told le =
      let long : length old - told.at ≡ length (texts (drop told.at old)) = sym (length-map (drop told.at old) (λ b. b.now) ∙ length-drop told.at old) in
      ap (λ n. ops wrap print told.stay (gone n)) long ∙ ap (λ ns. left kind turn wrap print told old ns) (sym (drop_all i new le))

-- the words of two lines, and the lines of two texts
pub words_of_parts : (olds news : List (Bor (List ℕ))) (old new : List ℕ) → map (λ p. p.now) olds ≡ parts 32 old → map (λ p. p.now) news ≡ parts 32 new
    → words_left (record { stay = 0; at = 0 }) olds news ≡ word_ops 0 (word_edits old new)
unfolding words_left
words_of_parts olds news old new o n = ap (λ os. word_ops 0 (edits (name_by Word) (λ a b. Stays) os (texts news))) o
    ∙ ap (λ ns. word_ops 0 (edits (name_by Word) (λ a b. Stays) (parts 32 old) ns)) n

pub lines_of_parts : (olds news : List (Bor (List ℕ))) (old new : List ℕ) → map (λ p. p.now) olds ≡ parts 10 old → map (λ p. p.now) news ≡ parts 10 new
    → lines_left (record { stay = 0; at = 0 }) olds news ≡ change_fields old new
unfolding lines_left change_fields
lines_of_parts olds news old new o n = ap (λ os. line_ops 0 (edits (name_by Line) turned os (texts news))) o
    ∙ ap (λ ns. line_ops 0 (edits (name_by Line) turned (parts 10 old) ns)) n

-- what is met among parts is met among the same parts
pub met_moved : (kind : Kind) (olds old laters later : List (Bor (List ℕ))) (name : List ℕ) (r s : Option ℕ) → r
    ≡ met (names kind olds) name (names kind laters) → r ≡ s → olds ≡ old → laters ≡ later
    → met (names kind old) name (names kind later) ≡ s
met_moved kind olds old laters later name r s is e o l =
    ap (λ t. met (names kind t) name (names kind later)) (sym o) ∙ ap (λ t. met (names kind olds) name (names kind t)) (sym l) ∙ sym is ∙ e

pub both_ok : {A E : Type 0} {P Q R : A → Type 0} (r : Result A E) → IfOk r P → IfOk r Q → ((x : A) → P x → Q x → R x) → IfOk r R
both_ok (Ok x) p q f = f x p q
both_ok (Err e) p q f = p

-- the old part that is met
pub old_at : (old : List (Bor (List ℕ))) (at p : ℕ) (d : Bor (List ℕ)) → p < length (drop at old) → get_or (texts (drop at old)) p []
    ≡ (get_or old (at + p) d).now
old_at old at p d lt = get_or-map (λ b. b.now) (drop at old) p d [] lt ∙ ap (λ b. b.now) (get_or-drop at old p d)

module _ (old new : List (Bor (List ℕ))) (i : ℕ) (d : Bor (List ℕ)) (lt : i < length new) (told : Told) (p : ℕ) (o : List ℕ) (out mid more : List ℕ)
    (then far : Told) where
  pub line_met : met (names Line (drop told.at old)) (name_by Line (get_or new i d).now) (names Line (drop (i + 1) new)) ≡ Some p
      → get_or (texts (drop told.at old)) p [] ≡ o → mid ≡ out ++ line_ops told.stay (gone p) → far ≡ behind_met told p
      → (bytes_eq o (get_or new i d).now ≡ true → (then ≡ far) × (more ≡ mid))
      → (bytes_eq o (get_or new i d).now ≡ false → (then ≡ record { stay = 0; at = far.at }) × (more ≡ mid
      ++ field (op (far.stay - 1) 126 (word_ops 0 (word_edits o (get_or new i d).now)))))
      → more ++ lines_left then old (drop (i + 1) new) ≡ out ++ lines_left told old (drop i new)
  unfolding lines_left
  line_met e at gones far_is same other = by (bytes_eq o (get_or new i d).now) refl
    where
      less : (k : ℕ) → (cond (nat_eq k 0) (told.stay + 1) 1) - 1 ≡ cond (nat_eq k 0) told.stay 0
      less zero = omega arith
      less (suc k) = rw (ne_eqb (suc k) 0 (λ h. absurd (omega (arith, h)))) refl

      by : (b : Bool) → bytes_eq o (get_or new i d).now ≡ b → more ++ left Line turned field (word_ops 0) then old (drop (i + 1) new) ≡ out
          ++ left Line turned field (word_ops 0) told old (drop i new)
      by true k =
          let s = same k in
          let turns : turned (get_or (texts (drop told.at old)) p []) (get_or new i d).now ≡ Stays = ap (λ t. turned t (get_or new i d).now) at
          ∙ ap (λ b. cond b Stays (Turns (word_edits o (get_or new i d).now))) k in
          ap (λ t. more ++ left Line turned field (word_ops 0) t old (drop (i + 1) new)) (s.0 ∙ far_is)
          ∙ stays_on Line turned field (word_ops 0) old new i d lt told p out more e turns (s.1 ∙ gones)
      by false k =
          let s = other k in
          let turns : turned (get_or (texts (drop told.at old)) p []) (get_or new i d).now ≡ Turns (word_edits o (get_or new i d).now) = ap (λ t. turned t
          (get_or new i d).now) at ∙ ap (λ b. cond b Stays (Turns (word_edits o (get_or new i d).now))) k in
          let text : more ≡ out ++ (line_ops told.stay (gone p) ++ field (op (cond (nat_eq p 0) told.stay 0) 126 (word_ops 0 (word_edits o
          (get_or new i d).now)))) =
          s.1 ∙ ap (λ t. mid ++ field (op (t.stay - 1) 126 (word_ops 0 (word_edits o (get_or new i d).now)))) far_is ∙ ap (λ m. m
          ++ field (op ((behind_met told p).stay - 1) 126 (word_ops 0 (word_edits o (get_or new i d).now)))) gones
          ∙ ap (λ k. (out ++ line_ops told.stay (gone p)) ++ field (op k 126 (word_ops 0 (word_edits o (get_or new i d).now)))) (less p)
          ∙ append_assoc out (line_ops told.stay (gone p)) (field (op (cond (nat_eq p 0) told.stay 0) 126 (word_ops 0 (word_edits o (get_or new i d).now)))) in
          ap (λ t. more ++ left Line turned field (word_ops 0) t old (drop (i + 1) new)) (s.0 ∙ ap (λ (t : Told). record { stay = 0; at = t.at }) far_is)
          ∙ turns_on Line turned field (word_ops 0) old new i d lt told p (word_edits o (get_or new i d).now) out more e turns text
