-- What the code's steps do to a whole ring.
use Rattle.std.proofs.Common.{◌≡◌, ◌≢◌, ℕ, zero, suc, ◌+◌, Bool, true, false, cond, List, [], ◌∷◌, ◌++◌, map, reverse, length, Option, Some, None, Contains, refl, sym, ap, ◌∙◌, arith, inl, inr, true≢false, subst}
use Rattle.std.proofs.lemmas.Bool.{cases_eq}
use Rattle.std.proofs.lemmas.List.{map-append, length-map, length-append, take_at, drop_at, append-nil}
use Rattle.std.proofs.Common.{add-zero, ◌||◌}
use Rattle.slab.proofs.SlabLemmas.{Contains-cons, Contains-cons_cases}
use Rattle.std.specs.List.{insert}
use Rattle.std.specs.Option.{option_map, option_map_or, IsSome, IfSome}
use Rattle.std.proofs.Common.{Result, Ok, Err, IsOk, OnOk}
use Rattle.std.proofs.lemmas.Option.{same_Some}
use Rattle.dbtg_cells.specs.declared.key.DbKey.{DbKey}
use Rattle.dbtg_cells.specs.Keys.{key_eq}
use Rattle.dbtg_cells.proofs.KeysAlike.{key_eq_refl, same_key}
use Rattle.dbtg_cells.specs.Members.{Entry}
use Rattle.dbtg_cells.specs.declared.links.Node.{Node}
use Rattle.dbtg_cells.specs.Inside.Chain.{Slots, Link, slot, key_at, linked_at, node_of, head_at, last_at, Seg, Avoids, Apart, LiesAt, follow, follow_back, end_or, unlinked_keys, IsRing}
use Rattle.dbtg_cells.specs.Inside.Links.{put, put_if, with_next, with_prior, as_linked, as_unlinked, linked_in, linked_out}
use Rattle.dbtg_cells.specs.Members.{has_key}
use Rattle.dbtg_cells.proofs.Places.{place_of, HasMember}
use Rattle.dbtg_cells.proofs.LinksWritten.{slot_put_other, slot_put_at, Avoids_right, Seg_left, Seg_right, Seg_linked_in, Seg_linked_out, Apart_with, Apart_without, follow_Seg, follow_back_Seg}

abbrev pub members : List Link → List Entry
members = map (λ e. e.member)

-- where a list of links has a member with this key
pub record Split (es : List Link) (k : DbKey) : Type 0 where
  pub before : List Link
  pub here : Link
  pub after : List Link
  pub whole : es ≡ before ++ here ∷ after
  pub key : here.member.0 ≡ k

pub split_at : (k : DbKey) (es : List Link) → HasMember (members es) k → Split es k
split_at k [] h = absurd (cc)
split_at k (e ∷ es) h = by (has_key k e.member) refl (λ p. split_at k es (rw p at h))
  where
    by : (b : Bool) → has_key k e.member ≡ b → (has_key k e.member ≡ false → Split es k) → Split (e ∷ es) k
    by true p rest = record { before = []; here = e; after = es; whole = refl; key = sym (same_key _ _ p) }
    by false p rest =
        let r = rest p in
        record { before = e ∷ r.before; here = r.here; after = r.after; whole = ap (λ fs. e ∷ fs) r.whole; key = r.key }

-- what a write keeps of a node, it keeps of each slot
pub kept_put : {A : Type 0} (g : Node → A) (i j : ℕ) (f : Node → Node) (s : Slots) → ((n : Node) → slot s i ≡ Some n → g (f n) ≡ g n) → option_map g (slot (put i f s) j) ≡ option_map g (slot s j)
kept_put g i j f s same = elim (cases_eq j i) [
  | inl e ↦ rw e (ap (option_map g) (slot_put_at i f s) ∙ by (slot s i) refl)
  | inr ne ↦ ap (option_map g) (slot_put_other i j f s ne)
]
  where
    by : (o : Option Node) → slot s i ≡ o → option_map g (option_map f (slot s i)) ≡ option_map g (slot s i)
    by None p = rw p refl
    by (Some n) p = rw p (ap Some (same n p))

pub kept_put_if : {A : Type 0} (g : Node → A) (o : Option ℕ) (j : ℕ) (f : Node → Node) (s : Slots) → ((n : Node) → g (f n) ≡ g n) → option_map g (slot (put_if o f s) j) ≡ option_map g (slot s j)
kept_put_if g None j f s same = refl
kept_put_if g (Some i) j f s same = kept_put g i j f s (λ n _. same n)

pub linked_at_map : (s : Slots) (i : ℕ) → linked_at s i ≡ option_map_or (λ b. b) (option_map (λ n. n.linked) (slot s i)) false
linked_at_map s i = by (slot s i)
  where
    by : (o : Option Node) → option_map_or (λ n. n.linked) o false ≡ option_map_or (λ b. b) (option_map (λ n. n.linked) o) false
    by None = refl
    by (Some n) = refl

-- what linking a node in keeps: each node's key, and whether another node is linked
in_keys : (s : Slots) (x : ℕ) (m : Entry) (p q : Option ℕ) (n : Node) → slot s x ≡ Some n → n.member.0 ≡ m.0 → (i : ℕ) → key_at (linked_in x m p q s) i ≡ key_at s i
in_keys s x m p q n there key i =
    let s1 = put x (as_linked m p q) s in
    let s2 = put_if p (with_next (Some x)) s1 in
    kept_put_if (λ k. k.member.0) q i (with_prior (Some x)) s2 (λ _. refl)
    ∙ kept_put_if (λ k. k.member.0) p i (with_next (Some x)) s1 (λ _. refl)
    ∙ kept_put (λ k. k.member.0) x i (as_linked m p q) s (λ k h. sym key ∙ ap (λ k. k.member.0) (same_Some n k (sym there ∙ h)))

in_marks : (s : Slots) (x : ℕ) (m : Entry) (p q : Option ℕ) (i : ℕ) → i ≢ x → linked_at (linked_in x m p q s) i ≡ linked_at s i
in_marks s x m p q i ne =
    let s1 = put x (as_linked m p q) s in
    let s2 = put_if p (with_next (Some x)) s1 in
    linked_at_map (linked_in x m p q s) i ∙ ap (λ o. option_map_or (λ b. b) o false) (
    kept_put_if (λ k. k.linked) q i (with_prior (Some x)) s2 (λ _. refl)
    ∙ kept_put_if (λ k. k.linked) p i (with_next (Some x)) s1 (λ _. refl)
    ∙ ap (option_map (λ k. k.linked)) (slot_put_other x i (as_linked m p q) s ne)
    ) ∙ sym (linked_at_map s i)

-- the same for taking one out, which is then not linked
out_keys : (s : Slots) (x : ℕ) (p q : Option ℕ) (i : ℕ) → key_at (linked_out x p q s) i ≡ key_at s i
out_keys s x p q i =
    let s1 = put_if p (with_next q) s in
    let s2 = put_if q (with_prior p) s1 in
    kept_put (λ k. k.member.0) x i as_unlinked s2 (λ k h. refl)
    ∙ kept_put_if (λ k. k.member.0) q i (with_prior p) s1 (λ _. refl)
    ∙ kept_put_if (λ k. k.member.0) p i (with_next q) s (λ _. refl)

out_mark_elsewhere : (s : Slots) (x : ℕ) (p q : Option ℕ) (i : ℕ) → i ≢ x → linked_at (linked_out x p q s) i ≡ linked_at s i
out_mark_elsewhere s x p q i ne =
    let s1 = put_if p (with_next q) s in
    let s2 = put_if q (with_prior p) s1 in
    linked_at_map (linked_out x p q s) i ∙ ap (λ o. option_map_or (λ b. b) o false) (
    ap (option_map (λ k. k.linked)) (slot_put_other x i as_unlinked s2 ne)
    ∙ kept_put_if (λ k. k.linked) q i (with_prior p) s1 (λ _. refl)
    ∙ kept_put_if (λ k. k.linked) p i (with_next q) s (λ _. refl)
    ) ∙ sym (linked_at_map s i)

out_mark : (s : Slots) (x : ℕ) (p q : Option ℕ) → linked_at (linked_out x p q s) x ≡ false
out_mark s x p q = off (put_if q (with_prior p) (put_if p (with_next q) s))
  where
    off : (t : Slots) → linked_at (put x as_unlinked t) x ≡ false
    off t = rw (slot_put_at x as_unlinked t) (by (slot t x))
      where
        by : (o : Option Node) → option_map_or (λ n. n.linked) (option_map as_unlinked o) false ≡ false
        by None = refl
        by (Some n) = refl

pub Seg_key : (s : Slots) (p : Option ℕ) (a : List Link) (e : Link) (b : List Link) (q : Option ℕ) → Seg s p (a ++ e ∷ b) q → slot s e.at ≡ Some (node_of e (last_at p a) (head_at b q))
Seg_key s p a e b q h = (Seg_right q s p a (e ∷ b) h).0

-- a node that is not linked is not in the chain
pub Seg_avoids : (s : Slots) (x : ℕ) (n : Node) → slot s x ≡ Some n → n.linked ≡ false → (p : Option ℕ) (es : List Link) (q : Option ℕ) → Seg s p es q → Avoids x es
Seg_avoids s x n there off p [] q h = tt
Seg_avoids s x n there off p (e ∷ es) q h = (
  λ same. true≢false (sym (ap (λ k. k.linked) (same_Some n _ (sym there ∙ ap (slot s) (sym same) ∙ h.0))) ∙ off),
  Seg_avoids s x n there off (Some e.at) es q h.1,
)

-- where the chain lies
pub LiesAt_insert : (i : ℕ) (a : List Link) (e : Link) (b : List Link) → LiesAt (a ++ b) i → LiesAt (a ++ e ∷ b) i
LiesAt_insert i [] e b h = inr h
LiesAt_insert i (f ∷ a) e b h = elim h [ inl here ↦ inl here | inr later ↦ inr (LiesAt_insert i a e b later) ]

pub LiesAt_here : (i : ℕ) (a : List Link) (e : Link) (b : List Link) → e.at ≡ i → LiesAt (a ++ e ∷ b) i
LiesAt_here i [] e b h = inl h
LiesAt_here i (f ∷ a) e b h = inr (LiesAt_here i a e b h)

pub LiesAt_without : (i : ℕ) (a : List Link) (e : Link) (b : List Link) → e.at ≢ i → LiesAt (a ++ e ∷ b) i → LiesAt (a ++ b) i
LiesAt_without i [] e b ne h = elim h [ inl here ↦ absurd (ne here) | inr later ↦ later ]
LiesAt_without i (f ∷ a) e b ne h = elim h [ inl here ↦ inl here | inr later ↦ inr (LiesAt_without i a e b ne later) ]

-- the two ends
pub end_or_last : (i : ℕ) (es : List Link) (new old : Option ℕ) → end_or (last_at (Some i) es) new old ≡ old
end_or_last i [] new old = refl
end_or_last i (e ∷ es) new old = end_or_last e.at es new old

pub last_at_append : (p : Option ℕ) (a : List Link) (e : Link) (b : List Link) → last_at p (a ++ e ∷ b) ≡ last_at (Some e.at) b
last_at_append p [] e b = refl
last_at_append p (f ∷ a) e b = last_at_append (Some f.at) a e b

pub starts_with : (a : List Link) (e : Link) (b : List Link) (first : Option ℕ) → first ≡ head_at (a ++ b) None → end_or (last_at None a) (Some e.at) first ≡ head_at (a ++ e ∷ b) None
starts_with [] e b first h = refl
starts_with (f ∷ a) e b first h = end_or_last f.at a (Some e.at) first ∙ h

pub ends_with : (a : List Link) (e : Link) (b : List Link) (last : Option ℕ) → last ≡ last_at None (a ++ b) → end_or (head_at b None) (Some e.at) last ≡ last_at None (a ++ e ∷ b)
ends_with a e [] last h = sym (last_at_append None a e [])
ends_with a e (f ∷ b) last h = h ∙ last_at_append None a f b ∙ sym (last_at_append None a e (f ∷ b))

pub starts_without : (a : List Link) (e : Link) (b : List Link) (first : Option ℕ) → first ≡ head_at (a ++ e ∷ b) None → end_or (last_at None a) (head_at b None) first ≡ head_at (a ++ b) None
starts_without [] e b first h = refl
starts_without (f ∷ a) e b first h = end_or_last f.at a (head_at b None) first ∙ h

pub ends_without : (a : List Link) (e : Link) (b : List Link) (last : Option ℕ) → last ≡ last_at None (a ++ e ∷ b) → end_or (head_at b None) (last_at None a) last ≡ last_at None (a ++ b)
ends_without a e [] last h = ap (last_at None) (sym (append-nil a))
ends_without a e (f ∷ b) last h = h ∙ last_at_append None a e (f ∷ b) ∙ sym (last_at_append None a f b)

module _ (find : DbKey → Option ℕ) (s : Slots) (first last : Option ℕ) (len : ℕ) (R : IsRing find s first last len) where
  -- what `next` reads
  pub listed : follow len s first ≡ members R.chain
  listed = rw (R.counted, R.starts) (follow_Seg s None R.chain None R.links)

  pub listed_back : follow_back len s last ≡ reverse (members R.chain)
  listed_back =
      let back = follow_back_Seg s None R.chain None 0 R.links in
      rw (R.counted, R.ends) (rw (add-zero, append-nil) at back)

  module _ (a b : List Link) (split : R.chain ≡ a ++ b) (x : ℕ) (m : Entry) (n : Node) (there : slot s x ≡ Some n) (off : n.linked ≡ false) (key : n.member.0 ≡ m.0) where
    pub joined : (after : IsRing find (linked_in x m (last_at None a) (head_at b None) s) (end_or (last_at None a) (Some x) first) (end_or (head_at b None) (Some x) last) (len + 1)) × (after.chain ≡ a ++ record { at = x; member = m } ∷ b)
    joined =
        let e : Link = record { at = x; member = m } in
        let p = last_at None a in
        let q = head_at b None in
        let links0 : Seg s None (a ++ b) None = rw split at R.links in
        let apart0 : Apart (a ++ b) = rw split at R.apart in
        let away : Avoids x (a ++ b) = Seg_avoids s x n there off None (a ++ b) None links0 in
        let keys = in_keys s x m p q n there key in (
          record {
            chain = a ++ e ∷ b;
            links = Seg_linked_in s a b e n there apart0 away links0;
            starts = starts_with a e b first (R.starts ∙ ap (λ c. head_at c None) split);
            ends = ends_with a e b last (R.ends ∙ ap (last_at None) split);
            counted = omega (arith, R.counted, ap length split, length-append a b, length-append a (e ∷ b));
            apart = Apart_with a e b apart0 away;
            marked = λ i on. elim (cases_eq i x) [
              | inl same ↦ LiesAt_here i a e b (sym same)
              | inr ne ↦ LiesAt_insert i a e b (rw split at (R.marked i (sym (in_marks s x m p q i ne) ∙ on)))
            ];
            found = λ k i h. keys i ∙ R.found k i h;
            keyed = λ k i h. R.keyed k i (sym (keys i) ∙ h);
          },
          refl,
        )

  -- a node is taken from between two parts
  module _ (a : List Link) (e : Link) (b : List Link) (split : R.chain ≡ a ++ e ∷ b) where
    pub parted : (less : ℕ) → less + 1 ≡ len → (after : IsRing find (linked_out e.at (last_at None a) (head_at b None) s) (end_or (last_at None a) (head_at b None) first) (end_or (head_at b None) (last_at None a) last) less) × (after.chain ≡ a ++ b)
    parted less fewer =
        let p = last_at None a in
        let q = head_at b None in
        let links0 : Seg s None (a ++ e ∷ b) None = rw split at R.links in
        let apart0 : Apart (a ++ e ∷ b) = rw split at R.apart in
        let parts = Apart_without a e b apart0 in
        let keys = out_keys s e.at p q in
        let gone : (i : ℕ) → i ≡ e.at → linked_at (linked_out e.at p q s) i ≡ false = λ i same. ap (linked_at (linked_out e.at p q s)) same ∙ out_mark s e.at p q in (
          record {
            chain = a ++ b;
            links = Seg_linked_out s a b e apart0 links0;
            starts = starts_without a e b first (R.starts ∙ ap (λ c. head_at c None) split);
            ends = ends_without a e b last (R.ends ∙ ap (last_at None) split);
            counted = omega (arith, R.counted, fewer, ap length split, length-append a b, length-append a (e ∷ b));
            apart = parts.0;
            marked = λ i on. elim (cases_eq i e.at) [
              | inl same ↦ absurd (true≢false (sym on ∙ gone i same))
              | inr ne ↦ LiesAt_without i a e b (λ h. ne (sym h)) (rw split at (R.marked i (sym (out_mark_elsewhere s e.at p q i ne) ∙ on)))
            ];
            found = λ k i h. keys i ∙ R.found k i h;
            keyed = λ k i h. R.keyed k i (sym (keys i) ∙ h);
          },
          refl,
        )

  -- a link of the chain is found under its key
  pub found_link : (a : List Link) (e : Link) (b : List Link) → R.chain ≡ a ++ e ∷ b → find e.member.0 ≡ Some e.at
  found_link a e b split =
      let links0 : Seg s None (a ++ e ∷ b) None = rw split at R.links in
      R.keyed e.member.0 e.at (ap (option_map (λ n. n.member.0)) (Seg_key s None a e b None links0))

  -- and its node is linked to those beside it
  pub node_here : (a : List Link) (e : Link) (b : List Link) → R.chain ≡ a ++ e ∷ b → slot s e.at ≡ Some (node_of e (last_at None a) (head_at b None))
  node_here a e b split =
      let links0 : Seg s None (a ++ e ∷ b) None = rw split at R.links in
      Seg_key s None a e b None links0

-- the place of a member in the list is its place in the chain
module _ (find : DbKey → Option ℕ) (s : Slots) (keyed : (k : DbKey) (i : ℕ) → key_at s i ≡ Some k → find k ≡ Some i) where
  pub place_at : (p : Option ℕ) (a : List Link) (e : Link) (b : List Link) (q : Option ℕ) (k : DbKey) → Seg s p (a ++ e ∷ b) q → Apart (a ++ e ∷ b) → e.member.0 ≡ k → place_of k (members (a ++ e ∷ b)) ≡ length a
  place_at p [] e b q k links apart same = rw same (rw (key_eq_refl k) refl)
  place_at p (f ∷ a) e b q k links apart same = by (has_key k f.member) refl (place_at (Some f.at) a e b q k links.1 apart.1 same)
    where
      at_f : find f.member.0 ≡ Some f.at
      at_f = keyed f.member.0 f.at (ap (option_map (λ n. n.member.0)) links.0)

      at_e : find e.member.0 ≡ Some e.at
      at_e = keyed e.member.0 e.at (ap (option_map (λ n. n.member.0)) (Seg_key s (Some f.at) a e b q links.1))

      by : (c : Bool) → has_key k f.member ≡ c → place_of k (members (a ++ e ∷ b)) ≡ length a → place_of k (members ((f ∷ a) ++ e ∷ b)) ≡ suc (length a)
      by true h rest =
          let keys : f.member.0 ≡ e.member.0 = sym (same_key _ _ h) ∙ sym same in
          let ats : f.at ≡ e.at = same_Some _ _ (sym at_f ∙ ap find keys ∙ at_e) in
          absurd ((Avoids_right f.at a (e ∷ b) apart.0).0 (sym ats))
      by false h rest = rw h (omega (arith, rest))

-- the words of the contracts, at a list in two parts
pub insert_at : {A : Type 0} (xs ys : List A) (m : A) (n : ℕ) → n ≡ length xs → insert (xs ++ ys) n m ≡ xs ++ m ∷ ys
insert_at xs ys m n h = rw (take_at xs ys n (sym h), drop_at xs ys n (sym h)) refl

-- a reserved key has a node that is not linked
pub record Reserved (s : Slots) (k : DbKey) (at : ℕ) : Type 0 where
  pub node : Node
  pub there : slot s at ≡ Some node
  pub off : node.linked ≡ false
  pub key : node.member.0 ≡ k

pub reserved_node : (s : Slots) (k : DbKey) → Contains (unlinked_keys s) k → (at : ℕ) × Reserved s k at
reserved_node [] k h = absurd (omega (arith, h.1))
reserved_node (None ∷ s) k h =
    let r = reserved_node s k h in
    (suc r.0, record { node = r.1.node; there = r.1.there; off = r.1.off; key = r.1.key })
reserved_node (Some n ∷ s) k h = by n.linked refl (λ g. reserved_node s k g)
  where
    more : (Contains (unlinked_keys s) k → (at : ℕ) × Reserved s k at) → Contains (unlinked_keys s) k → (at : ℕ) × Reserved (Some n ∷ s) k at
    more later g =
        let r = later g in
        (suc r.0, record { node = r.1.node; there = r.1.there; off = r.1.off; key = r.1.key })

    by : (b : Bool) → n.linked ≡ b → (Contains (unlinked_keys s) k → (at : ℕ) × Reserved s k at) → (at : ℕ) × Reserved (Some n ∷ s) k at
    by true p later = more later (rw p at h)
    by false p later = elim (Contains-cons_cases _ _ _ (rw p at h)) [
      | inl here ↦ (0, record { node = n; there = refl; off = p; key = here })
      | inr g ↦ more later g
    ]

-- and the other way
pub reserved_key : (s : Slots) (k : DbKey) (at : ℕ) → Reserved s k at → Contains (unlinked_keys s) k
reserved_key [] k at r = absurd (none r.node r.there)
  where
    none : (n : Node) → None ≡ Some n → ⊥
    none n h = cc
reserved_key (None ∷ s) k zero r = absurd (none r.node r.there)
  where
    none : (n : Node) → None ≡ Some n → ⊥
    none n h = cc
reserved_key (None ∷ s) k (suc at) r = reserved_key s k at (record { node = r.node; there = r.there; off = r.off; key = r.key })
reserved_key (Some n ∷ s) k zero r =
    let same : n ≡ r.node = same_Some _ _ r.there in
    let off : n.linked ≡ false = ap (λ m. m.linked) same ∙ r.off in
    let key : n.member.0 ≡ k = ap (λ m. m.member.0) same ∙ r.key in
    rw off (0, omega arith, key)
reserved_key (Some n ∷ s) k (suc at) r = by n.linked refl (reserved_key s k at (record { node = r.node; there = r.there; off = r.off; key = r.key }))
  where
    by : (b : Bool) → n.linked ≡ b → Contains (unlinked_keys s) k → Contains (unlinked_keys (Some n ∷ s)) k
    by true p h = rw p h
    by false p h = rw p (Contains-cons _ _ _ h)

-- a node written where there was none takes away no place that was kept
pub reserving_earlier : (s s' : Slots) (x : ℕ) → slot s x ≡ None → ((j : ℕ) → j ≢ x → slot s' j ≡ slot s j)
    → (k : DbKey) → Contains (unlinked_keys s) k → Contains (unlinked_keys s') k
reserving_earlier s s' x vacant others k kept =
    let r = reserved_node s k kept in
    reserved_key s' k r.0 (record { node = r.1.node; there = others r.0 (λ same. apart r.0 r.1.node r.1.there same) ∙ r.1.there; off = r.1.off; key = r.1.key })
  where
    apart : (at : ℕ) (n : Node) → slot s at ≡ Some n → at ≡ x → ⊥
    apart at n there same = some_none n (sym there ∙ ap (slot s) same ∙ vacant)
      where
        some_none : (m : Node) → Some m ≡ None → ⊥
        some_none m h = cc

-- what a placing needs to know of the new node
module _ (find : DbKey → Option ℕ) (s : Slots) (first last : Option ℕ) (len : ℕ) (R : IsRing find s first last len) (k : DbKey) (room : Contains (unlinked_keys s) k) where
  pub reserved_found : find k ≡ Some (reserved_node s k room).0
  reserved_found =
      let r = reserved_node s k room in
      R.keyed k r.0 (ap (option_map (λ n. n.member.0)) r.1.there ∙ ap Some r.1.key)

  pub reserved_at : (at : ℕ) → find k ≡ Some at → Reserved s k at
  reserved_at at h =
      let r = reserved_node s k room in
      subst (Reserved s k) (same_Some _ _ (sym reserved_found ∙ h)) r.1

pub found_some : {A : Type 0} (o : Option A) (x : A) → o ≡ Some x → IsSome o
found_some o x h = rw h refl

pub has_node : (s : Slots) (k : DbKey) (at : ℕ) → Reserved s k at → IsSome (slot s at)
has_node s k at r = found_some _ _ r.there

-- where a member lies, and what its node holds
pub record Here (chain : List Link) (s : Slots) (k : DbKey) (at : ℕ) : Type 0 where
  pub before : List Link
  pub here : Link
  pub after : List Link
  pub whole : chain ≡ before ++ here ∷ after
  pub key : here.member.0 ≡ k
  pub at_is : at ≡ here.at
  pub node_is : slot s at ≡ Some (node_of here (last_at None before) (head_at after None))

module _ (find : DbKey → Option ℕ) (s : Slots) (first last : Option ℕ) (len : ℕ) (R : IsRing find s first last len) where
  module _ (k : DbKey) (list : List Entry) (list_is : follow len s first ≡ list) (member : HasMember list k) where
    pub member_split : Split R.chain k
    member_split = split_at k R.chain (subst (λ ms. HasMember ms k) (sym list_is ∙ listed find s first last len R) member)

    pub member_found : find k ≡ Some member_split.here.at
    member_found =
        let m = member_split in
        sym (ap find m.key) ∙ found_link find s first last len R m.before m.here m.after m.whole

    pub here_some : IsSome (find k)
    here_some = found_some _ _ member_found

    pub here_at : (at : ℕ) → find k ≡ Some at → Here R.chain s k at
    here_at at h =
        let m = member_split in
        let same : at ≡ m.here.at = same_Some _ _ (sym h ∙ member_found) in
        record {
          before = m.before;
          here = m.here;
          after = m.after;
          whole = m.whole;
          key = m.key;
          at_is = same;
          node_is = ap (slot s) same ∙ node_here find s first last len R m.before m.here m.after m.whole;
        }

  -- the neighbours have nodes
  pub head_some : (p : Option ℕ) (b : List Link) (q : Option ℕ) → Seg s p b q → IfSome (head_at b None) (λ i. IsSome (slot s i))
  head_some p [] q h = tt
  head_some p (e ∷ b) q h = found_some _ _ h.0

  pub last_some : (p : Option ℕ) (a : List Link) (q : Option ℕ) → IfSome p (λ i. IsSome (slot s i)) → Seg s p a q → IfSome (last_at p a) (λ i. IsSome (slot s i))
  last_some p [] q there h = there
  last_some p (e ∷ a) q there h = last_some (Some e.at) a q (found_some _ _ h.0) h.1

  pub next_exists : (a b : List Link) → R.chain ≡ a ++ b → IfSome (head_at b None) (λ i. IsSome (slot s i))
  next_exists a b split = head_some (last_at None a) b None (Seg_right None s None a b (rw split at R.links))

  pub prior_exists : (a b : List Link) → R.chain ≡ a ++ b → IfSome (last_at None a) (λ i. IsSome (slot s i))
  prior_exists a b split = last_some None a (head_at b None) tt (Seg_left None s None a b (rw split at R.links))

  -- the words of the contracts at this member
  module _ (a : List Link) (e : Link) (b : List Link) (split : R.chain ≡ a ++ e ∷ b) (k : DbKey) (key : e.member.0 ≡ k) where
    pub place_here : place_of k (members R.chain) ≡ length (members a)
    place_here =
        let links0 : Seg s None (a ++ e ∷ b) None = rw split at R.links in
        let apart0 : Apart (a ++ e ∷ b) = rw split at R.apart in
        ap (λ es. place_of k (members es)) split ∙ place_at find s R.keyed None a e b None k links0 apart0 key ∙ sym (length-map a (λ e. e.member))

    pub whole_members : members R.chain ≡ members a ++ e.member ∷ members b
    whole_members = ap members split ∙ map-append (λ e. e.member) a (e ∷ b)

  -- a node is linked exactly where its key is a member
  pub linked_member : (k : DbKey) (at : ℕ) → find k ≡ Some at → linked_at s at ≡ true → HasMember (members R.chain) k
  linked_member k at found on = by None R.chain R.links (R.marked at on)
    where
      or_true : (b : Bool) → b || true ≡ true
      or_true true = refl
      or_true false = refl

      key : key_at s at ≡ Some k
      key = R.found k at found

      by : (p : Option ℕ) (es : List Link) → Seg s p es None → LiesAt es at → HasMember (members es) k
      by p [] h there = absurd there
      by p (e ∷ es) h there = elim there [
        | inl here ↦
            let same : e.member.0 ≡ k = same_Some _ _ (sym (ap (option_map (λ n. n.member.0)) h.0) ∙ ap (key_at s) here ∙ key) in
            rw same (rw (key_eq_refl k) refl)
        | inr later ↦ rw (by (Some e.at) es h.1 later) (or_true (has_key k e.member))
      ]

-- a node that has a key and is not linked is reserved for the key
reserved_from : (t : Slots) (x : ℕ) (k : DbKey) → key_at t x ≡ Some k → linked_at t x ≡ false → Reserved t k x
reserved_from t x k key off = by (slot t x) refl
  where
    by : (o : Option Node) → slot t x ≡ o → Reserved t k x
    by None h = absurd (none (sym key ∙ ap (option_map (λ n. n.member.0)) h))
      where
        none : Some k ≡ None → ⊥
        none g = cc
    by (Some n) h = record {
      node = n;
      there = h;
      off = sym (ap (λ o. option_map_or (λ n. n.linked) o false) h) ∙ off;
      key = same_Some _ _ (sym (ap (option_map (λ n. n.member.0)) h) ∙ key);
    }

-- a node that was taken out keeps its key
pub out_reserved : (s : Slots) (x : ℕ) (p q : Option ℕ) (n : Node) (k : DbKey) (s' : Slots) → s' ≡ linked_out x p q s → slot s x ≡ Some n → n.member.0 ≡ k → Contains (unlinked_keys s') k
out_reserved s x p q n k s' is there key =
    rw is (reserved_key _ k x (reserved_from (linked_out x p q s) x k (out_keys s x p q x ∙ ap (option_map (λ n. n.member.0)) there ∙ ap Some key) (out_mark s x p q)))

-- a reserved node that keeps its key, and is still not linked
still_reserved : (s s' : Slots) (k : DbKey) (i : ℕ) (r : Reserved s k i) → key_at s' i ≡ key_at s i → (linked_at s i ≡ false → linked_at s' i ≡ false) → Contains (unlinked_keys s') k
still_reserved s s' k i r keys off =
    let key : key_at s' i ≡ Some k = keys ∙ ap (option_map (λ n. n.member.0)) r.there ∙ ap Some r.key in
    reserved_key s' k i (reserved_from s' i k key (off (ap (λ o. option_map_or (λ n. n.linked) o false) r.there ∙ r.off)))

-- a node that enters the list takes away no place that was kept for another key, and one that leaves it takes away none
pub in_earlier : (s : Slots) (x : ℕ) (m : Entry) (p q : Option ℕ) → Reserved s m.0 x → (s' : Slots) → s' ≡ linked_in x m p q s → (k : DbKey) → k ≢ m.0 → Contains (unlinked_keys s) k → Contains (unlinked_keys s') k
in_earlier s x m p q new s' is k differs kept =
    let r = reserved_node s k kept in
    let apart : r.0 ≢ x = λ same. differs (sym r.1.key ∙ ap (λ n. n.member.0) (same_Some r.1.node new.node (sym r.1.there ∙ ap (slot s) same ∙ new.there)) ∙ new.key) in
    rw is (still_reserved s (linked_in x m p q s) k r.0 r.1 (in_keys s x m p q new.node new.there new.key r.0) (λ off. in_marks s x m p q r.0 apart ∙ off))

pub out_earlier : (s : Slots) (x : ℕ) (p q : Option ℕ) (s' : Slots) → s' ≡ linked_out x p q s → (k : DbKey) → Contains (unlinked_keys s) k → Contains (unlinked_keys s') k
out_earlier s x p q s' is k kept =
    let r = reserved_node s k kept in
    let off : linked_at s r.0 ≡ false → linked_at (linked_out x p q s) r.0 ≡ false = λ was. elim (cases_eq r.0 x) [
      | inl same ↦ ap (linked_at (linked_out x p q s)) same ∙ out_mark s x p q
      | inr ne ↦ out_mark_elsewhere s x p q r.0 ne ∙ was
    ] in
    rw is (still_reserved s (linked_out x p q s) k r.0 r.1 (out_keys s x p q r.0) off)

-- a node comes in for a key that had none
module _ (find find' : DbKey → Option ℕ) (s s' : Slots) (first last : Option ℕ) (len : ℕ) (R : IsRing find s first last len) (k : DbKey) (at : ℕ) (n : Node)
    (none : find k ≡ None) (finds : (q : DbKey) → find' q ≡ cond (key_eq k q) (Some at) (find q))
    (vacant : slot s at ≡ None) (changed : slot s' at ≡ Some n) (others : (j : ℕ) → j ≢ at → slot s' j ≡ slot s j)
    (off : n.linked ≡ false) (key : n.member.0 ≡ k) where
  taken : (j : ℕ) (o : Node) → slot s j ≡ Some o → j ≢ at
  taken j o h same = clash (sym vacant ∙ ap (slot s) (sym same) ∙ h)
    where
      clash : None ≡ Some o → ⊥
      clash g = cc

  Seg_kept : (p : Option ℕ) (es : List Link) (q : Option ℕ) → Seg s p es q → Seg s' p es q
  Seg_kept p [] q h = tt
  Seg_kept p (e ∷ es) q h = (others e.at (taken e.at _ h.0) ∙ h.0, Seg_kept (Some e.at) es q h.1)

  keyed_taken : (j : ℕ) (q : DbKey) → key_at s j ≡ Some q → j ≢ at
  keyed_taken j q h same = clash (sym (ap (option_map (λ n. n.member.0)) vacant) ∙ ap (key_at s) (sym same) ∙ h)
    where
      clash : None ≡ Some q → ⊥
      clash g = cc

  find_other : (q : DbKey) (i : ℕ) → find q ≡ Some i → find' q ≡ Some i
  find_other q i h = by (key_eq k q) refl
    where
      by : (b : Bool) → key_eq k q ≡ b → find' q ≡ Some i
      by true p = absurd (clash (sym none ∙ ap find (same_key k q p) ∙ h))
        where
          clash : None ≡ Some i → ⊥
          clash g = cc
      by false p = finds q ∙ ap (λ b. cond b (Some at) (find q)) p ∙ h

  find_here : find' k ≡ Some at
  find_here = finds k ∙ ap (λ b. cond b (Some at) (find k)) (key_eq_refl k)

  key_here : key_at s' at ≡ Some k
  key_here = ap (option_map (λ n. n.member.0)) changed ∙ ap Some key

  pub reserving : IsRing find' s' first last len
  reserving = record {
    chain = R.chain;
    links = Seg_kept None R.chain None R.links;
    starts = R.starts;
    ends = R.ends;
    counted = R.counted;
    apart = R.apart;
    marked = λ i on. elim (cases_eq i at) [
      | inl same ↦ absurd (true≢false (sym on ∙ (ap (linked_at s') same ∙ ap (λ o. option_map_or (λ n. n.linked) o false) changed ∙ off)))
      | inr ne ↦ R.marked i (sym (ap (λ o. option_map_or (λ n. n.linked) o false) (others i ne)) ∙ on)
    ];
    found = λ q i h. found_by q i h (key_eq k q) refl;
    keyed = λ q i h. elim (cases_eq i at) [
      | inl same ↦
          let keys : k ≡ q = same_Some _ _ (sym key_here ∙ ap (key_at s') (sym same) ∙ h) in
          sym (ap find' keys) ∙ find_here ∙ ap Some (sym same)
      | inr ne ↦ find_other q i (R.keyed q i (sym (ap (option_map (λ n. n.member.0)) (others i ne)) ∙ h))
    ];
  }
    where
      found_by : (q : DbKey) (i : ℕ) → find' q ≡ Some i → (b : Bool) → key_eq k q ≡ b → key_at s' i ≡ Some q
      found_by q i h true p =
          let ats : at ≡ i = same_Some _ _ (sym (finds q ∙ ap (λ b. cond b (Some at) (find q)) p) ∙ h) in
          ap (key_at s') (sym ats) ∙ key_here ∙ ap Some (same_key k q p)
      found_by q i h false p =
          let old : key_at s i ≡ Some q = R.found q i (sym (finds q ∙ ap (λ b. cond b (Some at) (find q)) p) ∙ h) in
          ap (option_map (λ n. n.member.0)) (others i (keyed_taken i q old)) ∙ old

  pub reserving_chain : reserving.chain ≡ R.chain
  unfolding reserving
  reserving_chain = refl

  pub reserving_list : follow len s' first ≡ follow len s first
  reserving_list = rw (R.counted, R.starts) (follow_Seg s' None R.chain None (Seg_kept None R.chain None R.links) ∙ sym (follow_Seg s None R.chain None R.links))

  pub reserving_room : Contains (unlinked_keys s') k
  reserving_room = reserved_key s' k at (record { node = n; there = changed; off = off; key = key })

-- what a result says where it is Ok
pub from_ok : {T E : Type 0} {P : Type 0} (r : Result T E) → IsOk r → OnOk r P → P
from_ok (Ok x) ok h = h
from_ok (Err e) ok h = absurd (cc)

pub not_none : {A : Type 0} (o : Option A) → o ≡ None → IsSome o → ⊥
not_none None h s = absurd (cc)
not_none (Some x) h s = absurd (cc)

module _ (find : DbKey → Option ℕ) (s : Slots) (first last : Option ℕ) (len : ℕ) (R : IsRing find s first last len) (k : DbKey) where
  node_of_key : (at : ℕ) → find k ≡ Some at → (n : Node) × (slot s at ≡ Some n) × (n.member.0 ≡ k)
  node_of_key at h = by (slot s at) refl
    where
      by : (o : Option Node) → slot s at ≡ o → (n : Node) × (slot s at ≡ Some n) × (n.member.0 ≡ k)
      by None p = absurd (none (sym (R.found k at h) ∙ ap (option_map (λ n. n.member.0)) p))
        where
          none : Some k ≡ None → ⊥
          none g = cc
      by (Some n) p = (n, p, same_Some _ _ (sym (ap (option_map (λ n. n.member.0)) p) ∙ R.found k at h))

  pub node_found : (at : ℕ) → find k ≡ Some at → IsSome (slot s at)
  node_found at h = found_some _ _ (node_of_key at h).1

  -- a key that has a node and is no member is reserved
  pub unlinked_reserved : (HasMember (members R.chain) k → ⊥) → (at : ℕ) → find k ≡ Some at → Contains (unlinked_keys s) k
  unlinked_reserved absent at h =
      let n = node_of_key at h in
      by n.0 n.1 n.2 n.0.linked refl
    where
      by : (n : Node) → slot s at ≡ Some n → n.member.0 ≡ k → (b : Bool) → n.linked ≡ b → Contains (unlinked_keys s) k
      by n there key true on = absurd (absent (linked_member find s first last len R k at h (ap (λ o. option_map_or (λ n. n.linked) o false) there ∙ on)))
      by n there key false off = reserved_key s k at (record { node = n; there = there; off = off; key = key })
