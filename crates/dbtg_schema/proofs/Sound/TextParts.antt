-- The areas, record types and sets of a text that is derived.
use Rattle.std.proofs.Common.{◌≡◌, ℕ, zero, suc, true, false, List, [], ◌∷◌, ◌++◌, map, refl, sym, ap, ◌∙◌, append_assoc}
use Rattle.std.specs.List.{list_any, AllByRecursion}
use Rattle.std.proofs.lemmas.List.{append-nil}
use Rattle.dbtg_schema.specs.declared.role.Role.{Role}
use Rattle.dbtg_schema.specs.declared.role.Role.TheVariants as role
use Rattle.dbtg_schema.specs.Texts.Forms.{◌▹◌, both, one, many, Derives}
use Rattle.dbtg_schema.specs.Texts.SchemaGrammar.{Form, Labelled, fits, key, name, say, period, area, item, rec, member, set, schema}
use Rattle.dbtg_schema.specs.Texts.Labels.{is, named, until, entries, first_named}
use Rattle.dbtg_schema.proofs.Forms.Grammar.{left, right, lacks, lacking, any_append, until_behind, entries_behind}
use Rattle.dbtg_schema.proofs.Forms.Parts.{flat, Begins, begins, begins_one, begins_more, entries_are, until_parts, named_parts, named_none, named_append, first_named_front, read_entries}
use Rattle.std.specs.Prelude.{codes}

-- the form of what stands before the areas
abbrev pub opening : Form
opening = say (codes "SCHEMA") ▹ say (codes "NAME") ▹ one name role.SchemaName ▹ period

-- the parts of a text
pub record Text (ws : List Labelled) : Type 0 where
  pub front : List Labelled
  pub areas : List (List Labelled)
  pub types : List (List Labelled)
  pub sets : List (List Labelled)
  pub whole : ws ≡ front ++ (flat areas ++ (flat types ++ flat sets))
  pub is_front : Derives fits opening front
  pub each_area : AllByRecursion (Derives fits area) areas
  pub each_type : AllByRecursion (Derives fits rec) types
  pub each_set : AllByRecursion (Derives fits set) sets

-- what is derived once or more
abbrev Some : Form → List Labelled → Type 0
Some f ws = (parts : List (List Labelled)) × (ws ≡ flat parts) × AllByRecursion (Derives fits f) parts

some_parts : (f : Form) (ws : List Labelled) → Derives fits (both f (many f)) ws → Some f ws
some_parts f ws d = (d.0 ∷ d.4.0, d.2 ∙ ap (λ (z : List Labelled). d.0 ++ z) d.4.1, (d.3, d.4.2))

fronts : (a b c d rest : List Labelled) → a ++ (b ++ (c ++ (d ++ rest))) ≡ (a ++ (b ++ (c ++ d))) ++ rest
fronts a b c d rest =
    ap (λ (z : List Labelled). a ++ z) (ap (λ (z : List Labelled). b ++ z) (sym (append_assoc c d rest)) ∙ sym (append_assoc b (c ++ d) rest)) ∙ sym (append_assoc a (b ++ (c ++ d)) rest)

pub text_of : (ws : List Labelled) → Derives fits schema ws → Text ws
text_of ws d =
    let n = d.4 in
    let l = n.4 in
    let p = l.4 in
    let a = p.4 in
    let t = a.4 in
    let areas = some_parts area a.0 a.3 in
    let types = some_parts rec t.0 t.3 in
    let sets = t.4 in
    record {
      front = d.0 ++ (n.0 ++ (l.0 ++ p.0));
      areas = areas.0;
      types = types.0;
      sets = sets.0;
      whole = d.2 ∙ ap (λ (z : List Labelled). d.0 ++ z) (n.2 ∙ ap (λ (z : List Labelled). n.0 ++ z) (l.2 ∙ ap (λ (z : List Labelled). l.0 ++ z) (p.2 ∙ ap (λ (z : List Labelled). p.0 ++ z) (a.2 ∙ (λ i. areas.1 i ++ (t.2 ∙ (λ j. types.1 j ++ sets.1 j)) i)))))
          ∙ fronts d.0 n.0 l.0 p.0 (flat areas.0 ++ (flat types.0 ++ flat sets.0));
      is_front = (d.0, n.0 ++ (l.0 ++ p.0), refl, d.3, (n.0, l.0 ++ p.0, refl, n.3, (l.0, p.0, refl, l.3, p.3)));
      each_area = areas.2;
      each_type = types.2;
      each_set = sets.2;
    }

-- a role that none of some parts has
pub none_in_parts : (r : Role) (f : Form) (parts : List (List Labelled)) → AllByRecursion (Derives fits f) parts → lacks r f ≡ true → list_any (is r) (flat parts) ≡ false
none_in_parts r f parts all h = lacking r (many f) (flat parts) (parts, refl, all) h

-- parts that begin with their own word
pub all_begin : (r : Role) (f : Form) (parts : List (List Labelled)) → AllByRecursion (Derives fits f) parts → ((ws : List Labelled) → Derives fits f ws → Begins r ws) → AllByRecursion (Begins r) parts
all_begin r f [] all each = tt
all_begin r f (p ∷ parts) all each = (each p all.0, all_begin r f parts all.1 each)

module _ (ws : List Labelled) (text : Text ws) where
  pub areas_begin : AllByRecursion (Begins role.AreaEntry) text.areas
  areas_begin = all_begin role.AreaEntry area text.areas text.each_area (λ p d. begins role.AreaEntry (key (codes "AREA")) (right area) p d refl)

  pub types_begin : AllByRecursion (Begins role.RecordEntry) text.types
  types_begin = all_begin role.RecordEntry rec text.types text.each_type (λ p d. begins role.RecordEntry (key (codes "RECORD")) (right rec) p d refl)

  pub sets_begin : AllByRecursion (Begins role.SetEntry) text.sets
  sets_begin = all_begin role.SetEntry set text.sets text.each_set (λ p d. begins role.SetEntry (key (codes "SET")) (right set) p d refl)

  -- the entries of the text are its parts
  pub set_entries : entries role.SetEntry ws ≡ text.sets
  set_entries =
      ap (entries role.SetEntry) text.whole ∙ entries_behind role.SetEntry text.front _ (lacking role.SetEntry opening text.front text.is_front refl)
      ∙ entries_behind role.SetEntry (flat text.areas) _ (none_in_parts role.SetEntry area text.areas text.each_area refl)
      ∙ entries_behind role.SetEntry (flat text.types) _ (none_in_parts role.SetEntry rec text.types text.each_type refl) ∙ entries_are role.SetEntry text.sets sets_begin

  -- what stands before the sets
  pub before_sets : until role.SetEntry ws ≡ text.front ++ (flat text.areas ++ flat text.types)
  before_sets =
      ap (until role.SetEntry) text.whole ∙ until_behind role.SetEntry text.front _ (lacking role.SetEntry opening text.front text.is_front refl)
      ∙ ap (λ (z : List Labelled). text.front ++ z) (until_behind role.SetEntry (flat text.areas) _ (none_in_parts role.SetEntry area text.areas text.each_area refl)
      ∙ ap (λ (z : List Labelled). flat text.areas ++ z) (until_behind role.SetEntry (flat text.types) _ (none_in_parts role.SetEntry rec text.types text.each_type refl)
      ∙ ap (λ (z : List Labelled). flat text.types ++ z) (until_parts role.SetEntry text.sets sets_begin) ∙ append-nil (flat text.types)))

  pub type_entries : entries role.RecordEntry (until role.SetEntry ws) ≡ text.types
  type_entries =
      ap (entries role.RecordEntry) before_sets ∙ entries_behind role.RecordEntry text.front _ (lacking role.RecordEntry opening text.front text.is_front refl)
      ∙ entries_behind role.RecordEntry (flat text.areas) _ (none_in_parts role.RecordEntry area text.areas text.each_area refl) ∙ entries_are role.RecordEntry text.types types_begin

  -- the names of a role that stands once in each part of one kind and nowhere else
  pub named_whole : (r : Role) → named r ws ≡ named r text.front ++ (named r (flat text.areas) ++ (named r (flat text.types) ++ named r (flat text.sets)))
  named_whole r =
      ap (named r) text.whole ∙ named_append r text.front _
      ∙ ap (λ (z : List (List _)). named r text.front ++ z) (named_append r (flat text.areas) _ ∙ ap (λ (z : List (List _)). named r (flat text.areas) ++ z) (named_append r (flat text.types) (flat text.sets)))

  pub area_names : named role.AreaName ws ≡ map (first_named role.AreaName) text.areas
  area_names =
      named_whole role.AreaName
      ∙ (λ i. named_none role.AreaName text.front (lacking role.AreaName opening text.front text.is_front refl) i
      ++ (named_parts role.AreaName area text.areas text.each_area refl refl refl i
      ++ (named_none role.AreaName (flat text.types) (none_in_parts role.AreaName rec text.types text.each_type refl) i
      ++ named_none role.AreaName (flat text.sets) (none_in_parts role.AreaName set text.sets text.each_set refl) i)))
      ∙ append-nil (map (first_named role.AreaName) text.areas)

  pub type_names : named role.RecordName ws ≡ map (first_named role.RecordName) text.types
  type_names =
      named_whole role.RecordName
      ∙ (λ i. named_none role.RecordName text.front (lacking role.RecordName opening text.front text.is_front refl) i
      ++ (named_none role.RecordName (flat text.areas) (none_in_parts role.RecordName area text.areas text.each_area refl) i
      ++ (named_parts role.RecordName rec text.types text.each_type refl refl refl i
      ++ named_none role.RecordName (flat text.sets) (none_in_parts role.RecordName set text.sets text.each_set refl) i)))
      ∙ append-nil (map (first_named role.RecordName) text.types)

  pub set_names : named role.SetName ws ≡ map (first_named role.SetName) text.sets
  set_names =
      named_whole role.SetName
      ∙ (λ i. named_none role.SetName text.front (lacking role.SetName opening text.front text.is_front refl) i
      ++ (named_none role.SetName (flat text.areas) (none_in_parts role.SetName area text.areas text.each_area refl) i
      ++ (named_none role.SetName (flat text.types) (none_in_parts role.SetName rec text.types text.each_type refl) i
      ++ named_parts role.SetName set text.sets text.each_set refl refl refl i)))

  -- the names of the areas, each read from its entry
  pub area_entry_names : map (first_named role.AreaName) (entries role.AreaEntry ws) ≡ named role.AreaName ws
  area_entry_names =
      let rest = flat text.types ++ flat text.sets in
      let behind = any_append role.AreaEntry (flat text.types) (flat text.sets) (none_in_parts role.AreaEntry rec text.types text.each_type refl) (none_in_parts role.AreaEntry set text.sets text.each_set refl) in
      let unnamed = any_append role.AreaName (flat text.types) (flat text.sets) (none_in_parts role.AreaName rec text.types text.each_type refl) (none_in_parts role.AreaName set text.sets text.each_set refl) in
      ap (λ (z : List Labelled). map (first_named role.AreaName) (entries role.AreaEntry z)) text.whole
      ∙ ap (map (first_named role.AreaName)) (entries_behind role.AreaEntry text.front (flat text.areas ++ rest) (lacking role.AreaEntry opening text.front text.is_front refl))
      ∙ read_entries (first_named role.AreaName) role.AreaEntry rest behind (λ e. first_named_front role.AreaName e rest unnamed) (flat text.areas)
      ∙ ap (map (first_named role.AreaName)) (entries_are role.AreaEntry text.areas areas_begin) ∙ sym area_names

-- A RECORD TYPE, A SET AND A MEMBER, PART BY PART

-- the same words, with the second part counted to the first
pub regroup : (f g h : Form) (ws : List Labelled) → Derives fits (both f (both g h)) ws → Derives fits (both (both f g) h) ws
regroup f g h ws d = (d.0 ++ d.4.0, d.4.1, d.2 ∙ ap (λ (z : List Labelled). d.0 ++ z) d.4.2 ∙ sym (append_assoc d.0 d.4.0 d.4.1), (d.0, d.4.0, refl, d.3, d.4.3), d.4.4)

-- how many parts of a form come first, and the rest
abbrev pub behind : ℕ → Form → Form
behind zero f = f
behind (suc n) f = behind n (right f)

-- the first n + 1 parts of a form together
abbrev pub front : ℕ → Form → Form
front zero f = left f
front (suc n) f = both (front n f) (left (behind (suc n) f))

-- a record type up to its items
abbrev pub type_head : Form
type_head = front 6 rec

-- a set up to its members
abbrev pub set_head : Form
set_head = front 7 set

-- a member sentence up to its period
abbrev pub member_head : Form
member_head = front 5 member

pub type_parts : (p : List Labelled) → Derives fits rec p → Derives fits (both type_head (many item)) p
type_parts p d =
    regroup (front 5 rec) (left (behind 6 rec)) (behind 7 rec) p
    (regroup (front 4 rec) (left (behind 5 rec)) (behind 6 rec) p
    (regroup (front 3 rec) (left (behind 4 rec)) (behind 5 rec) p
    (regroup (front 2 rec) (left (behind 3 rec)) (behind 4 rec) p
    (regroup (front 1 rec) (left (behind 2 rec)) (behind 3 rec) p
    (regroup (front 0 rec) (left (behind 1 rec)) (behind 2 rec) p d)))))

pub set_parts : (p : List Labelled) → Derives fits set p → Derives fits (both set_head (both member (many member))) p
set_parts p d =
    regroup (front 6 set) (left (behind 7 set)) (behind 8 set) p
    (regroup (front 5 set) (left (behind 6 set)) (behind 7 set) p
    (regroup (front 4 set) (left (behind 5 set)) (behind 6 set) p
    (regroup (front 3 set) (left (behind 4 set)) (behind 5 set) p
    (regroup (front 2 set) (left (behind 3 set)) (behind 4 set) p
    (regroup (front 1 set) (left (behind 2 set)) (behind 3 set) p
    (regroup (front 0 set) (left (behind 1 set)) (behind 2 set) p d))))))

pub member_parts : (p : List Labelled) → Derives fits member p → Derives fits (both member_head (one (key (codes ".")) role.MemberEnd)) p
member_parts p d =
    regroup (front 4 member) (left (behind 5 member)) (behind 6 member) p
    (regroup (front 3 member) (left (behind 4 member)) (behind 5 member) p
    (regroup (front 2 member) (left (behind 3 member)) (behind 4 member) p
    (regroup (front 1 member) (left (behind 2 member)) (behind 3 member) p
    (regroup (front 0 member) (left (behind 1 member)) (behind 2 member) p d))))

pub set_head_begins : (ws : List Labelled) → Derives fits set_head ws → Begins role.SetEntry ws
set_head_begins ws d = begins_more role.SetEntry (front 6 set) (left (behind 7 set)) ws (λ p d. begins_more role.SetEntry (front 5 set) (left (behind 6 set)) p (λ p d. begins_more role.SetEntry (front 4 set) (left (behind 5 set)) p (λ p d. begins_more role.SetEntry (front 3 set) (left (behind 4 set)) p (λ p d. begins_more role.SetEntry (front 2 set) (left (behind 3 set)) p (λ p d. begins_more role.SetEntry (front 1 set) (left (behind 2 set)) p (λ p d. begins_more role.SetEntry (front 0 set) (left (behind 1 set)) p (λ p d. begins_one role.SetEntry (key (codes "SET")) p d) refl d) refl d) refl d) refl d) refl d) refl d) refl d

pub member_head_begins : (ws : List Labelled) → Derives fits member_head ws → Begins role.MemberEntry ws
member_head_begins ws d = begins_more role.MemberEntry (front 4 member) (left (behind 5 member)) ws (λ p d. begins_more role.MemberEntry (front 3 member) (left (behind 4 member)) p (λ p d. begins_more role.MemberEntry (front 2 member) (left (behind 3 member)) p (λ p d. begins_more role.MemberEntry (front 1 member) (left (behind 2 member)) p (λ p d. begins_more role.MemberEntry (front 0 member) (left (behind 1 member)) p (λ p d. begins_one role.MemberEntry (key (codes "MEMBER")) p d) refl d) refl d) refl d) refl d) refl d
