-- What is noted in addition to the words of a line.
use Rattle.std.specs.Prelude.{◌≡◌, ℕ, Bool, true, false, List, [], ◌∷◌, ◌++◌, Option, Some, None, IfSome, slice_index_or}
use Rattle.dbtg_schema.specs.Lists.{Lists}
use Rattle.dbtg_schema.specs.declared.shape.Picture.{Picture}
use Rattle.dbtg_script.specs.declared.role.Role.{Role}
use Rattle.dbtg_script.specs.declared.role.Role.TheVariants as role
use Rattle.dbtg_script.specs.declared.words.Named.{Named}
use Rattle.dbtg_script.specs.Labels.{has, is, named, number, text_of}
use Rattle.dbtg_script.specs.Lookups.{item_named, item_picture, type_named}
use Rattle.dbtg_script.specs.StatementFaults.{type_in, type_text}
use Rattle.dbtg_script.specs.StatementGrammar.{Labelled}

-- the words of a line as far as it was read, and the schema whose names they say
pub record LineWords : Type 0 where
  pub schema : Lists
  pub words : List Labelled

-- what is noted is true of the words: which roles they have, which record type they name, the picture of the item named last
pub record AreNoted (schema : Lists) (ws : List Labelled) (roles : List Bool) (rtype : Option (Option ℕ)) (picture : Option (Option Picture)) : Type 0 where
  pub roles_are : (r : Role) → slice_index_or roles (number r) false ≡ has r ws
  pub type_is : IfSome rtype (λ r. r ≡ type_named schema (type_text ws))
  pub picture_is : IfSome picture (λ p. p ≡ item_picture schema (type_in schema ws) (named role.ItemName ws))

-- the record type that the next word names, if it names one, and the item
pub record IsNamed (schema : Lists) (ws : List Labelled) (w : Labelled) (n : Named) : Type 0 where
  pub type_is : is role.TypeName w ≡ true → n.rtype ≡ type_named schema (text_of w.word)
  pub record_is : is role.RecordName w ≡ true → n.rtype ≡ type_named schema (text_of w.word)
  pub item_is : is role.ItemName w ≡ true → n.item ≡ item_named schema (type_in schema ws) (text_of w.word)
