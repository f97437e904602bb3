-- How the logic orders and stores types: by keys, and by the code that a Model asks for.
use Rattle.std.specs.Prelude.{◌≡◌, zero, suc, [], ◌∷◌, refl, pos}
use Rattle.std.proofs.Common.{ap, ◌∙◌}
use Rattle.std.specs.Coded.{Coded, code_by}
use base.Stored.{Gv, gnil, gnum, gcons}
use denote.Struct.Codes.{itself}
use Rattle.td_tree.specs.code.NodeCode.{bytes_back, bytes_from, bytes_to}
use Rattle.td_types.specs.code.Keys.{Key, key, Keys, no_keys, more}
use Rattle.td_types.specs.model.Types.{Type', boolean, integer, char, user, tuple, relation, Attrs, no_attrs, attr, Heading, pack, unpack}

pub unpack_pack : (xs : Heading) → unpack (pack xs) ≡ xs
unpack_pack [] = refl
unpack_pack (a ∷ xs) = ap (λ r. a ∷ r) (unpack_pack xs)

abbrev mutual
  -- the key whose order is the type's
  pub type_key : Type' → Key
  type_key boolean = key 0 (pos 0) [] no_keys
  type_key integer = key 1 (pos 0) [] no_keys
  type_key char = key 2 (pos 0) [] no_keys
  type_key (user n) = key 3 (pos 0) n no_keys
  type_key (tuple xs) = key 4 (pos 0) [] (attrs_keys xs)
  type_key (relation xs) = key 5 (pos 0) [] (attrs_keys xs)

  pub attrs_keys : Attrs → Keys
  attrs_keys no_attrs = no_keys
  attrs_keys (attr n t xs) = more (key 0 (pos 0) n no_keys) (more (type_key t) (attrs_keys xs))

-- ---- how the logic stores a type

abbrev mutual
  type_to : Type' → Gv
  type_to boolean = gnum 0
  type_to integer = gnum 1
  type_to char = gnum 2
  type_to (user n) = gcons gnil (bytes_to n)
  type_to (tuple xs) = gcons (gnum 0) (attrs_to xs)
  type_to (relation xs) = gcons (gcons gnil gnil) (attrs_to xs)

  attrs_to : Attrs → Gv
  attrs_to no_attrs = gnil
  attrs_to (attr n t xs) = gcons (gcons (bytes_to n) (type_to t)) (attrs_to xs)

abbrev mutual
  type_from : Gv → Type'
  type_from gnil = boolean
  type_from (gnum zero) = boolean
  type_from (gnum (suc zero)) = integer
  type_from (gnum (suc (suc n))) = char
  type_from (gcons gnil g) = user (bytes_from g)
  type_from (gcons (gnum n) g) = tuple (attrs_from g)
  type_from (gcons (gcons h t) g) = relation (attrs_from g)

  attrs_from : Gv → Attrs
  attrs_from gnil = no_attrs
  attrs_from (gnum n) = no_attrs
  attrs_from (gcons gnil g) = no_attrs
  attrs_from (gcons (gnum n) g) = no_attrs
  attrs_from (gcons (gcons n t) g) = attr (bytes_from n) (type_from t) (attrs_from g)

mutual
  pub type_back : (t : Type') → type_from (type_to t) ≡ t
  type_back boolean = refl
  type_back integer = refl
  type_back char = refl
  type_back (user n) = ap user (bytes_back n)
  type_back (tuple xs) = ap tuple (attrs_back xs)
  type_back (relation xs) = ap relation (attrs_back xs)

  pub attrs_back : (xs : Attrs) → attrs_from (attrs_to xs) ≡ xs
  attrs_back no_attrs = refl
  attrs_back (attr n t xs) = λ i. attr (bytes_back n i) (type_back t i) (attrs_back xs i)

abbrev pub type_code : Coded Type'
type_code = code_by Gv itself type_to type_from type_back

abbrev heading_to : Heading → Gv
heading_to xs = attrs_to (pack xs)

abbrev heading_from_stored : Gv → Heading
heading_from_stored g = unpack (attrs_from g)

pub heading_back : (xs : Heading) → heading_from_stored (heading_to xs) ≡ xs
heading_back xs = ap unpack (attrs_back (pack xs)) ∙ unpack_pack xs

abbrev pub heading_code : Coded Heading
heading_code = code_by Gv itself heading_to heading_from_stored heading_back
