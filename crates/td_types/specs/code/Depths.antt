-- How deep headings nest, so that recursion over types ends.
use Rattle.std.specs.Prelude.{ℕ, suc, max}
use Rattle.td_types.specs.model.Types.{Type', boolean, integer, char, user, tuple, relation, Attrs, no_attrs, attr, Heading, pack}

abbrev mutual
  pub type_depth : Type' → ℕ
  type_depth boolean = 0
  type_depth integer = 0
  type_depth char = 0
  type_depth (user n) = 0
  type_depth (tuple xs) = suc (attrs_depth xs)
  type_depth (relation xs) = suc (attrs_depth xs)

  pub attrs_depth : Attrs → ℕ
  attrs_depth no_attrs = 0
  attrs_depth (attr n t xs) = max (type_depth t) (attrs_depth xs)

abbrev pub heading_depth : Heading → ℕ
heading_depth xs = attrs_depth (pack xs)
