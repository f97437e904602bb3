-- The lists in a dump's lines: components with their types, and the names of keys. The grammar sees them as what spells them.
use Rattle.std.proofs.Common.{◌≡◌, List, [], ◌∷◌, ◌++◌, refl, sym, subst, append-nil, Bool, true, false, cond, filter, map}
use Rattle.std.specs.List.{AllByRecursion, flat_map}
use Rattle.td_catalog.specs.model.Dumps.{ordered_names, key_text, keys_text, names_text}
use Rattle.td_tree.specs.declared.keyword.Keyword.TheVariants as k
use Rattle.td_tree.specs.model.Grammar as g
use Rattle.td_tree.specs.model.Grammar.{AttributesSpelling, NameSpelling, NamesSpelling, name_item}
use Rattle.td_tree.specs.model.Lexemes.{Lexeme, keyword}
use Rattle.td_tree.specs.model.Lexemes as lexeme
use Rattle.td_tree.specs.model.Lists.{Repeated, Separated, with_braces, next_item, no_items, no_more, one_item, one_more, some_items}
use Rattle.td_tree.specs.model.Names.{IsName}
use Rattle.td_tree.specs.model.Prints.{attribute_lexemes, commas, following, name_lexemes, type_lexemes}
use Rattle.td_tree.specs.model.StatementGrammar.{KeyPart, key_part}
use Rattle.td_tree.specs.model.Trees.{AttributeTrees, Text, TypeTree}
use Rattle.td_tree.specs.model.Trees as trees
use Rattle.td_tree.specs.code.Written.{comma_lexeme_if}
use Rattle.td_tree.proofs.law_lemmas.OwnSpellings.{items_after, items_first, items_follow, type_spelled}
use Rattle.td_types.specs.model.Headings.{has_name}
use Rattle.td_types.specs.model.Texts.{attributes_text}
use Rattle.td_types.specs.model.Types.{Attribute, Heading, IsType, attribute_names, pack}
use Rattle.td_types.specs.laws.TypeTrees.{attribute_trees, type_tree}
use Rattle.td_types.proofs.TypeSpellings.{attributes_bounded}
use Rattle.td_engine.proofs.law_lemmas.DumpInner.{AllInner, also, commas_inner, in_braces, join, names_inner, none_left}
use Rattle.td_engine.proofs.law_lemmas.DumpPhrases.{KeepsBounds, Shows, ShowsBefore, a_close_brace, a_comma_if, a_name, a_space, a_type, a_word_and_space, an_open_brace, anywhere, before_then, before_then_before, nothing, shown_then, shown_then_before, shows_these}

-- ---- components

-- the names of the components are names, and their types are types
abbrev pub AreTypedNames : List Attribute → Type 0
AreTypedNames = AllByRecursion (λ a. IsName a.0 × IsType a.1)

regroup_item : (later : Bool) (x : Lexeme) (xs ys : List Lexeme)
    → (((comma_lexeme_if later ++ (x ∷ [])) ++ []) ++ xs) ++ ys ≡ comma_lexeme_if later ++ ((x ∷ xs) ++ ys)
regroup_item true x xs ys = refl
regroup_item false x xs ys = refl

components_after : (later : Bool) (xs : List Attribute) → AreTypedNames xs
    → ShowsBefore (attributes_text later (pack xs)) (items_after later (attribute_lexemes (attribute_trees (pack xs))))
components_after later [] p = anywhere nothing
components_after later (a ∷ xs) p =
    let items : List (List Lexeme) = attribute_lexemes (attribute_trees (pack xs)) in
    let others : ShowsBefore (attributes_text true (pack xs)) (following items) = shows_these (items_follow items) (components_after true xs p.1) in
    let named = before_then (shown_then_before (a_comma_if later) (a_name a.0 p.0.0)) (λ rest. refl) a_space in
    shows_these (regroup_item later (lexeme.name a.0) (type_lexemes (type_tree a.1)) (following items))
    (before_then_before (shown_then_before named (a_type a.1 p.0.1)) (attributes_bounded (pack xs)) others)

-- components before a boundary
pub components_show : (xs : List Attribute) → AreTypedNames xs
    → ShowsBefore (attributes_text false (pack xs)) (commas (attribute_lexemes (attribute_trees (pack xs))))
components_show xs p = shows_these (items_first (attribute_lexemes (attribute_trees (pack xs)))) (components_after false xs p)

attributes_spelled : (n : Text) (t : TypeTree) (h : AttributeTrees)
    → AttributesSpelling (commas (attribute_lexemes (trees.attribute n t h))) (trees.attribute n t h)
attributes_spelled n t trees.no_attributes =
    subst (λ xs. AttributesSpelling xs (trees.attribute n t trees.no_attributes)) (sym (append-nil (lexeme.name n ∷ type_lexemes t)))
    (g.last_attribute (type_spelled t))
attributes_spelled n t (trees.attribute m s h) = g.next_attribute (type_spelled t) (attributes_spelled m s h)

pub components_spelled : (xs : List Attribute) → (xs ≡ [] → ⊥)
    → AttributesSpelling (commas (attribute_lexemes (attribute_trees (pack xs)))) (attribute_trees (pack xs))
components_spelled [] some = absurd (some refl)
components_spelled (a ∷ xs) some = attributes_spelled a.0 (type_tree a.1) (attribute_trees (pack xs))

-- ---- names

abbrev items_of : List Text → List (List Lexeme)
items_of = map (λ n. lexeme.name n ∷ [])

names_bounded : (ns : List Text) → KeepsBounds (names_text true ns)
names_bounded [] rest bounded = bounded
names_bounded (n ∷ ns) rest bounded = refl

regroup_name : (later : Bool) (x : Lexeme) (ys : List Lexeme) → (comma_lexeme_if later ++ (x ∷ [])) ++ ys ≡ comma_lexeme_if later ++ ((x ∷ []) ++ ys)
regroup_name true x ys = refl
regroup_name false x ys = refl

names_after : (later : Bool) (ns : List Text) → AllByRecursion IsName ns → ShowsBefore (names_text later ns) (items_after later (items_of ns))
names_after later [] p = anywhere nothing
names_after later (n ∷ ns) p =
    let others : ShowsBefore (names_text true ns) (following (items_of ns)) = shows_these (items_follow (items_of ns)) (names_after true ns p.1) in
    shows_these (regroup_name later (lexeme.name n) (following (items_of ns)))
    (before_then_before (shown_then_before (a_comma_if later) (a_name n p.0)) (names_bounded ns) others)

names_separated : (n : Text) (ns : List Text) → Separated NameSpelling (name_lexemes (n ∷ ns)) (n ∷ ns)
names_separated n [] = one_item name_item
names_separated n (m ∷ ns) = next_item name_item (names_separated m ns)

names_spelled : (ns : List Text) → NamesSpelling (with_braces (name_lexemes ns)) ns
names_spelled [] = g.names no_items
names_spelled (n ∷ ns) = g.names (some_items (names_separated n ns))

-- ---- keys

abbrev key_lexemes : List Text → List Lexeme
key_lexemes ns = keyword k.Key ∷ with_braces (name_lexemes ns)

key_shows : (ns : List Text) → AllByRecursion IsName ns → Shows (key_text ns) (key_lexemes ns)
key_shows ns p =
    let opened = shown_then (shown_then a_space (a_word_and_space k.Key)) an_open_brace in
    let all : ShowsBefore (names_text false ns) (name_lexemes ns) = shows_these (items_first (items_of ns)) (names_after false ns p) in
    before_then (shown_then_before opened all) (λ rest. refl) a_close_brace

-- those of a list that pass a test
kept : {A : Type 0} (P : A → Type 0) (test : A → Bool) (xs : List A) → AllByRecursion P xs → AllByRecursion P (filter test xs)
kept P test [] p = tt
kept P test (x ∷ xs) p =
    elim (test x) as (λ b. AllByRecursion P (cond b (x ∷ filter test xs) (filter test xs))) [ true ↦ (p.0, kept P test xs p.1) | false ↦ kept P test xs p.1 ]

-- the lexemes of a relvar's keys
abbrev pub keys_lexemes : Heading → List (List Text) → List Lexeme
keys_lexemes h = flat_map (λ key. key_lexemes (ordered_names h key))

pub keys_show : (h : Heading) (keys : List (List Text)) → AllByRecursion IsName (attribute_names h) → Shows (keys_text h keys) (keys_lexemes h keys)
keys_show h [] p = nothing
keys_show h (key ∷ keys) p =
    shown_then (key_shows (ordered_names h key) (kept IsName (λ n. has_name n key) (attribute_names h) p)) (keys_show h keys p)

pub keys_spelled : (h : Heading) (keys : List (List Text)) → Repeated KeyPart (keys_lexemes h keys) (map (ordered_names h) keys)
keys_spelled h [] = no_more
keys_spelled h (key ∷ keys) = one_more (key_part (names_spelled (ordered_names h key))) (keys_spelled h keys)

pub keys_inner : (h : Heading) (keys : List (List Text)) → AllInner (keys_lexemes h keys)
keys_inner h [] = none_left
keys_inner h (key ∷ keys) = join (also tt (in_braces (commas_inner (names_inner (ordered_names h key))))) (keys_inner h keys)
