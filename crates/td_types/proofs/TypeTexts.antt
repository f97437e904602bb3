-- The text of a type, with what stands after it, is that of one type alone.
use Rattle.std.proofs.Common.{◌≡◌, ◌∙◌, ap, sym, refl, arith, ℕ, List, [], ◌∷◌, ◌++◌, Bool, true, false, Option, Some, None, append_assoc, codes}
use Rattle.std.specs.Prelude.{is_some}
use Rattle.td_tree.specs.declared.keyword.Keyword.{Keyword}
use Rattle.td_tree.specs.declared.keyword.Keyword.TheVariants as keywords
use Rattle.td_tree.specs.model.Keywords.{keyword_of}
use Rattle.td_types.specs.model.Texts.{attributes_text, comma_if, type_text}
use Rattle.td_types.specs.model.Types.{Type', boolean, integer, char, user, tuple, relation, Attrs, no_attrs, attr, IsHeading, IsType}
use Rattle.td_types.proofs.Plain.{IsMarked, IsPlain, cut_front, name_plain, name_unreserved, plain_cut, tail_of}

pub regroup_3 : (a b c x : List ℕ) → ((a ++ b) ++ c) ++ x ≡ a ++ (b ++ (c ++ x))
regroup_3 a b c x = simp append_assoc

pub regroup_5 : (a b c d f x : List ℕ) → ((((a ++ b) ++ c) ++ d) ++ f) ++ x ≡ a ++ (b ++ (c ++ (d ++ (f ++ x))))
regroup_5 a b c d f x = simp append_assoc

-- the word at the front of a type's text, and what stands after it
abbrev word : Type' → List ℕ
word boolean = codes "BOOLEAN"
word integer = codes "INTEGER"
word char = codes "CHAR"
word (user n) = n
word (tuple h) = codes "TUPLE"
word (relation h) = codes "RELATION"

abbrev after : Type' → List ℕ → List ℕ
after boolean x = x
after integer x = x
after char x = x
after (user n) x = x
after (tuple h) x = codes " {" ++ (attributes_text false h ++ 125 ∷ x)
after (relation h) x = codes " {" ++ (attributes_text false h ++ 125 ∷ x)

parted : (t : Type') (x : List ℕ) → type_text t ++ x ≡ word t ++ after t x
parted boolean x = refl
parted integer x = refl
parted char x = refl
parted (user n) x = refl
parted (tuple h) x = regroup_3 (codes "TUPLE {") (attributes_text false h) (codes "}") x
parted (relation h) x = regroup_3 (codes "RELATION {") (attributes_text false h) (codes "}") x

word_plain : (t : Type') → IsType t → IsPlain (word t)
word_plain boolean p = (refl, (refl, (refl, (refl, (refl, (refl, (refl, tt)))))))
word_plain integer p = (refl, (refl, (refl, (refl, (refl, (refl, (refl, tt)))))))
word_plain char p = (refl, (refl, (refl, (refl, tt))))
word_plain (user n) p = name_plain n p
word_plain (tuple h) p = (refl, (refl, (refl, (refl, (refl, tt)))))
word_plain (relation h) p = (refl, (refl, (refl, (refl, (refl, (refl, (refl, (refl, tt))))))))

after_marked : (t : Type') (x : List ℕ) → IsMarked x → IsMarked (after t x)
after_marked boolean x m = m
after_marked integer x m = m
after_marked char x m = m
after_marked (user n) x m = m
after_marked (tuple h) x m = refl
after_marked (relation h) x m = refl

-- the reserved word that a type begins with, if with one
abbrev kind : Type' → Option Keyword
kind boolean = Some keywords.Boolean
kind integer = Some keywords.Integer
kind char = Some keywords.Char
kind (user n) = None
kind (tuple h) = Some keywords.Tuple
kind (relation h) = Some keywords.Relation

no_keyword : (o : Option Keyword) → is_some o ≡ false → o ≡ None
no_keyword None e = refl
no_keyword (Some k) e = absurd cc

kind_is : (t : Type') → IsType t → keyword_of (word t) ≡ kind t
unfolding keyword_of
kind_is boolean p = refl
kind_is integer p = refl
kind_is char p = refl
kind_is (user n) p = no_keyword (keyword_of n) (name_unreserved n p)
kind_is (tuple h) p = refl
kind_is (relation h) p = refl

word_cut : (s t : Type') → IsType s → IsType t → (x y : List ℕ) → IsMarked x → IsMarked y → type_text s ++ x ≡ type_text t ++ y
    → (word s ≡ word t) × (after s x ≡ after t y)
word_cut s t p q x y m n e =
    plain_cut (word s) (word t) (after s x) (after t y) (word_plain s p) (word_plain t q) (after_marked s x m) (after_marked t y n)
    (sym (parted s x) ∙ e ∙ parted t y)

kinds_same : (s t : Type') → IsType s → IsType t → (x y : List ℕ) → IsMarked x → IsMarked y → type_text s ++ x ≡ type_text t ++ y → kind s ≡ kind t
kinds_same s t p q x y m n e = sym (kind_is s p) ∙ ap keyword_of (word_cut s t p q x y m n e).0 ∙ kind_is t q

pub attributes_marked : (h : Attrs) (x : List ℕ) → IsMarked (attributes_text true h ++ 125 ∷ x)
attributes_marked no_attrs x = refl
attributes_marked (attr n t h) x = refl

-- no name stands where a brace does
pub no_name : (n x y : List ℕ) → IsPlain n → 125 ∷ x ≡ n ++ 32 ∷ y → ⊥
no_name n x y plain e =
    let cut = plain_cut [] n (125 ∷ x) (32 ∷ y) tt plain refl refl e in
    omega (arith, (tail_of 125 32 x y cut.1).0)

mutual
  -- a type's text, with nothing after it or a mark
  pub type_cut : (s t : Type') → IsType s → IsType t → (x y : List ℕ) → IsMarked x → IsMarked y → type_text s ++ x ≡ type_text t ++ y → (s ≡ t) × (x ≡ y)
  type_cut boolean boolean p q x y m n e = (refl, (word_cut boolean boolean p q x y m n e).1)
  type_cut integer integer p q x y m n e = (refl, (word_cut integer integer p q x y m n e).1)
  type_cut char char p q x y m n e = (refl, (word_cut char char p q x y m n e).1)
  type_cut (user k) (user l) p q x y m n e =
      let cut = word_cut (user k) (user l) p q x y m n e in (ap user cut.0, cut.1)
  type_cut (tuple g) (tuple h) p q x y m n e =
      let cut = word_cut (tuple g) (tuple h) p q x y m n e in
      let more = attributes_cut false g h p q x y (cut_front (codes " {") _ _ cut.1) in (ap tuple more.0, more.1)
  type_cut (relation g) (relation h) p q x y m n e =
      let cut = word_cut (relation g) (relation h) p q x y m n e in
      let more = attributes_cut false g h p q x y (cut_front (codes " {") _ _ cut.1) in (ap relation more.0, more.1)
  type_cut s t p q x y m n e = let k : kind s ≡ kind t = kinds_same s t p q x y m n e in absurd (cc)

  -- the attributes of a heading, up to their brace
  pub attributes_cut : (later : Bool) (g h : Attrs) → IsHeading g → IsHeading h → (x y : List ℕ)
      → attributes_text later g ++ 125 ∷ x ≡ attributes_text later h ++ 125 ∷ y → (g ≡ h) × (x ≡ y)
  attributes_cut later no_attrs no_attrs p q x y e = (refl, cut_front (codes "}") x y e)
  attributes_cut true no_attrs (attr n t h) p q x y e = absurd (omega (arith, (tail_of 125 44 _ _ e).0))
  attributes_cut false no_attrs (attr n t h) p q x y e =
      absurd (no_name n x _ (name_plain n q.0) (e ∙ regroup_5 [] n (codes " ") (type_text t) (attributes_text true h) (125 ∷ y)))
  attributes_cut true (attr m s g) no_attrs p q x y e = absurd (omega (arith, (tail_of 44 125 _ _ e).0))
  attributes_cut false (attr m s g) no_attrs p q x y e =
      absurd (no_name m y _ (name_plain m p.0) (sym e ∙ regroup_5 [] m (codes " ") (type_text s) (attributes_text true g) (125 ∷ x)))
  attributes_cut later (attr m s g) (attr n t h) p q x y e =
      let whole = sym (regroup_5 (comma_if later) m (codes " ") (type_text s) (attributes_text true g) (125 ∷ x)) ∙ e ∙ regroup_5 (comma_if later) n (codes " ") (type_text t) (attributes_text true h) (125 ∷ y) in
      let names = plain_cut m n _ _ (name_plain m p.0) (name_plain n q.0) refl refl (cut_front (comma_if later) _ _ whole) in
      let types = type_cut s t p.1 q.1 _ _ (attributes_marked g x) (attributes_marked h y) (cut_front (codes " ") _ _ names.1) in
      let more = attributes_cut true g h p.3 q.3 x y types.1 in
      (λ i. attr (names.0 i) (types.0 i) (more.0 i), more.1)
