-- What a step of reading that gave something has read.
use Rattle.std.proofs.Common.{◌≡◌, ℕ, zero, suc, Bool, true, false, cond, List, [], ◌∷◌, ◌++◌, length, Option, Some, None, refl, sym, ap, subst, ◌∙◌, append_assoc, inl, inr, ◌⊎◌}
use Rattle.std.proofs.lemmas.List.{append-nil}
use Rattle.td_tree.specs.declared.keyword.Keyword.TheVariants as k
use Rattle.td_tree.specs.declared.token.Sign.TheVariants as signs
use Rattle.td_tree.specs.model.Lexemes.{Lexeme, keyword, sign}
use Rattle.td_tree.specs.model.Lexemes as lexeme
use Rattle.td_tree.specs.model.Lists.{Separated, one_item, next_item, Listed, no_items, some_items, Repeated, no_more, one_more, Optional, absent, present, with_braces, with_parentheses}
use Rattle.td_parse.specs.code.ReadingSteps.{◌>>=◌, either, ReadOf, same_lexeme, expect, read_name, read_as, read_up_to, in_parentheses_read, in_braces_read, optional, separated_from, list_by_commas, listed_to, repeated_from, list_by_words}
use Rattle.td_tree.specs.model.Trees.{Text}
use Rattle.td_parse.proofs.AgainLists.{comma}
use Rattle.td_parse.proofs.Begins.{same_is}

-- ---- steps

abbrev pub some : {A : Type 0} → A → Option A
some x = Some x

pub bind_some : {A B : Type 0} (r : Option A) (f : A → Option B) (y : B) → (r >>= f) ≡ Some y → (x : A) × (r ≡ Some x) × (f x ≡ Some y)
bind_some (Some x) f y e = (x, refl, e)
bind_some None f y e = absurd cc

pub guard_some : {A : Type 0} (b : Bool) (r : Option A) (y : A) → cond b r None ≡ Some y → (b ≡ true) × (r ≡ Some y)
guard_some true r y e = (refl, e)
guard_some false r y e = absurd cc

pub either_cases : {A B : Type 0} (b : B) (f : A → B) (o : Option A) (y : B) → either b f o ≡ y → ((o ≡ None) × (b ≡ y)) ⊎ ((x : A) × (o ≡ Some x) × (f x ≡ y))
either_cases b f None y e = inl (refl, e)
either_cases b f (Some x) y e = inr (x, refl, e)

pub pair_is : {A B : Type 0} (a c : A) (b d : B) → some {A = A × B} (a, b) ≡ some {A = A × B} (c, d) → (a ≡ c) × (b ≡ d)
pair_is {A} {B} a c b d e =
    let p : (a, b) ≡ (c, d) = cc in
    (ap (λ (x : A × B). x.0) p, ap (λ (x : A × B). x.1) p)

-- ---- fronts

-- these lexemes are the front and the rest
pub record Front (ts xs rest : List Lexeme) : Type 0 where
  pub parts : ts ≡ xs ++ rest

pub all_left : (ts : List Lexeme) → Front ts [] ts
all_left ts = record { parts = refl }

pub glue : {ts xs ys after rest : List Lexeme} → Front ts xs after → Front after ys rest → Front ts (xs ++ ys) rest
glue {ts} {xs} {ys} {after} {rest} p q = record { parts = p.parts ∙ (ap (λ (l : List Lexeme). xs ++ l) q.parts ∙ sym (append_assoc xs ys rest)) }

pub expect_front : (l : Lexeme) (ts after : List Lexeme) → expect l ts ≡ Some after → Front ts (l ∷ []) after
unfolding expect
expect_front l [] after e = absurd cc
expect_front l (x ∷ ts) after e =
    let g = guard_some (same_lexeme x l) (Some ts) after e in
    let is_l : x ≡ l = same_is x l g.0 in
    let is_after : ts ≡ after = let f : some ts ≡ some after = g.1 in cc in
    record { parts = rw (is_l, is_after) refl }

-- a value is read, and these lexemes spell it
pub record Takes {A : Type 0} (Item : List Lexeme → A → Type 0) (ts : List Lexeme) (a : A) (rest : List Lexeme) : Type 0 where
  pub front : List Lexeme
  pub spelled : Item front a
  pub parts : Front ts front rest

-- what this reads is spelled
abbrev pub Sound : {A : Type 0} → (List Lexeme → A → Type 0) → (List Lexeme → ReadOf A) → Type 0
Sound {A} Item item = (ts : List Lexeme) (a : A) (rest : List Lexeme) → item ts ≡ Some (a, rest) → Takes Item ts a rest

pub retake : {A : Type 0} (Item : List Lexeme → A → Type 0) {ts front after rest : List Lexeme} {a b : A} → some {A = A × List Lexeme} (a, after) ≡ some {A = A × List Lexeme} (b, rest) → Item front a → Front ts front after → Takes Item ts b rest
retake {A} Item {ts} {front} {after} {rest} {a} {b} e p f =
    let g = pair_is a b after rest e in
    subst (λ (c : A). Takes Item ts c rest) g.0 (record { front = front; spelled = p; parts = subst (λ (l : List Lexeme). Front ts front l) g.1 f })

-- a value and what closes it
pub record TakesTo {A : Type 0} (close : Lexeme) (Item : List Lexeme → A → Type 0) (ts : List Lexeme) (a : A) (rest : List Lexeme) : Type 0 where
  pub front : List Lexeme
  pub spelled : Item front a
  pub parts : Front ts (front ++ (close ∷ [])) rest

-- a value between what encloses it
pub record TakesIn {A : Type 0} (enclosed : List Lexeme → List Lexeme) (Item : List Lexeme → A → Type 0) (ts : List Lexeme) (a : A) (rest : List Lexeme) : Type 0 where
  pub front : List Lexeme
  pub spelled : Item front a
  pub parts : Front ts (enclosed front) rest

-- ---- names

pub name_front : (ts : List Lexeme) (n : Text) (rest : List Lexeme) → read_name ts ≡ Some (n, rest) → Front ts (lexeme.name n ∷ []) rest
unfolding read_name
name_front (lexeme.name m ∷ ts) n rest e =
    let g = pair_is m n ts rest e in
    record { parts = rw (g.0, g.1) refl }
name_front _ n rest e = absurd cc

pub as_front : (ts : List Lexeme) (n : Text) (rest : List Lexeme) → read_as ts ≡ Some (n, rest) → Front ts (keyword k.As ∷ (lexeme.name n ∷ [])) rest
unfolding read_as
as_front ts n rest e =
    let b = bind_some (expect (keyword k.As) ts) _ _ e in
    glue (expect_front (keyword k.As) ts b.0 b.1) (name_front b.0 n rest b.2)

-- ---- one item

pub up_to_sound : {A : Type 0} {Item : List Lexeme → A → Type 0} (item : List Lexeme → ReadOf A) → Sound Item item → (close : Lexeme) (ts : List Lexeme) (a : A) (rest : List Lexeme)
    → read_up_to close item ts ≡ Some (a, rest) → TakesTo close Item ts a rest
unfolding read_up_to
up_to_sound {A} {Item} item sound close ts a rest e =
    let b = bind_some (item ts) _ _ e in
    let c = bind_some (expect close b.0.1) _ _ b.2 in
    let g = pair_is b.0.0 a c.0 rest c.2 in
    let t = sound ts b.0.0 b.0.1 b.1 in
    record {
      front = t.front;
      spelled = subst (λ (x : A). Item t.front x) g.0 t.spelled;
      parts = subst (λ (l : List Lexeme). Front ts (t.front ++ (close ∷ [])) l) g.1 (glue t.parts (expect_front close b.0.1 c.0 c.1));
    }

pub enclosed_sound : {A : Type 0} {Item : List Lexeme → A → Type 0} (item : List Lexeme → ReadOf A) → Sound Item item → (ts : List Lexeme) (a : A) (rest : List Lexeme) → in_parentheses_read item ts ≡ Some (a, rest) → TakesIn with_parentheses Item ts a rest
unfolding in_parentheses_read
enclosed_sound {A} {Item} item sound ts a rest e =
    let b = bind_some (expect (sign signs.OpenParenthesis) ts) _ _ e in
    let t = up_to_sound item sound (sign signs.CloseParenthesis) b.0 a rest b.2 in
    record { front = t.front; spelled = t.spelled; parts = glue (expect_front (sign signs.OpenParenthesis) ts b.0 b.1) t.parts }

pub braced_sound : {A : Type 0} {Item : List Lexeme → A → Type 0} (item : List Lexeme → ReadOf A) → Sound Item item → (ts : List Lexeme) (a : A) (rest : List Lexeme) → in_braces_read item ts ≡ Some (a, rest) → TakesIn with_braces Item ts a rest
unfolding in_braces_read
braced_sound {A} {Item} item sound ts a rest e =
    let b = bind_some (expect (sign signs.OpenBrace) ts) _ _ e in
    let t = up_to_sound item sound (sign signs.CloseBrace) b.0 a rest b.2 in
    record { front = t.front; spelled = t.spelled; parts = glue (expect_front (sign signs.OpenBrace) ts b.0 b.1) t.parts }

pub optional_sound : {A : Type 0} {Item Part : List Lexeme → A → Type 0} (word : Lexeme) (item : List Lexeme → ReadOf A) → ((xs : List Lexeme) (a : A) → Item xs a → Part (word ∷ xs) a) → Sound Item item
    → Sound (Optional Part) (optional word item)
unfolding optional
optional_sound {A} {Item} {Part} word item part sound ts a rest e =
    elim (either_cases _ _ (expect word ts) _ e) [
      | inl g ↦ retake (Optional Part) g.1 absent (all_left ts)
      | inr g ↦
          let b = bind_some (item g.0) _ _ g.2 in
          let t = sound g.0 b.0.0 b.0.1 b.1 in
          retake (Optional Part) b.2 (present (part t.front b.0.0 t.spelled)) (glue (expect_front word ts g.0 g.1) t.parts)
    ]

-- ---- items

-- items behind those before
record TakesMore {A : Type 0} (Item : List Lexeme → List A → Type 0) (before : List A) (ts : List Lexeme) (all : List A) (rest : List Lexeme) : Type 0 where
  items : List A
  is_all : all ≡ before ++ items
  takes : Takes Item ts items rest

more_from : {A : Type 0} {Item : List Lexeme → A → Type 0} (item : List Lexeme → ReadOf A) → Sound Item item → (n : ℕ) (before : List A) (ts : List Lexeme) (all : List A) (rest : List Lexeme)
    → separated_from item n before ts ≡ Some (all, rest) → TakesMore (Separated Item) before ts all rest
unfolding separated_from
more_from item sound zero before ts all rest e = absurd cc
more_from {A} {Item} item sound (suc n) before ts all rest e =
    let b = bind_some (item ts) _ _ e in
    let t = sound ts b.0.0 b.0.1 b.1 in
    elim (either_cases _ _ (expect comma b.0.1) _ b.2) [
      | inl g ↦
          let q = pair_is (before ++ (b.0.0 ∷ [])) all b.0.1 rest g.1 in
          record { items = b.0.0 ∷ []; is_all = sym q.0; takes = record { front = t.front; spelled = one_item t.spelled; parts = subst (λ (l : List Lexeme). Front ts t.front l) q.1 t.parts } }
      | inr g ↦
          let r = more_from item sound n (before ++ (b.0.0 ∷ [])) g.0 all rest g.2 in
          record {
            items = b.0.0 ∷ r.items;
            is_all = r.is_all ∙ append_assoc before (b.0.0 ∷ []) r.items;
            takes = record { front = t.front ++ (comma ∷ r.takes.front); spelled = next_item t.spelled r.takes.spelled; parts = glue t.parts (glue (expect_front comma b.0.1 g.0 g.1) r.takes.parts) };
          }
    ]

pub separated_sound : {A : Type 0} {Item : List Lexeme → A → Type 0} (item : List Lexeme → ReadOf A) → Sound Item item → Sound (Separated Item) (list_by_commas item)
unfolding list_by_commas
separated_sound {A} {Item} item sound ts all rest e =
    let m = more_from item sound (suc (length ts)) [] ts all rest e in
    subst (λ (x : List A). Takes (Separated Item) ts x rest) (sym m.is_all) m.takes

pub listed_sound : {A : Type 0} {Item : List Lexeme → A → Type 0} (item : List Lexeme → ReadOf A) → Sound Item item → (close : Lexeme) (ts : List Lexeme) (all : List A) (rest : List Lexeme)
    → listed_to close item ts ≡ Some (all, rest) → TakesTo close (Listed Item) ts all rest
unfolding listed_to
listed_sound {A} {Item} item sound close ts all rest e =
    elim (either_cases _ _ (expect close ts) _ e) [
      | inl g ↦
          let t = up_to_sound (list_by_commas item) (separated_sound item sound) close ts all rest g.1 in
          record { front = t.front; spelled = some_items t.spelled; parts = t.parts }
      | inr g ↦
          let q = pair_is [] all g.0 rest g.2 in
          record { front = []; spelled = subst (λ (x : List A). Listed Item [] x) q.0 no_items; parts = subst (λ (l : List Lexeme). Front ts (close ∷ []) l) q.1 (expect_front close ts g.0 g.1) }
    ]

repeats_from : {A : Type 0} {Item Part : List Lexeme → A → Type 0} (word : Lexeme) (item : List Lexeme → ReadOf A) → ((xs : List Lexeme) (a : A) → Item xs a → Part (word ∷ xs) a) → Sound Item item
    → (n : ℕ) (before : List A) (ts : List Lexeme) (all : List A) (rest : List Lexeme) → repeated_from word item n before ts ≡ Some (all, rest) → TakesMore (Repeated Part) before ts all rest
unfolding repeated_from
repeats_from word item part sound zero before ts all rest e = absurd cc
repeats_from {A} {Item} {Part} word item part sound (suc n) before ts all rest e =
    elim (either_cases _ _ (expect word ts) _ e) [
      | inl g ↦
          let q = pair_is before all ts rest g.1 in
          record { items = []; is_all = sym q.0 ∙ sym (append-nil before); takes = record { front = []; spelled = no_more; parts = record { parts = q.1 } } }
      | inr g ↦
          let b = bind_some (item g.0) _ _ g.2 in
          let t = sound g.0 b.0.0 b.0.1 b.1 in
          let r = repeats_from word item part sound n (before ++ (b.0.0 ∷ [])) b.0.1 all rest b.2 in
          record {
            items = b.0.0 ∷ r.items;
            is_all = r.is_all ∙ append_assoc before (b.0.0 ∷ []) r.items;
            takes = record { front = (word ∷ t.front) ++ r.takes.front; spelled = one_more (part t.front b.0.0 t.spelled) r.takes.spelled; parts = glue (glue (expect_front word ts g.0 g.1) t.parts) r.takes.parts };
          }
    ]

pub repeated_sound : {A : Type 0} {Item Part : List Lexeme → A → Type 0} (word : Lexeme) (item : List Lexeme → ReadOf A) → ((xs : List Lexeme) (a : A) → Item xs a → Part (word ∷ xs) a) → Sound Item item
    → Sound (Repeated Part) (list_by_words word item)
unfolding list_by_words
repeated_sound {A} {Item} {Part} word item part sound ts all rest e =
    let m = repeats_from word item part sound (suc (length ts)) [] ts all rest e in
    subst (λ (x : List A). Takes (Repeated Part) ts x rest) (sym m.is_all) m.takes
