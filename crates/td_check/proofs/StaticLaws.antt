-- The laws of the types of expressions.
use Rattle.std.proofs.Common.{◌≡◌, ◌∙◌, ◌∷◌, ◌++◌, ℕ, Bool, true, false, List, [], Some, ap, refl, subst, sym, true≢false}
use Rattle.std.specs.Prelude.{not}
use Rattle.std.specs.Cmp.Lexicographic.{same_text}
use Rattle.std.specs.List.{AllByRecursion, Contains}
use Rattle.td_check.specs.model.Mentions.{relvars_in, types_in}
use Rattle.td_check.specs.model.Scopes.{KnownRelvar, Scope, relvar_in}
use Rattle.td_check.specs.laws.StaticLaws.{AgreeAt, AgreeOn, DropsChangeNothing, HasMore, LacksRelvar, LacksType, MentionsAreKnown, MoreChangesNothing, TypesAreKnown, TypesAreMadeOfMentions, TypesDependOnMentions, UsersAllIn, UsersIn, is_other}
use Rattle.td_check.specs.model.StaticTypes.{named_types, type_of, types_of}
use Rattle.td_tree.specs.model.Names.{IsName}
use Rattle.td_tree.specs.model.Outcomes.{Outcome, Valued}
use Rattle.td_tree.specs.model.Trees.{NamedTrees}
use Rattle.td_types.specs.model.TypeLists.{DeclaredType, IsKnown, declared_at}
use Rattle.td_types.specs.model.Types.{Attribute, Attrs, IsType, Type', attr, boolean, char, integer, no_attrs, pack, relation, same_name, tuple, user}
use Rattle.td_types.proofs.HeadingLaws.{same_name-itself}
use Rattle.td_types.proofs.KnownTypes.{declared_more}
use Rattle.td_check.proofs.DeclaredUsers.{users_declared}
use Rattle.td_check.proofs.GivenLaws.{all_give, gives, parts_give}
use Rattle.td_check.proofs.KnownLaws.{IsKnownType, known_closed, supplies}
use Rattle.td_check.proofs.MentionLaws.{all_carried, carried, items_carried_in, named_carried}
use Rattle.td_check.proofs.MentionedRelvarLaws.{relvars_known}
use Rattle.td_check.proofs.MentionedTypeLaws.{AreThere, types_show}
use Rattle.td_check.proofs.OperatorLaws.{Fits, Gives}

-- ---- types that are known

is_given : {A : Type 0} (P : A → Type 0) (o : Outcome A) (x : A) → Gives P o → o ≡ Valued x → P x
is_given P o x g e = subst (Gives P) e g

flat : (ds : List DeclaredType) (xs : List Attribute) → AllByRecursion (Fits (known_closed ds)) xs
    → AllByRecursion (λ a. IsName a.0 × IsType a.1 × IsKnown ds a.1) xs
flat ds [] all = tt
flat ds (a ∷ xs) all = ((all.0.0, all.0.1.0, all.0.1.1), flat ds xs all.1)

pub types_are_known : TypesAreKnown
types_are_known =
    record {
      of_tree = λ s e t h n is. is_given (IsKnownType s.types) (type_of s e) t (gives (known_closed s.types) e n s (supplies s h)) is;
      of_trees = λ s es ts h n is. is_given (AllByRecursion (IsKnownType s.types)) (types_of s es) ts (all_give (known_closed s.types) es n s (supplies s h)) is;
      of_parts = λ s es xs h n is.
          flat s.types xs (is_given (AllByRecursion (Fits (known_closed s.types))) (named_types s es) xs (parts_give (known_closed s.types) es n s (supplies s h)) is);
      of_users = λ s e t h is. users_declared s h e t is;
    }

-- ---- what is mentioned

pub mentions_are_known : MentionsAreKnown
mentions_are_known =
    record {
      relvars = λ s e n c. relvars_known e s n c;
      types = λ s e t n is c. is_given (λ _. AreThere s.types (types_in e)) (type_of s e) t (types_show e s) is n c;
    }

pub depends : TypesDependOnMentions
depends =
    record {
      of_tree = λ among first second e t a m k is. let h = (carried among e first second a m k).carried t is in (h.0, h.2);
      of_trees = λ among first second es ts a m k is. let h = (all_carried among es first second a m k).carried ts is in (h.0, h.2);
      of_parts = λ among first second es ts a m k is. let h = (named_carried among es first second a m k).carried ts is in (h.0, h.2);
      of_items = λ among first second es items a m k is. let h = (items_carried_in among es first second a m k).carried items is in (h.0, h.2);
    }

pub made_of_mentions : TypesAreMadeOfMentions
made_of_mentions among scope e t a m k is = ((carried among e scope scope a m k).carried t is).1

-- ---- more types and relvars

abbrev any : List ℕ → Bool
any n = true

mutual
  users_any : (t : Type') → UsersIn any t
  users_any boolean = tt
  users_any integer = tt
  users_any char = tt
  users_any (user n) = refl
  users_any (tuple xs) = users_all_any xs
  users_any (relation xs) = users_all_any xs

  users_all_any : (xs : Attrs) → UsersAllIn any xs
  users_all_any no_attrs = tt
  users_all_any (attr n t xs) = (users_any t, users_all_any xs)

relvar_more : (n : List ℕ) (rs more : List KnownRelvar) (r : KnownRelvar) → relvar_in n rs ≡ Some r → relvar_in n (rs ++ more) ≡ Some r
relvar_more n [] more r e = absurd (cc)
relvar_more n (q ∷ rs) more r e = by_name (same_name q.name n) refl (relvar_more n rs more r)
  where
    by_name : (same : Bool) → same_name q.name n ≡ same → (relvar_in n rs ≡ Some r → relvar_in n (rs ++ more) ≡ Some r)
        → relvar_in n (q ∷ (rs ++ more)) ≡ Some r
    by_name true is rest = rw is (rw is at e)
    by_name false is rest = rw is (rest (rw is at e))

agree_more : (first second : Scope) → HasMore first second → AgreeOn any first second
agree_more first second h =
    record {
      entered = h.entered;
      types = λ n d m e. ap (declared_at n) h.types.1 ∙ declared_more n first.types h.types.0 d e;
      closed = λ n d m e. users_all_any (pack d.components);
      entered_in = λ g c. users_all_any (pack g);
    }

relvars_more : (first second : Scope) → HasMore first second → (n : List ℕ) → AgreeAt any first second n
relvars_more first second h n r e =
    (r, ap (relvar_in n) h.relvars.1 ∙ relvar_more n first.relvars h.relvars.0 r e, refl, users_all_any (pack r.heading))

pub more_changes_nothing : MoreChangesNothing
more_changes_nothing first second e t h is =
    let c = (carried any e first second (agree_more first second h) (λ n _. refl) (λ n _. relvars_more first second h n)).carried t is in
    (c.0, c.2)

-- so has a list of names with expressions
pub more_changes_no_parts : (first second : Scope) (parts : NamedTrees) (xs : List Attribute) → HasMore first second → named_types first parts ≡ Valued xs
    → named_types second parts ≡ Valued xs
more_changes_no_parts first second parts xs h is =
    ((named_carried any parts first second (agree_more first second h) (λ n _. refl) (λ n _. relvars_more first second h n)).carried xs is).0

-- ---- what is dropped

relvars_lack : (dropped : List ℕ) (first second : Scope) → LacksRelvar dropped first second → (n : List ℕ) → (n ≡ dropped → ⊥)
    → AgreeAt any first second n
relvars_lack dropped first second h n other r e = (r, h.relvars n other ∙ e, refl, users_all_any (pack r.heading))

agree_lacking : (dropped : List ℕ) (first second : Scope) → LacksRelvar dropped first second → AgreeOn any first second
agree_lacking dropped first second h =
    record {
      entered = h.entered;
      types = λ n d m e. ap (declared_at n) h.types ∙ e;
      closed = λ n d m e. users_all_any (pack d.components);
      entered_in = λ g c. users_all_any (pack g);
    }

not_that : (R : List ℕ → Type 0) (dropped : List ℕ) → (R dropped → ⊥) → (n : List ℕ) → R n → n ≡ dropped → ⊥
not_that R dropped absent n r e = absent (subst R e r)

other_is : (dropped n : List ℕ) → (n ≡ dropped → ⊥) → is_other dropped n ≡ true
other_is dropped n h = by_test (same_name n dropped) refl
  where
    by_test : (b : Bool) → same_name n dropped ≡ b → not b ≡ true
    by_test true e = absurd (h (same_text n dropped (sym e)))
    by_test false e = refl

other_not : (dropped n : List ℕ) → is_other dropped n ≡ true → n ≡ dropped → ⊥
other_not dropped n h e = true≢false (sym (subst (λ m. not (same_name m dropped) ≡ true) e h) ∙ ap not (same_name-itself dropped))

agree_apart : (dropped : List ℕ) (first second : Scope) → LacksType dropped first second → AgreeOn (is_other dropped) first second
agree_apart dropped first second h =
    record {
      entered = h.entered;
      types = λ n d m e. h.types n (other_not dropped n m) ∙ e;
      closed = λ n d m e. h.components n d (other_not dropped n m) e;
      entered_in = h.entered_of;
    }

pub drops_change_nothing : DropsChangeNothing
drops_change_nothing =
    record {
      relvar = λ dropped first second e t h absent is.
          ((carried any e first second (agree_lacking dropped first second h) (λ n _. refl)
          (λ n c. relvars_lack dropped first second h n (not_that (Contains (relvars_in first e)) dropped absent n c))).carried t is).0;
      type = λ dropped first second e t h absent is.
          ((carried (is_other dropped) e first second (agree_apart dropped first second h)
          (λ n c. other_is dropped n (not_that (Contains (types_in e)) dropped absent n c))
          (λ n _ r f. (r, ap (relvar_in n) h.relvars ∙ f, refl, h.headings n r f))).carried t is).0;
    }
