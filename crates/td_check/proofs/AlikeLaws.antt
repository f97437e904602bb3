-- Elements that are alike give a relation the type that the first alone gives it.
use denote.Param.Weighed.{most}
use Rattle.std.proofs.Common.{◌≡◌, ◌∙◌, ◌≤◌, ◌++◌, ℕ, zero, suc, arith, take, List, [], ◌∷◌, ap, map, refl, sym, Bool, true, false, Result, Ok, Err}
use Rattle.std.specs.Prelude.{if◌then◌else◌, nat_le}
use Rattle.td_tree.specs.model.Causes.{number_of}
use Rattle.std.specs.Cmp.{tied_itself}
use Rattle.td_check.specs.code.Alike.{AreAnsweredAlike, AreEnough, AreLike, AreLikeTuples}
use Rattle.td_check.specs.model.Mentions.{relvars_in, relvars_in_all, relvars_in_named, types_in, types_in_all, types_in_named}
use Rattle.td_check.specs.model.OperatorTypes.{element_type, headed_type, listed_type, same_heading, tuple_type}
use Rattle.td_check.specs.model.Scopes.{Scope}
use Rattle.td_check.specs.model.StaticTypes.{named_types, type_of, types_of}
use Rattle.td_tree.specs.declared.fault.Fault.{Fault}
use Rattle.td_tree.specs.declared.fault.Fault.TheVariants as faults
use Rattle.td_tree.specs.declared.cause.Cause.{Cause}
use Rattle.td_tree.specs.declared.cause.Cause.TheVariants as causes
use Rattle.td_tree.specs.model.Outcomes.{Answers, Causes, Outcome, Refused, Union, Valued, gathered, least, lesser, value_if, with_both, with_value}
use Rattle.td_tree.specs.model.Trees.{Tree, tuple, Trees, none, more, NamedTrees, none_named, more_named}
use Rattle.td_types.specs.code.TypeOrder.{heading_cmp_total}
use Rattle.td_types.specs.model.Types.{Type', Heading, pack, unpack}
use Rattle.td_types.specs.model.Types as types

-- whoever answers the one answers the other
pub answers_alike : {X A : Type 0} (view : X → A) (r : Result X Fault) (o p : Outcome A) → AreAnsweredAlike o p → Answers view r p → Answers view r o
answers_alike view (Ok x) (Valued a) (Valued b) h e = ap Valued h ∙ e
answers_alike view (Ok x) (Valued a) (Refused ds) h e = absurd h
answers_alike view (Ok x) (Refused cs) (Valued b) h e = absurd h
answers_alike view (Ok x) (Refused cs) (Refused ds) h e = cc
answers_alike view (Err (faults.Refused cause)) (Valued a) (Valued b) h e = e
answers_alike view (Err (faults.Refused cause)) (Valued a) (Refused ds) h e = absurd h
answers_alike view (Err (faults.Refused cause)) (Refused cs) (Valued b) h e = absurd h
answers_alike view (Err (faults.Refused cause)) (Refused cs) (Refused ds) h e = rw h e
answers_alike view (Err faults.Memory) o p h e = tt

alike_itself : {A : Type 0} (o : Outcome A) → AreAnsweredAlike o o
alike_itself (Valued x) = refl
alike_itself (Refused cs) = refl

-- ---- parts and elements that are alike

named_alike : (scope : Scope) (ps qs : NamedTrees) → AreLike ps qs → named_types scope qs ≡ named_types scope ps
named_alike scope none_named none_named h = refl
named_alike scope none_named (more_named n t qs) h = absurd h
named_alike scope (more_named m s ps) none_named h = absurd h
named_alike scope (more_named m s ps) (more_named n t qs) h =
    let ty : type_of scope t ≡ type_of scope s = ap (type_of scope) h.1.3 ∙ ap Valued h.1.4 ∙ sym (ap (type_of scope) h.1.2) in
    λ i. with_both (ty i) (named_alike scope ps qs h.2 i) (λ u attributes. Valued ((sym h.0 i, u) ∷ attributes))

no_relvars : (scope : Scope) (ps qs : NamedTrees) → AreLike ps qs → relvars_in_named scope qs ≡ []
no_relvars scope none_named none_named h = refl
no_relvars scope none_named (more_named n t qs) h = absurd h
no_relvars scope (more_named m s ps) none_named h = absurd h
no_relvars scope (more_named m s ps) (more_named n t qs) h =
    ap (λ x. relvars_in scope x ++ relvars_in_named scope qs) h.1.3 ∙ no_relvars scope ps qs h.2

no_types : (ps qs : NamedTrees) → AreLike ps qs → types_in_named qs ≡ []
no_types none_named none_named h = refl
no_types none_named (more_named n t qs) h = absurd h
no_types (more_named m s ps) none_named h = absurd h
no_types (more_named m s ps) (more_named n t qs) h =
    ap (λ x. types_in x ++ types_in_named qs) h.1.3 ∙ no_types ps qs h.2

no_relvars_in_all : (scope : Scope) (ps : NamedTrees) (ts : Trees) → AreLikeTuples ps ts → relvars_in_all scope ts ≡ []
no_relvars_in_all scope ps none h = refl
no_relvars_in_all scope ps (more t ts) h =
    ap (λ x. relvars_in scope x ++ relvars_in_all scope ts) h.0.1 ∙ ap (λ r. r ++ relvars_in_all scope ts) (no_relvars scope ps h.0.0 h.0.2)
    ∙ no_relvars_in_all scope ps ts h.1

no_types_in_all : (ps : NamedTrees) (ts : Trees) → AreLikeTuples ps ts → types_in_all ts ≡ []
no_types_in_all ps none h = refl
no_types_in_all ps (more t ts) h =
    ap (λ x. types_in x ++ types_in_all ts) h.0.1 ∙ ap (λ r. r ++ types_in_all ts) (no_types ps h.0.0 h.0.2) ∙ no_types_in_all ps ts h.1

-- ---- one outcome, for each element

abbrev repeated : Outcome Type' → Trees → Outcome (List Type')
repeated o none = Valued []
repeated o (more t ts) = with_both o (repeated o ts) (λ u us. Valued (u ∷ us))

types_repeated : (scope : Scope) (ps : NamedTrees) (ts : Trees) → AreLikeTuples ps ts → types_of scope ts ≡ repeated (type_of scope (tuple ps)) ts
types_repeated scope ps none h = refl
types_repeated scope ps (more t ts) h =
    let ty : type_of scope t ≡ type_of scope (tuple ps) = ap (type_of scope) h.0.1 ∙ ap (λ o. with_value o tuple_type) (named_alike scope ps h.0.0 h.0.2) in
    λ i. with_both (ty i) (types_repeated scope ps ts h.1 i) (λ u us. Valued (u ∷ us))

abbrev copies : Type' → Trees → List Type'
copies t none = []
copies t (more u us) = t ∷ copies t us

valued_copies : (t : Type') (ts : Trees) → repeated (Valued t) ts ≡ Valued (copies t ts)
valued_copies t none = refl
valued_copies t (more u us) = ap (λ o. with_both (Valued t) o (λ v vs. Valued (v ∷ vs))) (valued_copies t us)

gathered_copies : (f : Type' → Outcome Type') (t : Type') (ts : Trees) → gathered (map f (copies t ts)) ≡ repeated (f t) ts
gathered_copies f t none = refl
gathered_copies f t (more u us) = ap (λ o. with_both (f t) o (λ v vs. Valued (v ∷ vs))) (gathered_copies f t us)

one_of_two : {X : Type 0} (b : Bool) (x : X) → (if b then x else x) ≡ x
one_of_two true x = refl
one_of_two false x = refl

lesser_itself : (c : Cause) → lesser c c ≡ c
lesser_itself c = one_of_two (nat_le (number_of c) (number_of c)) c

refused_repeated : (cs : Causes) (first : Tree) (ts : Trees) → (ds : Causes) × (repeated (Refused cs) (more first ts) ≡ Refused ds) × (least ds ≡ least cs)
refused_repeated cs first none = (cs, refl, refl)
refused_repeated cs first (more t ts) =
    let rest = refused_repeated cs t ts in
    (Union cs rest.0, ap (λ o. with_both (Refused cs) o (λ v vs. Valued (v ∷ vs))) rest.1, ap (lesser (least cs)) rest.2 ∙ lesser_itself (least cs))

-- ---- a relation of them

-- what makes a value of such elements' types, whatever they are, makes the same of the first alone
whatever_alike : {X : Type 0} (o : Outcome Type') (x : X) (first : Tree) (ts : Trees)
    → AreAnsweredAlike (with_value (repeated o (more first ts)) (λ us. Valued x)) (with_value (repeated o (more first none)) (λ us. Valued x))
whatever_alike (Valued t) x first ts = rw (valued_copies t ts) refl
whatever_alike (Refused cs) x first ts =
    let all = refused_repeated cs first ts in
    rw all.1 all.2

headed_copies : (h : Heading) (t : Type') (first : Tree) (ts : Trees) → AreAnsweredAlike (headed_type h (t ∷ copies t ts)) (headed_type h (t ∷ []))
headed_copies h t first ts =
    rw (gathered_copies (element_type h) t ts) (whatever_alike (element_type h t) (types.relation (pack h)) first ts)

same_itself : (h : Heading) → same_heading h h ≡ true
same_itself h = rw (tied_itself heading_cmp_total h) refl

tuple_copies : (t : Type') (ts : Trees) → AreAnsweredAlike (listed_type (t ∷ copies t ts)) (listed_type (t ∷ []))
tuple_copies types.boolean ts = refl
tuple_copies types.integer ts = refl
tuple_copies types.char ts = refl
tuple_copies (types.user n) ts = refl
tuple_copies (types.relation g) ts = refl
tuple_copies (types.tuple g) ts =
    let own : element_type (unpack g) (types.tuple g) ≡ Valued (types.tuple g) = ap (λ b. value_if b (types.tuple g) causes.Heading) (same_itself (unpack g)) in
    rw (gathered_copies (element_type (unpack g)) (types.tuple g) ts, own, valued_copies (types.tuple g) ts) refl

listed_by : (o : Outcome Type') (first : Tree) (ts : Trees)
    → AreAnsweredAlike (with_value (repeated o (more first ts)) listed_type) (with_value (repeated o (more first none)) listed_type)
listed_by (Valued t) first ts = rw (valued_copies t ts) (tuple_copies t ts)
listed_by (Refused cs) first ts =
    let all = refused_repeated cs first ts in
    rw all.1 all.2

headed_by : (heading : Outcome Heading) (o : Outcome Type') (first : Tree) (ts : Trees)
    → AreAnsweredAlike (with_both heading (repeated o (more first ts)) headed_type) (with_both heading (repeated o (more first none)) headed_type)
headed_by (Valued h) (Valued t) first ts = rw (valued_copies t ts) (headed_copies h t first ts)
headed_by (Valued h) (Refused cs) first ts =
    let all = refused_repeated cs first ts in
    rw all.1 all.2
headed_by (Refused es) (Valued t) first ts = rw (valued_copies t ts) refl
headed_by (Refused es) (Refused cs) first ts =
    let all = refused_repeated cs first ts in
    rw all.1 (ap (lesser (least es)) all.2)

-- the elements' types, where all are alike
all_types : (scope : Scope) (ps : NamedTrees) (ts : Trees) → AreLikeTuples ps ts → types_of scope (more (tuple ps) ts) ≡ repeated (type_of scope (tuple ps)) (more (tuple ps) ts)
all_types scope ps ts h = ap (λ o. with_both (type_of scope (tuple ps)) o (λ u us. Valued (u ∷ us))) (types_repeated scope ps ts h)

-- the first alone is enough
pub enough_of_alike : (ps : NamedTrees) (ts : Trees) → AreLikeTuples ps ts → AreEnough (more (tuple ps) ts) (more (tuple ps) none)
enough_of_alike ps ts h =
    record {
      listed = λ scope. rw (all_types scope ps ts h, all_types scope ps none tt) (listed_by (type_of scope (tuple ps)) (tuple ps) ts);
      headed = λ scope heading. rw (all_types scope ps ts h, all_types scope ps none tt) (headed_by heading (type_of scope (tuple ps)) (tuple ps) ts);
      relvars = λ scope. ap (λ r. relvars_in scope (tuple ps) ++ r) (no_relvars_in_all scope ps ts h);
      types = ap (λ r. types_in (tuple ps) ++ r) (no_types_in_all ps ts h);
    }

pub all_are_enough : (ts : Trees) → AreEnough ts ts
all_are_enough ts =
    record { listed = λ scope. alike_itself _; headed = λ scope heading. alike_itself _; relvars = λ scope. refl; types = refl }

-- a front part weighs no more than the whole
pub most_take : {X : Type 0} (f : X → ℕ) (n : ℕ) (xs : List X) → most f (take n xs) ≤ most f xs
most_take f zero xs = omega arith
most_take f (suc n) [] = omega arith
most_take f (suc n) (x ∷ xs) = omega (arith, most_take f n xs)
