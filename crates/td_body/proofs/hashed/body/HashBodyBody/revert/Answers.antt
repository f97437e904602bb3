use Rattle.std.proofs.Common.{◌≡◌, ◌∙◌, ◌++◌, ◌-◌, ◌∷◌, [], ℕ, List, ap, arith, length, map, subst}
use Rattle.std.specs.List.{All}
use Rattle.td_body.specs.model.Bodies.{HaveOneHeading}
use Rattle.td_body.specs.code.HashBodies.{IsHashBody, IsPlacedFor, kept_with_aside}
use Rattle.td_body.specs.code.Members.{Members}
use Rattle.td_body.proofs.HashBodyLaws.{body_back, kept_aside, kept_more, last_headed, placed_same}
use Rattle.td_body.proofs.MembersLaws.{front_holds, last_holds, none_there}
use Rattle.td_body.proofs.hashed.body.HashBodyBody.revert.Goals as goal

pub invariant_of-self : goal.invariant_of-self
invariant_of-self c =
    let m = c.self.inside.members in
    let n = c.go_back.new.self in
    let aside = c.self.inside.aside.items in
    body_back _ m n aside aside c.self.inside.count c.self.invariant (kept_more aside n m c.go_back.ensures.back)
    (placed_same _ m n c.go_back.ensures.heading c.go_back.ensures.places c.self.invariant.placed) c.self.invariant.placed_aside

-- what was put aside last is put back
module _ (keys : List (List (List ℕ))) (m before : Members) (aside rest : List Members) (count : ℕ) where
  kept_before : aside ≡ rest ++ before ∷ [] → length m.kept ≡ 0 → kept_with_aside aside m ≡ kept_with_aside rest before ++ before.relation ∷ []
  kept_before e none = ap (λ l. kept_with_aside l m) e ∙ kept_aside rest before m (none_there m.kept none)

  put_back : IsHashBody keys m aside count → aside ≡ rest ++ before ∷ [] → length m.kept ≡ 0 → IsHashBody keys before rest (count - 1)
  put_back b e none =
      let all : All (IsPlacedFor keys) (rest ++ before ∷ []) = subst (All (IsPlacedFor keys)) e b.placed_aside in
      body_back keys m before aside rest count b (kept_before e none) (last_holds (IsPlacedFor keys) rest before all) (front_holds (IsPlacedFor keys) rest before all)

  same_heading : IsHashBody keys m aside count → aside ≡ rest ++ before ∷ [] → length m.kept ≡ 0 → before.relation.heading ≡ m.relation.heading
  same_heading b e none = last_headed m.relation (kept_with_aside rest before) before.relation (subst (HaveOneHeading m.relation) (kept_before e none) b.headings)

pub invariant_of-self-in-Some : goal.invariant_of-self-in-Some
invariant_of-self-in-Some c =
    let none : length c.self.inside.members.kept ≡ 0 = omega (arith, c.kept_count.ensures, c.if-kept_count-gt0.false) in
    put_back (map (λ key. key.items) c.self.inside.keys.value.items) c.self.inside.members c.in-Some.before c.self.inside.aside.items c.pop.new.self.items c.self.inside.count
    c.self.invariant c.in-Some.ensures.items none

pub returns-in-Some-clause-heading : goal.returns-in-Some-clause-heading
returns-in-Some-clause-heading c =
    let none : length c.self.inside.members.kept ≡ 0 = omega (arith, c.kept_count.ensures, c.if-kept_count-gt0.false) in
    same_heading (map (λ key. key.items) c.self.inside.keys.value.items) c.self.inside.members c.in-Some.before c.self.inside.aside.items c.pop.new.self.items c.self.inside.count
    c.self.invariant c.in-Some.ensures.items none
    ∙ ap (λ b. b.relation.heading) c.self.view_is
