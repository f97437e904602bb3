-- The innermost of the headings entered, as they are passed over from the last.
use Rattle.std.proofs.Common.{◌≡◌, ◌∙◌, ℕ, List, [], ◌∷◌, Option, Some, None, ap, length, option_map, refl, reverse, sym, Bor, arith}
use Rattle.std.specs.List.{push}
use Rattle.std.proofs.lemmas.List.{reverse-append}
use Rattle.td_check.specs.model.Scopes.{innermost}
use Rattle.td_types.specs.model.Types.{Type', Heading, type_at}
use Rattle.td_types.specs.code.Views.{type_view}
use Rattle.td_types.specs.declared.ty.Ty.{Ty}

-- the last is passed over first
pub last_is_innermost : (name : List ℕ) (rest before : List Heading) (h : Heading) → before ≡ push rest h
    → innermost name (reverse before) ≡ innermost name (h ∷ reverse rest)
last_is_innermost name rest before h is = ap (λ hs. innermost name (reverse hs)) is ∙ ap (innermost name) (reverse-append rest (h ∷ []))

abbrev or_beyond : Option Type' → Option Type' → Option Type'
or_beyond o beyond = elim o as (λ _. Option Type') [ Some t ↦ Some t | None ↦ beyond ]

-- it has an attribute of the name
pub innermost_here : (name : List ℕ) (h : Heading) (hs : List Heading) (o : Option (Bor Ty)) (ty : Bor Ty) → o ≡ Some ty
    → option_map (λ t. type_view t.now) o ≡ type_at name h → Some (type_view ty.now) ≡ innermost name (h ∷ hs)
innermost_here name h hs o ty is found = ap (λ t. or_beyond t (innermost name hs)) (sym (ap (option_map (λ t. type_view t.now)) is) ∙ found)

-- it has none
pub innermost_beyond : (name : List ℕ) (h : Heading) (hs : List Heading) (o : Option (Bor Ty)) → o ≡ None
    → option_map (λ t. type_view t.now) o ≡ type_at name h → innermost name hs ≡ innermost name (h ∷ hs)
innermost_beyond name h hs o is found = ap (λ t. or_beyond t (innermost name hs)) (sym (ap (option_map (λ t. type_view t.now)) is) ∙ found)

-- there is none where none is left
pub innermost_nowhere : (name : List ℕ) (rest : List Heading) → length rest ≡ 0 → None ≡ innermost name (reverse rest)
innermost_nowhere name [] e = refl
innermost_nowhere name (h ∷ hs) e = absurd (omega (arith, e))
