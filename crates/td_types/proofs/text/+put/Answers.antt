use Rattle.std.proofs.Common.{◌∙◌, ◌++◌, [], ap, codes, refl, string_bytes, subst, sym}
use Rattle.std.proofs.lemmas.List.{append-nil}
use Rattle.td_tree.specs.code.Fronts.{PutsFront}
use Rattle.td_tree.proofs.code_lemmas.Fronts.{begun_more, begun_none, front_more, front_none, on_err}
use Rattle.td_types.specs.model.Texts.{comma_if, heading_text, type_text}
use Rattle.td_types.specs.model.Types.{pack}
use Rattle.td_types.specs.code.Views.{heading_view, type_view}
use Rattle.td_types.proofs.TextFronts.{begun_inside, front_inside, last_unput, on_err_then, text_first}
use Rattle.td_types.proofs.text.+put.Goals as goal

pub put_heading-returns-in_err-push_str-clause-err : goal.put_heading-returns-in_err-push_str-clause-err
put_heading-returns-in_err-push_str-clause-err t c = on_err _ (front_none _ _ _ c.in_err-push_str.ensures.bytes)

pub put_heading-returns-in_err-put_comma-clause-err : goal.put_heading-returns-in_err-put_comma-clause-err
put_heading-returns-in_err-put_comma-clause-err t c =
    let here = text_first c.loop-attribute.later c.loop-attribute.attribute-index c.deref-attribute-items.result.now c.attribute-item.result c.loop-attribute-test.true c.attribute-item.is in
    on_err _ (subst (λ h. PutsFront (string_bytes c.args.out.now) (string_bytes c.put_comma.new.out) (heading_text (pack h))) (ap heading_view c.deref-attribute-items.ensures.value ∙ c.heading.view_is)
    (front_inside _ _ _ (codes "{") _ (codes "}") c.in_ok-push_str.ensures.bytes
    (front_more _ _ _ _ (comma_if c.loop-attribute.later) _ _ here c.loop-attribute.invariant (front_none _ _ _ c.in_err-put_comma.ensures.err))))

pub put_heading-returns-in_err-push_str-2-clause-err : goal.put_heading-returns-in_err-push_str-2-clause-err
put_heading-returns-in_err-push_str-2-clause-err t c =
    let here = text_first c.loop-attribute.later c.loop-attribute.attribute-index c.deref-attribute-items.result.now c.attribute-item.result c.loop-attribute-test.true c.attribute-item.is in
    let comma = begun_more _ _ _ _ (comma_if c.loop-attribute.later) _ _ here c.in_ok-put_comma.ensures.ok c.loop-attribute.invariant in
    on_err _ (subst (λ h. PutsFront (string_bytes c.args.out.now) (string_bytes c.push_str-in-loop-attribute.new.self) (heading_text (pack h))) (ap heading_view c.deref-attribute-items.ensures.value ∙ c.heading.view_is)
    (front_inside _ _ _ (codes "{") _ (codes "}") c.in_ok-push_str.ensures.bytes
    (front_more _ _ _ _ c.attribute-item.result.name _ _ refl comma (front_none _ _ _ c.in_err-push_str-2.ensures.bytes))))

pub put_heading-returns-in_err-push_str-3-clause-err : goal.put_heading-returns-in_err-push_str-3-clause-err
put_heading-returns-in_err-push_str-3-clause-err t c =
    let here = text_first c.loop-attribute.later c.loop-attribute.attribute-index c.deref-attribute-items.result.now c.attribute-item.result c.loop-attribute-test.true c.attribute-item.is in
    let comma = begun_more _ _ _ _ (comma_if c.loop-attribute.later) _ _ here c.in_ok-put_comma.ensures.ok c.loop-attribute.invariant in
    let name = begun_more _ _ _ _ c.attribute-item.result.name _ _ refl (c.in_ok-push_str-2.ensures.bytes ∙ ap (λ n. string_bytes c.put_comma.new.out ++ n) c.as_str.ensures.value) comma in
    on_err _ (subst (λ h. PutsFront (string_bytes c.args.out.now) (string_bytes c.push_str-in-loop-attribute-2.new.self) (heading_text (pack h))) (ap heading_view c.deref-attribute-items.ensures.value ∙ c.heading.view_is)
    (front_inside _ _ _ (codes "{") _ (codes "}") c.in_ok-push_str.ensures.bytes
    (front_more _ _ _ _ (codes " ") _ _ refl name (front_none _ _ _ c.in_err-push_str-3.ensures.bytes))))

pub put_heading-returns-in_err-put_type-clause-err : goal.put_heading-returns-in_err-put_type-clause-err
put_heading-returns-in_err-put_type-clause-err t c =
    let here = text_first c.loop-attribute.later c.loop-attribute.attribute-index c.deref-attribute-items.result.now c.attribute-item.result c.loop-attribute-test.true c.attribute-item.is in
    let comma = begun_more _ _ _ _ (comma_if c.loop-attribute.later) _ _ here c.in_ok-put_comma.ensures.ok c.loop-attribute.invariant in
    let name = begun_more _ _ _ _ c.attribute-item.result.name _ _ refl (c.in_ok-push_str-2.ensures.bytes ∙ ap (λ n. string_bytes c.put_comma.new.out ++ n) c.as_str.ensures.value) comma in
    let space = begun_more _ _ _ _ (codes " ") _ _ refl c.in_ok-push_str-3.ensures.bytes name in
    on_err _ (subst (λ h. PutsFront (string_bytes c.args.out.now) (string_bytes c.put_type.new.out) (heading_text (pack h))) (ap heading_view c.deref-attribute-items.ensures.value ∙ c.heading.view_is)
    (front_inside _ _ _ (codes "{") _ (codes "}") c.in_ok-push_str.ensures.bytes
    (front_more _ _ _ _ (type_text (type_view c.attribute-item.result.ty)) _ _ refl space (c.in_err-put_type.ensures.err))))

pub put_heading-loop-attribute-preserved : goal.put_heading-loop-attribute-preserved
put_heading-loop-attribute-preserved t c =
    let here = text_first c.loop-attribute.later c.loop-attribute.attribute-index c.deref-attribute-items.result.now c.attribute-item.result c.loop-attribute-test.true c.attribute-item.is in
    let comma = begun_more _ _ _ _ (comma_if c.loop-attribute.later) _ _ here c.in_ok-put_comma.ensures.ok c.loop-attribute.invariant in
    let name = begun_more _ _ _ _ c.attribute-item.result.name _ _ refl (c.in_ok-push_str-2.ensures.bytes ∙ ap (λ n. string_bytes c.put_comma.new.out ++ n) c.as_str.ensures.value) comma in
    let space = begun_more _ _ _ _ (codes " ") _ _ refl c.in_ok-push_str-3.ensures.bytes name in
    begun_more _ _ _ _ (type_text (type_view c.attribute-item.result.ty)) _ _ refl c.in_ok-put_type.ensures.ok space

pub put_heading-returns-clause-err : goal.put_heading-returns-clause-err
put_heading-returns-clause-err t c =
    last_unput _ _ _ _ c.push_str-2.ensures.bytes (λ same.
    subst (λ h. PutsFront (string_bytes c.args.out.now) (string_bytes c.push_str-2.new.self) (heading_text (pack h))) (ap heading_view c.deref-attribute-items.ensures.value ∙ c.heading.view_is)
    (subst (λ new. PutsFront (string_bytes c.args.out.now) new (heading_text (pack (heading_view c.deref-attribute-items.result.now)))) (sym same)
    (_, begun_inside _ _ _ _ (codes "{") _ (codes "}") c.in_ok-push_str.ensures.bytes c.loop-attribute.invariant)))

pub put_relation_type-returns-in_err-push_str-clause-err : goal.put_relation_type-returns-in_err-push_str-clause-err
put_relation_type-returns-in_err-push_str-clause-err t c = on_err _ (front_none _ _ _ c.in_err-push_str.ensures.bytes)

pub put_relation_type-returns-clause-err : goal.put_relation_type-returns-clause-err
put_relation_type-returns-clause-err t c =
    on_err_then {P = PutsFront (string_bytes c.push_str.new.self) (string_bytes c.put_heading.new.out) (heading_text (pack c.args.heading.now))} c.put_heading.result (front_more _ _ _ _ _ _ [] (sym (append-nil (heading_text (pack c.args.heading.now))))
    (begun_more (string_bytes c.args.out.now) (string_bytes c.args.out.now) _ _ (codes "RELATION ") _ _ refl c.in_ok-push_str.ensures.bytes (begun_none _ _))) c.put_heading.ensures.err

pub put_type-returns-in_err-push_str-in-Tup-clause-err : goal.put_type-returns-in_err-push_str-in-Tup-clause-err
put_type-returns-in_err-push_str-in-Tup-clause-err t c = on_err _ (front_none _ _ _ c.in_err-push_str-in-Tup.ensures.bytes)

pub put_type-returns-in_ok-push_str-in-Tup-clause-err : goal.put_type-returns-in_ok-push_str-in-Tup-clause-err
put_type-returns-in_ok-push_str-in-Tup-clause-err t c =
    on_err_then {P = PutsFront (string_bytes c.push_str-in-Tup.new.self) (string_bytes c.put_heading.new.out) (heading_text (pack c.in-Tup.heading))} c.put_heading.result
    (λ front. subst (λ h. PutsFront (string_bytes c.args.out.now) (string_bytes c.put_heading.new.out) (type_text h)) (sym (ap type_view c.in-Tup.is))
    (front_more _ _ _ _ _ _ [] (sym (append-nil (heading_text (pack c.in-Tup.heading))))
    (begun_more (string_bytes c.args.out.now) (string_bytes c.args.out.now) _ _ (codes "TUPLE ") _ _ refl c.in_ok-push_str-in-Tup.ensures.bytes (begun_none _ _)) front)) c.put_heading.ensures.err
