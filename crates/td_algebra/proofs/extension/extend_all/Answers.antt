use Rattle.std.proofs.Common.{◌∙◌, ◌++◌, ap, map, sym}
use Rattle.td_algebra.specs.code.Columns.{column_attributes, columns_view}
use Rattle.td_algebra.proofs.Extensions.{all_distinct, columns_moved, extension_headed, extension_heading, extension_rows, layout_range, names_of_all}
use Rattle.td_algebra.proofs.Ascents.{extension_ascends}
use Rattle.td_algebra.proofs.Taken.{headed_by, relation_is}
use Rattle.td_types.specs.model.Headings.{are_distinct, heading_union, outside}
use Rattle.td_types.specs.model.Types.{attribute_names}
use Rattle.td_algebra.proofs.extension.extend_all.Goals as goal

pub extended_layout-requires : goal.extended_layout-requires
extended_layout-requires c =
    let h = c.heading-old.result.now in
    ap (λ g. are_distinct (attribute_names (outside g h) ++ c.deref-3.result.now)) c.empty-nothing.ensures ∙ ap (λ ns. are_distinct (ns ++ c.deref-3.result.now)) (names_of_all h)
    ∙ all_distinct c.heading-old.result.now c.args.rel.now.heading c.args.columns.items c.deref-3.result.now c.heading-old.ensures
    (c.deref-3.ensures.value ∙ c.in_ok-names.ensures ∙ ap (λ cs. map (λ e. e.0) cs) c.deref-2.ensures.value) c.reveal.ensures.heading c.requires.distinct c.requires.new

pub extended_rows-requires : goal.extended_rows-requires
extended_rows-requires c = record {
  fit = columns_moved _ _ _ _ c.deref-4.ensures.value c.rows.ensures.rows c.requires.fit;
  range = layout_range _ c.heading-old.result.now c.deref-4.result.now c.deref-3.result.now c.in_ok-layout.layout c.rows.result.now
      (c.deref-3.ensures.value ∙ c.in_ok-names.ensures ∙ ap (λ cs. map (λ e. e.0) cs) (c.deref-2.ensures.value ∙ sym c.deref-4.ensures.value)) c.in_ok-layout.ensures
      (headed_by _ _ _ _ c.heading-old.ensures c.rows.ensures.rows c.rows.ensures.headed);
}

pub relation_of-requires : goal.relation_of-requires
relation_of-requires c =
    let h = c.heading-old.result.now in
    let names = c.deref-3.ensures.value ∙ c.in_ok-names.ensures ∙ ap (λ cs. map (λ e. e.0) cs) c.deref-2.ensures.value in
    let heading = c.in_ok-heading.ensures ∙ ap (λ cs. heading_union h (column_attributes (columns_view cs))) c.deref.ensures.value in
    record {
      headed =
          extension_headed c.args.columns.items c.args.rel.now.heading c.in_ok-heading.heading c.args.rel.now.body c.in_ok-rows.rows.items
          c.rows.ensures.ascending c.requires.fit c.requires.distinct c.requires.new c.reveal-2.ensures.heading c.rows.ensures.headed c.in_ok-rows.ensures.valid
          (λ bs e. (
            extension_heading c.args.columns.items bs h c.args.rel.now.heading c.in_ok-heading.heading c.args.rel.now.body e c.heading-old.ensures heading,
            extension_rows _ c.deref-4.result.now c.args.columns.items bs h c.args.rel.now.body c.rows.result.now c.in_ok-rows.rows.items c.deref-3.result.now c.in_ok-layout.layout c.empty-nothing.ensures
                c.deref-4.ensures.value c.rows.ensures.rows e names (headed_by _ _ _ _ c.heading-old.ensures c.rows.ensures.rows c.rows.ensures.headed) c.in_ok-layout.ensures c.in_ok-rows.ensures.rows,
          ));
      ascending = λ told.
          extension_ascends c.args.columns.items h c.args.rel.now.heading c.args.rel.now.body c.in_ok-rows.rows.items c.deref-5.result.now
          c.rows.ensures.ascending c.requires.fit c.requires.distinct c.requires.new c.rows.ensures.headed c.heading-old.ensures
          (c.deref-5.ensures.value ∙ c.in_ok-names.ensures ∙ ap (λ cs. map (λ e. e.0) cs) c.deref-2.ensures.value)
          (λ bs e. extension_rows _ c.deref-4.result.now c.args.columns.items bs h c.args.rel.now.body c.rows.result.now c.in_ok-rows.rows.items c.deref-3.result.now c.in_ok-layout.layout c.empty-nothing.ensures
          c.deref-4.ensures.value c.rows.ensures.rows e names (headed_by _ _ _ _ c.heading-old.ensures c.rows.ensures.rows c.rows.ensures.headed) c.in_ok-layout.ensures c.in_ok-rows.ensures.rows)
          (c.come_after-ascend.ensures told);
    }

pub returns : goal.returns
returns c = λ bs e.
    let h = c.heading-old.result.now in
    let names = c.deref-3.ensures.value ∙ c.in_ok-names.ensures ∙ ap (λ cs. map (λ e. e.0) cs) c.deref-2.ensures.value in
    let heading = c.in_ok-heading.ensures ∙ ap (λ cs. heading_union h (column_attributes (columns_view cs))) c.deref.ensures.value in
    relation_is c.relation_of.result _ _ _ _ (extension_heading c.args.columns.items bs h c.args.rel.now.heading c.in_ok-heading.heading c.args.rel.now.body e c.heading-old.ensures heading)
    (extension_rows _ c.deref-4.result.now c.args.columns.items bs h c.args.rel.now.body c.rows.result.now c.in_ok-rows.rows.items c.deref-3.result.now c.in_ok-layout.layout c.empty-nothing.ensures
    c.deref-4.ensures.value c.rows.ensures.rows e names (headed_by _ _ _ _ c.heading-old.ensures c.rows.ensures.rows c.rows.ensures.headed) c.in_ok-layout.ensures c.in_ok-rows.ensures.rows)
    c.relation_of.ensures
