use Rattle.std.proofs.Common.{◌≡◌, ◌∙◌, List, ℕ, ap, refl}
use Rattle.td_types.specs.model.Headings.{heading_union}
use Rattle.td_types.specs.model.Types.{Heading}
use Rattle.td_algebra.specs.code.Columns.{column_attributes, columns_view}
use Rattle.td_algebra.specs.declared.extension.Column.{Column}
use Rattle.td_algebra.proofs.Extensions.{columns_moved, layout_range}
use Rattle.td_algebra.proofs.Settings.{setting_distinct, setting_headed, setting_heading, setting_rows}
use Rattle.td_algebra.proofs.Taken.{headed_by, relation_is}
use Rattle.td_algebra.proofs.setting.set_all.Goals as goal

-- a heading with the columns' attributes
with_columns : (made old new : Heading) (cs : List (List ℕ × Column)) → made ≡ heading_union old (column_attributes (columns_view cs)) → old ≡ new
    → made ≡ heading_union new (column_attributes (columns_view cs))
with_columns made old new cs e f = e ∙ ap (λ h. heading_union h (column_attributes (columns_view cs))) f

pub extended_layout-requires : goal.extended_layout-requires
extended_layout-requires c =
    setting_distinct c.in_ok-set.set c.heading-old.result.now c.args.columns.now c.deref.result.now
    (with_columns _ _ _ c.args.columns.now c.in_ok-set.ensures c.empty-nothing.ensures)
    (c.deref.ensures.value ∙ c.in_ok-names.ensures) c.reveal.ensures.heading c.requires.distinct

pub extended_rows-requires : goal.extended_rows-requires
extended_rows-requires c = record {
  fit = columns_moved _ _ _ _ refl c.rows.ensures.rows c.requires.fit;
  range = layout_range c.in_ok-set.set c.heading-old.result.now c.args.columns.now c.deref.result.now c.in_ok-layout.layout c.rows.result.now
      (c.deref.ensures.value ∙ c.in_ok-names.ensures) c.in_ok-layout.ensures
      (headed_by _ _ _ _ c.heading-old.ensures c.rows.ensures.rows c.rows.ensures.headed);
}

pub new-requires : goal.new-requires
new-requires c =
    let h = c.heading-old.result.now in
    let set = with_columns _ _ _ c.args.columns.now c.in_ok-set.ensures c.empty-nothing.ensures in
    let names = c.deref.ensures.value ∙ c.in_ok-names.ensures in
    setting_headed c.args.columns.now c.args.rel.now.heading c.in_ok-heading.heading c.args.rel.now.body c.in_ok-rows.rows.items
    c.rows.ensures.ascending c.requires.fit c.requires.distinct c.reveal-2.ensures.heading c.rows.ensures.headed c.in_ok-rows.ensures.valid
    (λ bs e. (
      setting_heading c.in_ok-set.set c.in_ok-others.others h c.args.rel.now.heading c.in_ok-heading.heading c.args.columns.now bs c.args.rel.now.body e set
          c.in_ok-others.ensures.heading c.heading-old.ensures c.in_ok-heading.ensures,
      setting_rows c.in_ok-set.set c.args.columns.now c.args.columns.now bs h c.args.rel.now.body c.rows.result.now c.in_ok-rows.rows.items c.deref.result.now c.in_ok-layout.layout
          set refl c.rows.ensures.rows e names (headed_by _ _ _ _ c.heading-old.ensures c.rows.ensures.rows c.rows.ensures.headed) c.in_ok-layout.ensures c.in_ok-rows.ensures.rows,
    ))

pub returns : goal.returns
returns c = λ bs e.
    let h = c.heading-old.result.now in
    let set = with_columns _ _ _ c.args.columns.now c.in_ok-set.ensures c.empty-nothing.ensures in
    let names = c.deref.ensures.value ∙ c.in_ok-names.ensures in
    relation_is c.new.result _ _ _ _
    (setting_heading c.in_ok-set.set c.in_ok-others.others h c.args.rel.now.heading c.in_ok-heading.heading c.args.columns.now bs c.args.rel.now.body e set
    c.in_ok-others.ensures.heading c.heading-old.ensures c.in_ok-heading.ensures)
    (setting_rows c.in_ok-set.set c.args.columns.now c.args.columns.now bs h c.args.rel.now.body c.rows.result.now c.in_ok-rows.rows.items c.deref.result.now c.in_ok-layout.layout
    set refl c.rows.ensures.rows e names (headed_by _ _ _ _ c.heading-old.ensures c.rows.ensures.rows c.rows.ensures.headed) c.in_ok-layout.ensures c.in_ok-rows.ensures.rows)
    c.new.ensures.value
