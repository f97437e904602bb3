use Rattle.std.proofs.Common.{◌≡◌, ◌++◌, sym, ◌∙◌, ap, true}
use Rattle.std.specs.List.{list_all}
use Rattle.std.specs.Str.{chars}
use lib.Utf8.{encode}
use Rattle.std.proofs.lemmas.Str.{chars_past_char}
use Rattle.td_tree.specs.model.Names.{is_word_more, is_word_start}
use Rattle.td_tree.proofs.name.is_word.Goals as goal

pub returns-then-is_word_start : goal.returns-then-is_word_start
returns-then-is_word_start c =
    let begins : is_word_start c.in-Some.first ≡ true = sym c.is_word_start.ensures ∙ c.if-is_word_start.true in
    let front : c.args.text.now ≡ encode c.in-Some.first ++ c.next.new.self.rest.now = sym c.chars-characters.ensures.rest ∙ (c.in-Some.ensures).steps.0 in
    let parts = chars_past_char c.args.text.now c.next.new.self.rest.now c.in-Some.first c.utf8.text front in
    rw (parts, begins) (c.is_word_rest.ensures ∙ ap (λ s. list_all is_word_more (chars s)) c.as_str.ensures)
