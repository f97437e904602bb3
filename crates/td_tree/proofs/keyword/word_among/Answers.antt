use Rattle.std.proofs.Common.{sym, ap, ◌∙◌}
use Rattle.std.specs.Option.{option_copied}
use Rattle.std.specs.Prelude.{option_map}
use Rattle.td_tree.proofs.code_lemmas.Initials.{keyword_in, no_keyword, nothing_spelled}
use Rattle.td_tree.proofs.keyword.word_among.Goals as goal

pub returns-in_err-first : goal.returns-in_err-first
returns-in_err-first c = c.from_residual.ensures ∙ sym (nothing_spelled c.args.text.now (sym c.first.ensures.value ∙ ap option_copied c.in_err-first.was))

pub returns-in_err-initial : goal.returns-in_err-initial
returns-in_err-initial c =
    c.from_residual-in_err-initial.ensures
    ∙ sym (no_keyword (λ i. i.letter) (λ i. i.keywords.now) c.args.initials.now _ _ c.initial_of.ensures (ap (option_map (λ i. i.now)) c.in_err-initial.was)
    c.args.text.now _ (sym c.first.ensures.value ∙ ap option_copied c.in_ok-first.was) c.to_ascii_lowercase.ensures.value c.requires.0 c.requires.1)

pub returns : goal.returns
returns c =
    c.first_spelled.ensures
    ∙ sym (keyword_in (λ i. i.letter) (λ i. i.keywords.now) c.args.initials.now _ _ c.initial_of.ensures _ (ap (option_map (λ i. i.now)) c.in_ok-initial.was)
    c.args.text.now _ (sym c.first.ensures.value ∙ ap option_copied c.in_ok-first.was) c.to_ascii_lowercase.ensures.value c.requires.0 c.requires.1 c.requires.2)
