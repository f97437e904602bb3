use Rattle.td_eval.proofs.law_lemmas.NewSettings.{new_settings_extend}
use Rattle.td_eval.proofs.laws.new_settings_extend.Goals as goal

pub returns : goal.returns
returns c = new_settings_extend
