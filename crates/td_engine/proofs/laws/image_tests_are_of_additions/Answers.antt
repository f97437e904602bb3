use Rattle.td_engine.proofs.law_lemmas.ImageTests.{image_tests_are_of_additions}
use Rattle.td_engine.proofs.laws.image_tests_are_of_additions.Goals as goal

pub returns : goal.returns
returns c = image_tests_are_of_additions
